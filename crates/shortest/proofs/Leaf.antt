-- Of a prefix that costs nothing only the prefix itself may get a route. Assumes nothing.
use Rattle.std.specs.Prelude.{◌≡◌, refl, List, [], ◌∷◌, ℕ, suc, ◌+◌, ◌*◌, length}
use Rattle.std.proofs.Common.{ap, ◌∙◌, arith}
use Rattle.routes.specs.Collect.{collect}
use Rattle.routes.specs.Route.{Route}
use Rattle.shortest.specs.Chosen.{set_of, above, chosen}
use Rattle.shortest.specs.Inside.{lacks, cost}
use Rattle.shortest.specs.Least.{some, collect_more}
use Rattle.shortest.specs.Given.{Hops, set_at, pick_some}
use Rattle.shortest.proofs.Given.{chosen-length}

length_none : (rs : List Route) → length rs ≡ 0 → rs ≡ []
length_none [] e = refl
length_none (r ∷ rs) e = absurd (omega arith)

pub chosen_leaf : (N W : ℕ) (G : ℕ → ℕ) (d v l : ℕ) → l + suc d ≡ W → Hops N G (suc d) v → cost G (suc d) v ≡ 0
    → (collect (chosen N W G) d (2 * v) (suc l) ≡ []) × (collect (chosen N W G) d (2 * v + 1) (suc l) ≡ [])
chosen_leaf N W G d v l e p z =
    let m = collect_more (chosen N W G) d v l in
    let n = chosen-length N W G (suc d) v l e p in
    let s : some (chosen N W G v l) ≡ lacks (set_of G (suc d) v) (above N W G l v) =
    ap some (set_at N W G (suc d) v l e) ∙ pick_some N (set_of G (suc d) v) (above N W G l v) in
    (length_none _ (omega (arith, m, n, s)), length_none _ (omega (arith, m, n, s)))
