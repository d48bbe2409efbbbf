-- The list that is chosen, found from the routes: where no longer one lies in a prefix nothing below it is looked at. So it is
-- computed for lists of any width, where the definition looks at every address. Assumes nothing.
use Rattle.std.specs.Prelude.{List, [], ◌++◌}
use Rattle.std.proofs.Math.Bool.{cond}
use Prim.Native.Nat.{ℕ, zero, suc, ◌+◌, ◌*◌, ◌^◌}
use Rattle.routes.specs.Route.{Route}
use Rattle.routes.specs.Collect.{own}
use Rattle.shortest.specs.HopSet.{only}
use Rattle.shortest.specs.Shortest.{forwards}
use Rattle.shortest.specs.Chosen.{meet, pick, under}
use Rattle.shortest.specs.Flat.{holds_b}

-- k of n, with n worked out before it is used twice
unfoldable pub known : {T : Type 0} → ℕ → (ℕ → T) → T
known zero k = k zero
known (suc n) k = k (suc n)

-- the set of the prefix v of length l, with d bits below it
unfoldable pub set_by : ℕ → List Route → ℕ → ℕ → ℕ → ℕ
set_by W rs zero v l = only (forwards W rs v)
set_by W rs (suc d) v l =
    cond (holds_b rs (suc d) v l)
    (known (set_by W rs d (2 * v) (suc l)) (λ x. known (set_by W rs d (2 * v + 1) (suc l)) (λ y. meet x y)))
    (only (forwards W rs (v * 2 ^ suc d)))

-- its route with the set m, and those inside it, where h comes from above
unfoldable pub routes_by : ℕ → ℕ → List Route → ℕ → ℕ → ℕ → ℕ → List Route
routes_by N W rs zero v l h = known (set_by W rs zero v l) (λ m. known (pick N m h) (own zero v l))
routes_by N W rs (suc d) v l h =
    known (set_by W rs (suc d) v l) (λ m. known (pick N m h) (λ r.
    own (suc d) v l r
    ++ cond (holds_b rs (suc d) v l)
    (routes_by N W rs d (2 * v) (suc l) (under r h) ++ routes_by N W rs d (2 * v + 1) (suc l) (under r h)) []))
