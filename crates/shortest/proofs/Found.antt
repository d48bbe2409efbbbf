-- The list that is found from the routes is the one that is chosen. Assumes nothing.
use Rattle.std.specs.Prelude.{◌≡◌, List, [], ◌++◌}
use Rattle.std.proofs.Math.Path.{refl, sym, ap}
use Rattle.std.proofs.Common.{◌∙◌, arith}
use Rattle.std.proofs.Math.Bool.{cond}
use Prim.Native.Nat.{ℕ, zero, suc, ◌+◌, ◌*◌, ◌^◌, ◌≤◌, ◌<◌}
use Rattle.std.proofs.Math.Nat.{pow-succ'}
use Rattle.logic.specs.Cases.{bool}
use Rattle.routes.specs.Route.{Route, All, held}
use Rattle.routes.specs.Collect.{own, collect, routes}
use Rattle.laws.specs.Longest.{Wfs}
use Rattle.shortest.specs.HopSet.{only}
use Rattle.shortest.specs.Shortest.{forwards}
use Rattle.shortest.specs.Chosen.{meet, set_of, pick, under, above, chosen, shortest}
use Rattle.shortest.specs.Inside.{in_low}
use Rattle.shortest.specs.Given.{set_at, below}
use Rattle.shortest.specs.Flat.{holds_b, flat-set}
use Rattle.shortest.specs.Proved.{Upto, forwards_some, forwards-upto}
use Rattle.shortest.specs.Found.{known, set_by, routes_by}
use Rattle.shortest.proofs.Leaf.{chosen_leaf}

known_is : {T : Type 0} (n : ℕ) (k : ℕ → T) → known n k ≡ k n
unfolding known
known_is zero k = refl
known_is (suc n) k = refl

module _ (N W : ℕ) (w : W < 256) (rs : List Route) (f : Wfs W rs) where
  abbrev G : ℕ → ℕ
  G = forwards W rs

  set_last : (v l : ℕ) → set_by W rs zero v l ≡ set_of G zero v
  unfolding set_by set_of
  set_last v l = refl

  -- without the working out
  set-step : (d v l : ℕ) → set_by W rs (suc d) v l
      ≡ cond (holds_b rs (suc d) v l) (meet (set_by W rs d (2 * v) (suc l)) (set_by W rs d (2 * v + 1) (suc l)))
      (only (forwards W rs (v * 2 ^ suc d)))
  unfolding set_by
  set-step d v l =
      let x = set_by W rs d (2 * v) (suc l) in
      let y = set_by W rs d (2 * v + 1) (suc l) in
      ap (λ (m : ℕ). cond (holds_b rs (suc d) v l) m (only (forwards W rs (v * 2 ^ suc d))))
      (known_is x (λ x. known y (λ y. meet x y)) ∙ known_is y (meet x))

  routes-step : (d v l h r : ℕ) → pick N (set_by W rs (suc d) v l) h ≡ r → routes_by N W rs (suc d) v l h
      ≡ own (suc d) v l r ++ cond (holds_b rs (suc d) v l)
      (routes_by N W rs d (2 * v) (suc l) (under r h) ++ routes_by N W rs d (2 * v + 1) (suc l) (under r h)) []
  unfolding routes_by
  routes-step d v l h r e =
      let s = set_by W rs (suc d) v l in
      known_is s _ ∙ known_is (pick N s h) _ ∙ rw e

  last_step : (v l h : ℕ) → routes_by N W rs zero v l h ≡ own zero v l (pick N (set_by W rs zero v l) h)
  unfolding routes_by
  last_step v l h =
      let s = set_by W rs zero v l in
      known_is s (λ m. known (pick N m h) (own zero v l)) ∙ known_is (pick N s h) (own zero v l)

  set_by_fact : (d v l : ℕ) → l + d ≡ W → v < 2 ^ l → set_by W rs d v l ≡ set_of G d v
  unfolding set_of
  set_by_fact zero v l e b = set_last v l
  set_by_fact (suc d) v l e b =
      set-step d v l
      ∙ bool (holds_b rs (suc d) v l)
      (λ t. rw (
        t,
        set_by_fact d (2 * v) (suc l) (omega arith) (omega (arith, pow-succ' 2 l)),
        set_by_fact d (2 * v + 1) (suc l) (omega arith) (omega (arith, pow-succ' 2 l)),
      ))
      (λ t. rw t (sym (flat-set W w rs f (suc d) v l e b t).0))

  module _ (hops : (a : ℕ) → a < 2 ^ W → (1 ≤ G a) × (G a ≤ N)) where
    routes_by_fact : (d v l h : ℕ) → l + d ≡ W → v < 2 ^ l → h ≡ above N W G l v
        → routes_by N W rs d v l h ≡ collect (chosen N W G) d v l
    unfolding collect
    routes_by_fact zero v l h e b i = last_step v l h ∙ rw (set_by_fact zero v l e b, i, set_at N W G zero v l e)
    routes_by_fact (suc d) v l h e b i =
        let r = chosen N W G v l in
        let q : pick N (set_by W rs (suc d) v l) h ≡ r = rw (set_by_fact (suc d) v l e b, i) (sym (set_at N W G (suc d) v l e)) in
        routes-step d v l h r q
        ∙ bool (holds_b rs (suc d) v l)
        (λ t.
        let u : under r h ≡ under r (above N W G l v) = rw i in
        rw (
          t,
          routes_by_fact d (2 * v) (suc l) (under r h) (omega arith) (omega (arith, pow-succ' 2 l))
              (u ∙ sym (below N W G d v l (2 * v) e (omega arith))),
          routes_by_fact d (2 * v + 1) (suc l) (under r h) (omega arith) (omega (arith, pow-succ' 2 l))
              (u ∙ sym (below N W G d v l (2 * v + 1) e (omega arith))),
        ))
        (λ t.
        let k = chosen_leaf N W G d v l e (λ a j. hops a (in_low W (suc d) v l a e b j))
        (flat-set W w rs f (suc d) v l e b t).1 in
        rw (t, k.0, k.1))

  pub shortest_by : 1 ≤ held rs 0 0 → All (Upto N) rs → shortest N W rs ≡ routes_by N W rs W 0 0 0
  unfolding shortest routes above
  shortest_by p u =
      sym (routes_by_fact (λ a b. (forwards_some W a rs w f p b, forwards-upto N W a rs u)) W 0 0 0 (omega arith) (omega arith)
      refl)
