-- The list that is chosen depends on what is forwarded alone: lists that forward alike have the same one. Assumes nothing.
use Rattle.std.specs.Prelude.{◌≡◌, List}
use Rattle.std.proofs.Math.Path.{refl}
use Rattle.std.proofs.Common.{ap, ap₂, arith}
use Prim.Native.Nat.{ℕ, zero, suc, ◌+◌, ◌-◌, ◌*◌, ◌/◌, ◌^◌, ◌≤◌, ◌<◌}
use Rattle.std.proofs.Math.Nat.{pow-succ'}
use Rattle.routes.specs.Route.{Route}
use Rattle.routes.specs.Collect.{collect, routes}
use Rattle.shortest.specs.HopSet.{only}
use Rattle.shortest.specs.Shortest.{forwards, Alike}
use Rattle.shortest.specs.Chosen.{meet, set_of, above, chosen, shortest}
use Rattle.shortest.specs.Inside.{In, in_one, in_left, in_right, in_low}

set_same : (G H : ℕ → ℕ) (d v : ℕ) → ((a : ℕ) → In d v a → G a ≡ H a) → set_of G d v ≡ set_of H d v
unfolding set_of
set_same G H zero v e = ap only (e v (in_one v))
set_same G H (suc d) v e =
    ap₂ meet (set_same G H d (2 * v) (λ a i. e a (in_left d v a i)))
    (set_same G H d (2 * v + 1) (λ a i. e a (in_right d v a i)))

module _ (N W : ℕ) (G H : ℕ → ℕ) (e : (a : ℕ) → a < 2 ^ W → G a ≡ H a) where
  same_set : (d v l : ℕ) → l + d ≡ W → v < 2 ^ l → set_of G d v ≡ set_of H d v
  same_set d v l s b = set_same G H d v (λ a i. e a (in_low W d v l a s b i))

  same_above : (l v : ℕ) → l ≤ W → v < 2 ^ l → above N W G l v ≡ above N W H l v
  unfolding above
  same_above zero v h b = refl
  same_above (suc l) v h b =
      let u : v / 2 < 2 ^ l = omega (arith, pow-succ' 2 l) in
      rw (same_above l (v / 2) (omega arith) u, same_set (W - l) (v / 2) l (omega arith) u)

  same_chosen : (l v : ℕ) → l ≤ W → v < 2 ^ l → chosen N W G v l ≡ chosen N W H v l
  unfolding chosen
  same_chosen l v h b = rw (same_above l v h b, same_set (W - l) v l (omega arith) b)

  same_collect : (d v l : ℕ) → l + d ≡ W → v < 2 ^ l → collect (chosen N W G) d v l ≡ collect (chosen N W H) d v l
  unfolding collect
  same_collect zero v l s b = rw (same_chosen l v (omega arith) b)
  same_collect (suc d) v l s b =
      rw (
        same_chosen l v (omega arith) b,
        same_collect d (2 * v) (suc l) (omega arith) (omega (arith, pow-succ' 2 l)),
        same_collect d (2 * v + 1) (suc l) (omega arith) (omega (arith, pow-succ' 2 l)),
      )

pub shortest_alone : (N W : ℕ) (ps qs : List Route) → Alike W ps qs → shortest N W ps ≡ shortest N W qs
unfolding shortest routes
shortest_alone N W ps qs e = same_collect N W (forwards W ps) (forwards W qs) e W 0 0 (omega arith) (omega arith)
