-- The list that is chosen is a shortest one. Assumes nothing.
use Rattle.std.specs.Prelude.{◌≡◌, true, List, ℕ, ◌+◌, ◌^◌, ◌≤◌, ◌<◌}
use Rattle.std.proofs.Math.Path.{sym, ap}
use Rattle.std.proofs.Common.{◌∙◌, arith}
use Rattle.std.proofs.Math.Bool.{false}
use Rattle.std.proofs.Math.ListN.{length}
use Rattle.routes.specs.Collect.{routes}
use Rattle.laws.specs.Longest.{longest-walk, wfs}
use Rattle.routes.specs.Route.{Route, All, held, Wf, IsList}
use Rattle.shortest.specs.HopSet.{has, has_zero}
use Rattle.shortest.specs.Chosen.{set_of, above, chosen, shortest}
use Rattle.shortest.specs.Inside.{cost}
use Rattle.shortest.specs.Shortest.{hop_of, forwards, IsShortest, upto}
use Rattle.shortest.specs.Lists.{carried_last}
use Rattle.shortest.specs.Proved.{Upto, upto_all, forwards-upto, forwards_some, inside, whole_list, whole_least}
use Rattle.shortest.proofs.Given.{chosen-length, chosen-carried}

module _ (N W : ℕ) (w : W < 256) (n : N < 65535) (G : ℕ → ℕ) (hops : (a : ℕ) → a < 2 ^ W → (1 ≤ G a) × (G a ≤ N)) where
  -- one more than the cost
  pub whole_length : length (routes W (chosen N W G)) ≡ cost G W 0 + 1
  unfolding routes above
  whole_length =
      let e : has (set_of G W 0) 0 ≡ false = has_zero (set_of G W 0) in
      (rw e at (chosen-length N W G W 0 0 (omega arith) (inside N W w n G hops)))

  pub whole_forwards : (a : ℕ) → a < 2 ^ W → forwards W (routes W (chosen N W G)) a ≡ G a
  unfolding above
  whole_forwards a b =
      ap hop_of (longest-walk W (chosen N W G) a w b) ∙ sym (carried_last (chosen N W G) W a)
      ∙ chosen-carried N W G W 0 0 (omega arith) (inside N W w n G hops) a (record { from = omega arith; to = omega (arith, b) })

-- a list of W bits with the default route and no hop over N has its shortest
pub shortest_is : (N W : ℕ) (qs : List Route) → W < 256 → N < 65535 → All (Wf W) qs → 1 ≤ held qs 0 0 → All (Upto N) qs
    → IsShortest W qs (shortest N W qs)
unfolding shortest
shortest_is N W qs w n f p u = record {
  list = whole_list N W w n G hops;
  alike = whole_forwards N W w n G hops;
  least = λ ps g s. omega (arith, whole_length N W w n G hops, whole_least N W w n G hops ps g s);
}
  where
    G : ℕ → ℕ
    G = forwards W qs

    hops : (a : ℕ) → a < 2 ^ W → (1 ≤ G a) × (G a ≤ N)
    hops a b = (forwards_some W a qs w f p b, forwards-upto N W a qs u)

-- a list of document 01 with the default route and no hop over 32
pub shortest_of : (qs : List Route) → IsList 32 qs → 1 ≤ held qs 0 0 → upto 32 qs ≡ true → IsShortest 32 qs (shortest 32 32 qs)
shortest_of qs l p u =
    shortest_is 32 32 qs (omega arith) (omega arith) (wfs 32 qs l.routes) p (upto_all 32 qs u)
