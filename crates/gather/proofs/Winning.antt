-- The winners of the gathered candidates are the routes of the winning hops, slot by slot. Assumes nothing.
--
--     words g v l f ── gathered ──▶ candidates ── winners ──▶ routes
--           │                                                   ║
--           └── won_hop, slot by slot ──▶ hops ── routes ──▶ routes
use Rattle.std.specs.Prelude.{◌≡◌, refl, ◌≢◌}
use Rattle.std.proofs.Common.{sym, ap, ◌∙◌, arith, shl_lt, lt-ltb}
use Rattle.std.proofs.Math.Path.{ap₂}
use mathlib.Core.List.{List, [], ◌∷◌, ◌++◌}
use Rattle.std.proofs.Math.Option.{Option, none}
use Prim.Native.Nat.{ℕ, zero, suc, ◌+◌, ◌-◌, ◌*◌, ◌^◌, ◌≤◌, ◌<◌}
use Rattle.std.proofs.Math.Nat.{mul-mod_left}
use Rattle.logic.specs.Cases.{same, tri}
use Rattle.routes.specs.Route.{Route, route, From, All, hop_at, insert}
use Rattle.routes.specs.Route as plain
use Rattle.routes.specs.Collect.{own, collect, routes}
use Rattle.laws.specs.Sorted as sorted
use Rattle.laws.specs.Sorted.{all_insert}
use Rattle.laws.specs.Collect.{dbl, own_goods, own_hit, own_miss, routes_hop}
use Rattle.candidates.specs.Keyed.{Ordered, Every}
use Rattle.candidates.specs.Candidate.{Candidate, prefix_key, key, hop_of, IsCandidate, IsList}
use Rattle.candidates.specs.Winners.{best, winning, winners}
use Rattle.rivals.specs.Maps.{every_map, weaken}
use Rattle.rivals.specs.Append.{every_append, inside_ordered, inside_every}
use Rattle.rivals.specs.Won.{Good, best_skip, winners_hop, winners_from, winners_good}
use Rattle.rivals.specs.Lowest.{each_both}
use Rattle.slots.specs.Word.{IsFeed, word_for, hop_in, RightWord}
use Rattle.slots.specs.Winner.{won_hop, winner_same}
use Rattle.slots.specs.Slot.{RightSlot}
use Rattle.slots.specs.Prefix.{Fit, word_in, winner_fits}
use Rattle.gather.specs.Gather.{meant, listed, of_slot, gather, gathered}
use Rattle.gather.proofs.Gather.{slot_inside, slot_hit, slot_every}
use Rattle.gather.proofs.Found.{gather-inside, gathered_ordered}
use Rattle.gather.specs.Winning.{best_none, winners-append, one_fits, one_prefix, one_short, word_back, own_from, one_is}

module _ (g : ℕ → ℕ) (d v l : ℕ) (s : l < 256) (p : RightSlot g) where
  abbrev k₀ : ℕ
  k₀ = v * 2 ^ d * 256 + l

  abbrev cs₀ : List Candidate
  cs₀ = of_slot g d v l

  slot_fits : Every (Fit 1 4) cs₀
  slot_fits = slot_every g d v l (Fit 1 4) (λ f i. one_fits d v l f (g f) i (p f i))

  slot_prefix : Every (λ c. prefix_key c ≡ k₀) cs₀
  slot_prefix = slot_every g d v l (λ c. prefix_key c ≡ k₀) (λ f i. one_prefix d v l f (g f))

  slot_good : Every Good cs₀
  slot_good =
      each_both (Fit 1 4) (λ c. c.len < 256) Good (λ c x y. record {
        pos = x.pos;
        short = y;
        few = omega (
          arith,
          x.high,
        );
      }) cs₀
      slot_fits (slot_every g d v l (λ c. c.len < 256) (λ f i. one_short d v l f (g f) s))

  slot_ordered : Ordered key 0 cs₀
  slot_ordered = weaken key cs₀ (omega arith) (inside_ordered key _ _ cs₀ (slot_inside g d v l))

  slot_won : winning cs₀ k₀ ≡ won_hop g
  slot_won =
      winner_fits cs₀ k₀ slot_ordered slot_fits
      ∙ ap hop_in (winner_same (word_in cs₀ k₀) g (λ f i. ap word_for (slot_hit g d v l f i)
      ∙ word_back d v l f (g f)))

  slot_winners : winners cs₀ ≡ own d v l (won_hop g)
  slot_winners =
      sorted.ext 0 (winners cs₀) (own d v l (won_hop g)) (winners_from cs₀)
      (own_from d v l (won_hop g))
      (winners_good cs₀ slot_good) (own_goods d v l (won_hop g) s)
      (λ k. same k₀ k
      (λ e _. rw (← e) (winners_hop cs₀ k₀ ∙ slot_won
      ∙ sym (own_hit d v l (won_hop g) k₀ refl)))
      (λ n _. winners_hop cs₀ k
      ∙ ap hop_of (best_none cs₀ k
      (every_map (λ c. prefix_key c ≡ k₀) (λ c. prefix_key c ≢ k) (λ c e z. n (sym e
      ∙ z)) cs₀ slot_prefix))
      ∙ sym (own_miss d v l (won_hop g) k n)))

module _ (g : ℕ → ℕ → ℕ → ℕ) (p : (v l : ℕ) → RightSlot (g v l)) where
  gather-fits : (d v l : ℕ) → l + d < 256 → Every (Fit 1 4) (gather g d v l)
  unfolding gather
  gather-fits zero v l s = slot_fits (g v l) zero v l (omega arith) (p v l)
  gather-fits (suc d) v l s =
      every_append (Fit 1 4) (of_slot (g v l) (suc d) v l) _ (slot_fits (g v l) (suc d) v l (omega arith) (p v l))
      (every_append (Fit 1 4) (gather g d (2 * v) (suc l)) _ (gather-fits d (2 * v) (suc l) (omega arith))
      (gather-fits d (2 * v + 1) (suc l) (omega arith)))

  -- where the prefixes below one lie
  gather_from : (m d v l : ℕ) → l + d < 256 → m ≤ v * 2 ^ d * 256 + l → Every (λ c. m ≤ prefix_key c) (gather g d v l)
  gather_from m d v l s h =
      each_both (Fit 1 4) (λ c. ((v * 2 ^ d * 256 + l) * 8 ≤ key c) × (key c < (v + 1) * 2 ^ d * 256 * 8)) (λ c. m ≤ prefix_key c)
      (λ c x y. omega (arith, x.high, y.0)) (gather g d v l) (gather-fits d v l s)
      (inside_every key _ _ (gather g d v l) (gather-inside g d v l s))

  gather_to : (m d v l : ℕ) → l + d < 256 → (v + 1) * 2 ^ d * 256 ≤ m → Every (λ c. prefix_key c < m) (gather g d v l)
  gather_to m d v l s h =
      every_map (λ c. ((v * 2 ^ d * 256 + l) * 8 ≤ key c) × (key c < (v + 1) * 2 ^ d * 256 * 8)) (λ c. prefix_key c < m)
      (λ c y. omega (arith, y.1)) (gather g d v l) (inside_every key _ _ (gather g d v l) (gather-inside g d v l s))

  gather-winners : (d v l : ℕ) → l + d < 256 → winners (gather g d v l) ≡ collect (λ v l. won_hop (g v l)) d v l
  unfolding gather collect
  gather-winners zero v l s = slot_winners (g v l) zero v l (omega arith) (p v l)
  gather-winners (suc d) v l s =
      winners-append (v * 2 ^ suc d * 256 + suc l) (of_slot (g v l) (suc d) v l) _
      (every_map (λ c. prefix_key c ≡ v * 2 ^ suc d * 256 + l) (λ c. prefix_key c < v * 2 ^ suc d * 256 + suc l)
      (λ c e. omega arith) (of_slot (g v l) (suc d) v l) (slot_prefix (g v l) (suc d) v l (omega arith) (p v l)))
      (every_append (λ c. v * 2 ^ suc d * 256 + suc l ≤ prefix_key c) (gather g d (2 * v) (suc l)) _
      (gather_from _ d (2 * v) (suc l) (omega arith) (omega (arith, dbl v d)))
      (gather_from _ d (2 * v + 1) (suc l) (omega arith) (omega (arith, dbl v d))))
      ∙ ap₂ ◌++◌ (slot_winners (g v l) (suc d) v l (omega arith) (p v l))
      (winners-append ((2 * v + 1) * 2 ^ d * 256) (gather g d (2 * v) (suc l)) (gather g d (2 * v + 1) (suc l))
      (gather_to _ d (2 * v) (suc l) (omega arith) (omega arith))
      (gather_from _ d (2 * v + 1) (suc l) (omega arith) (omega arith))
      ∙ ap₂ ◌++◌ (gather-winners d (2 * v) (suc l) (omega arith)) (gather-winners d (2 * v + 1) (suc l) (omega arith)))

  pub gathered-winners : (W : ℕ) → W < 256 → winners (gathered W g) ≡ routes W (λ v l. won_hop (g v l))
  unfolding gathered routes
  gathered-winners W w = gather-winners W 0 0 (omega arith)

  -- so the winning hop at a prefix is its slot's
  pub gathered_won : (W v l : ℕ) → W < 256 → l ≤ W → v < 2 ^ l
      → winning (gathered W g) (v * 2 ^ (W - l) * 256 + l) ≡ won_hop (g v l)
  gathered_won W v l w h b =
      sym (winners_hop (gathered W g) (v * 2 ^ (W - l) * 256 + l))
      ∙ ap (λ (rs : List Route). hop_at rs (v * 2 ^ (W - l) * 256 + l)) (gathered-winners W w)
      ∙ routes_hop W w (λ v l. won_hop (g v l)) v l h b

  slot_is : (W d v l : ℕ) → l + d ≡ W → v < 2 ^ l → Every (IsCandidate W) (of_slot (g v l) d v l)
  slot_is W d v l e b = slot_every (g v l) d v l (IsCandidate W) (λ f i. (one_is g p) W d v l f (g v l f) e b i (p v l f i))

  gather_is : (W d v l : ℕ) → l + d ≡ W → v < 2 ^ l → Every (IsCandidate W) (gather g d v l)
  unfolding gather
  gather_is W zero v l e b = slot_is W zero v l e b
  gather_is W (suc d) v l e b =
      every_append (IsCandidate W) (of_slot (g v l) (suc d) v l) _ (slot_is W (suc d) v l e b)
      (every_append (IsCandidate W) (gather g d (2 * v) (suc l)) _ (gather_is W d (2 * v) (suc l) (omega arith) (omega arith))
      (gather_is W d (2 * v + 1) (suc l) (omega arith) (omega arith)))

  pub gathered_list : (W : ℕ) → W < 256 → IsList W (gathered W g)
  unfolding gathered
  gathered_list W w =
      record { sorted = gathered_ordered W w g; candidates = gather_is W W 0 0 (omega arith) (omega arith) }
