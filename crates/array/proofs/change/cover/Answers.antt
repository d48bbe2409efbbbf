-- `array::change::cover` meets its contract. The cover above the two halves of the slot that the loop stands at is the one asked
-- for: a free slot has the cover of the slot above it. Assumes nothing.
use Rattle.std.proofs.Common.{◌≡◌, ◌≢◌, ℕ, zero, suc, ◌+◌, ◌-◌, ◌*◌, ◌/◌, ◌<◌, refl, sym, ◌∙◌, arith, add-one}
use Rattle.sizes.specs.Sizes.{hop_bound}
use Rattle.array.specs.Page.{best_of}
use Rattle.array.specs.Best.{above, best_some, best_none}
use Rattle.array.proofs.change.cover.Goals as goal

-- the slot above a slot's half is the slot
half_above : (f : ℕ → ℕ) (s d : ℕ) → above f (2 * s) (d + 1) ≡ best_of f s d
unfolding above
half_above f s d = let e : 2 * s / 2 ≡ s = omega arith in rw (add-one d, e)

half_same : (f : ℕ → ℕ) (s d : ℕ) → above f s d ≡ above f (2 * (s / 2)) d
unfolding above
half_same f s zero = refl
half_same f s (suc d) = let e : 2 * (s / 2) / 2 ≡ s / 2 = omega arith in rw e

module _ (f : ℕ → ℕ) (s d t e : ℕ) (n : 0 < d) (left : above f (2 * s) d ≡ best_of f t e) where
  here : best_of f s (d - 1) ≡ best_of f t e
  here = let q : d ≡ d - 1 + 1 = omega arith in sym (half_above f s (d - 1)) ∙ rw q at left

  at_hop : (h : ℕ) → h ≡ f s → h ≢ 0 → (d - 1) * hop_bound + h ≡ best_of f t e
  at_hop h q z = rw q (sym (best_some f s (d - 1) (rw q at z)) ∙ here)

  at_free : (h : ℕ) → h ≡ f s → h ≡ 0 → above f (2 * (s / 2)) (d - 1) ≡ best_of f t e
  at_free h q z = sym (half_same f s (d - 1)) ∙ sym (best_none f s (d - 1) (sym q ∙ z)) ∙ here

none_left : (f : ℕ → ℕ) (s d t e : ℕ) → d ≡ 0 → above f (2 * s) d ≡ best_of f t e → 0 ≡ best_of f t e
unfolding above
none_left f s d t e z q = rw z at q

pub loop-d-init : goal.loop-d-init
loop-d-init c = record { high = omega arith; left = half_above _ _ _ }

pub returns-then-hop-ne0 : goal.returns-then-hop-ne0
returns-then-hop-ne0 c =
    let l = c.loop-d in
    let h = c.hop_of-hop in
    (at_hop _ l.s l.d _ _ (omega arith) l.invariant.left h.result h.ensures.0 c.if-hop-ne0.true, omega arith)

pub loop-d-preserved : goal.loop-d-preserved
loop-d-preserved c =
    let l = c.loop-d in
    let h = c.hop_of-hop in
    record {
      high = omega arith;
      left = at_free _ l.s l.d _ _ (omega arith) l.invariant.left h.result h.ensures.0 c.if-hop-ne0.false;
    }

pub returns : goal.returns
returns c =
    let l = c.loop-d in
    (none_left _ l.s l.d _ _ (omega arith) l.invariant.left, omega arith)
