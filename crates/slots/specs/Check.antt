-- What the check of a page's slots computes: whether they are right, and whether one past the first has a candidate. Assumes
-- nothing.
use Rattle.std.specs.Prelude.{◌≡◌, refl, Bool, true, false, ◌&&◌, List, ℕ, zero, suc, ◌+◌, ◌-◌, ◌*◌, ◌≤◌, ◌<◌, eqb}
use Rattle.std.proofs.Common.{ap, ◌∙◌, arith}
use Rattle.logic.specs.Cases.{bool, same}
use Rattle.logic.specs.Every.{all_b}
use Rattle.logic.specs.Reflects.{Reflects, reflects_all, reflects_as, all_same}
use Rattle.sizes.specs.Sizes.{slot_words, slot_at, last_slot, slot_end, later_slots}
use Rattle.slots.specs.Zeros.{zero_at}
use Rattle.slots.specs.Winner.{won_hop}
use Rattle.slots.specs.Slot.{RightSlot, right_slot_b, right_slot_reflects, free_slot_b, free_slot_reflects}
use Rattle.slots.specs.Slot.{free_won, won_free}
use Rattle.slots.specs.Page.{words_at}

-- ---- every slot is right

abbrev pub RightSlots : List ℕ → Type 0
RightSlots ws = (s : ℕ) → 1 ≤ s → s < slot_end → RightSlot (words_at ws (slot_at s))

unfoldable pub right_slots_b : List ℕ → Bool
right_slots_b ws = all_b (λ s. right_slot_b (words_at ws (slot_at (s + 1)))) last_slot

pub right_slots_reflects : (ws : List ℕ) → Reflects (right_slots_b ws) (RightSlots ws)
unfolding right_slots_b
right_slots_reflects ws =
    reflects_as
    (λ z s a b. let e : s - 1 + 1 ≡ s = omega arith in rw e at (z (s - 1) (omega arith)))
    (λ z s h. z (s + 1) (omega arith) (omega arith))
    (reflects_all (λ s. right_slot_b (words_at ws (slot_at (s + 1)))) (λ s. RightSlot (words_at ws (slot_at (s + 1)))) last_slot
    (λ s h. right_slot_reflects (words_at ws (slot_at (s + 1)))))

-- ---- every slot past the first is free

unfoldable pub bare_slots_b : List ℕ → Bool
bare_slots_b ws = all_b (λ s. free_slot_b (words_at ws (slot_at (s + 2)))) later_slots

-- where they are right, that is the test of the winning hops
free_hop : (g : ℕ → ℕ) → RightSlot g → free_slot_b g ≡ eqb (won_hop g) 0
free_hop g r =
    same (won_hop g) 0
    (λ z e. rw e ((free_slot_reflects g).from (won_free g r z)))
    (λ n e. rw e (bool (free_slot_b g) (λ t. absurd (n (free_won g ((free_slot_reflects g).to t)))) (λ t. t)))

pub bare_won : (ws : List ℕ) → RightSlots ws
    → bare_slots_b ws ≡ all_b (λ s. eqb (won_hop (words_at ws (slot_at (s + 2)))) 0) later_slots
unfolding bare_slots_b
bare_won ws r =
    all_same (λ s. free_slot_b (words_at ws (slot_at (s + 2)))) (λ s. eqb (won_hop (words_at ws (slot_at (s + 2)))) 0) later_slots
    (λ s h. free_hop (words_at ws (slot_at (s + 2))) (r (s + 2) (omega arith) (omega arith)))

-- and always the same as a test of words
and_four : (a b c d e : Bool) → ((((a && b) && c) && d) && e) ≡ (a && (b && (c && (d && e))))
and_four false b c d e = refl
and_four true false c d e = refl
and_four true true false d e = refl
and_four true true true d e = refl

words_free : (ws : List ℕ) (n : ℕ)
    → all_b (zero_at ws (slot_at 2)) (slot_words * n) ≡ all_b (λ s. free_slot_b (words_at ws (slot_at (s + 2)))) n
unfolding all_b free_slot_b
words_free ws zero = refl
words_free ws (suc n) =
    let e : 4 * suc n ≡ suc (suc (suc (suc (4 * n)))) = omega arith in
    let w₁ : 8 + 4 * n ≡ 4 * (n + 2) + 1 - 1 = omega arith in
    let w₂ : 8 + suc (4 * n) ≡ 4 * (n + 2) + 2 - 1 = omega arith in
    let w₃ : 8 + suc (suc (4 * n)) ≡ 4 * (n + 2) + 3 - 1 = omega arith in
    let w₄ : 8 + suc (suc (suc (4 * n))) ≡ 4 * (n + 2) + 4 - 1 = omega arith in
    ap (all_b (zero_at ws (slot_at 2))) e
    ∙ and_four (all_b (zero_at ws (slot_at 2)) (4 * n)) _ _ _ _
    ∙ rw (w₁, w₂, w₃, w₄, words_free ws n)

pub bare_words : (ws : List ℕ) → all_b (zero_at ws (slot_at 2)) (slot_words * later_slots) ≡ bare_slots_b ws
unfolding bare_slots_b
bare_words ws = words_free ws later_slots
