-- What the proofs of this crate's functions need at their returns. Assumes nothing.
use mathlib.Core.Path.{◌≡◌, sym, ap, ◌∙◌}
use mathlib.Core.Logic.{◌≢◌}
use mathlib.Core.Bool.{Bool, true, false, not, ◌&&◌, ◌||◌, true≢false}
use mathlib.Core.List.{List}
use Prim.Native.Nat.{ℕ, ◌+◌, ◌-◌, ◌*◌, ◌/◌, ◌%◌, ◌≤◌, ◌<◌}
use native.Mathlib.Omega.{arith}
use native.Mathlib.Numerals.{add-one}
use lib.Bits.{bit_or}
use lib.Dec.{ltb, eqb}
use lib.ListN.{get_or}
use borrow.Author.Tests.{eq-eqb, ne_eqb, le-leb}
use Rattle.logic.specs.Cases.{bool, same, less, most}
use Rattle.logic.specs.Every.{all_b}
use Rattle.logic.specs.Reflects.{all_to_lem, all_from}
use Rattle.logic.specs.Ors.{or_none}
use Rattle.sizes.specs.Sizes.{slot_words, slot_at, later_slots, slot_stride, slot_strides, hop_bound}
use Rattle.slots.specs.Zeros.{zero_at}
use Rattle.slots.specs.Taken.{taken}
use Rattle.slots.specs.Word.{right_word_b}
use Rattle.slots.specs.Winner.{lower}
use Rattle.slots.specs.Slot.{free_slot_b, right_slot_b}
use Rattle.slots.specs.Page.{words_at, each_at}
use Rattle.slots.specs.Count.{slot_word, candidates_to, words_count, few_candidates, free_candidates}
use Rattle.slots.specs.Check.{bare_slots_b, bare_words}

-- one word more is 0
pub or_more : (ws : List ℕ) (from i m : ℕ) → eqb m 0 ≡ all_b (zero_at ws from) i
    → eqb (bit_or m (get_or ws (from + i) 0)) 0 ≡ all_b (zero_at ws from) (i + 1)
unfolding all_b
or_more ws from i m e = rw (add-one i, ← e) (or_none m (get_or ws (from + i) 0))

-- one slot more is counted
pub taken_more : (f : ℕ → ℕ) (s : ℕ) → f (s + 1) ≢ 0 → taken f (s + 1) ≡ taken f s + 1
unfolding taken
taken_more f s h = rw (add-one s, ne_eqb (f (s + 1)) 0 h)

pub taken_same : (f : ℕ → ℕ) (s : ℕ) → f (s + 1) ≡ 0 → taken f (s + 1) ≡ taken f s
unfolding taken
taken_same f s h = rw (add-one s, eq-eqb (f (s + 1)) 0 h) (omega arith)

-- ---- one slot

pub fault_hopless : (w : ℕ) → w % hop_bound ≡ 0 → eqb w 0 ≡ right_word_b w
unfolding right_word_b
fault_hopless w e = same w 0 (λ _ d. rw d) (λ _ d. rw (d, e))

pub fault_hop : (w : ℕ) → w % hop_bound ≢ 0 → eqb (w / 16777216) 0 ≡ right_word_b w
unfolding right_word_b
fault_hop w n =
    rw (ne_eqb w 0 (λ z. n (omega arith)), le-leb 1 (w % hop_bound) (omega arith))
    (most (w / hop_bound) 255 (λ h e. rw (e, eq-eqb (w / 16777216) 0 (omega arith)))
    (λ h e. rw (e, ne_eqb (w / 16777216) 0 (λ z. omega arith))))

pub lower_yes : (x y : ℕ) → (not (eqb y 0) && (eqb x 0 || ltb (y / hop_bound) (x / hop_bound))) ≡ true → y ≡ lower x y
unfolding lower
lower_yes x y h =
    same y 0 (λ _ e. absurd (true≢false (sym (rw e at h)))) (λ _ e.
    same x 0 (λ _ d. rw (e, d)) (λ _ d. rw (e, d, rw (e, d) at h)))

pub lower_no : (x y : ℕ) → (not (eqb y 0) && (eqb x 0 || ltb (y / hop_bound) (x / hop_bound))) ≡ false → x ≡ lower x y
unfolding lower
lower_no x y h =
    same y 0 (λ _ e. rw e) (λ _ e.
    same x 0 (λ _ d. absurd (true≢false (rw (e, d) at h))) (λ _ d. rw (e, d, rw (e, d) at h)))

pub free_told : (ws : List ℕ) (i : ℕ)
    → eqb (bit_or (get_or ws i 0) (bit_or (get_or ws (i + 1) 0) (bit_or (get_or ws (i + 2) 0) (get_or ws (i + 3) 0)))) 0
    ≡ free_slot_b (words_at ws i)
unfolding free_slot_b
free_told ws i =
    ors (get_or ws i 0) (get_or ws (i + 1) 0) (get_or ws (i + 2) 0) (get_or ws (i + 3) 0)
    ∙ each_at (λ a b c d. eqb a 0 && (eqb b 0 && (eqb c 0 && eqb d 0))) ws i
  where
    ors : (a b c d : ℕ) → eqb (bit_or a (bit_or b (bit_or c d))) 0 ≡ (eqb a 0 && (eqb b 0 && (eqb c 0 && eqb d 0)))
    ors a b c d = rw (or_none a (bit_or b (bit_or c d)), or_none b (bit_or c d), or_none c d)

pub faults_told : (ws : List ℕ) (i a b c d : ℕ) → eqb a 0 ≡ right_word_b (get_or ws i 0)
    → eqb b 0 ≡ right_word_b (get_or ws (i + 1) 0)
    → eqb c 0 ≡ right_word_b (get_or ws (i + 2) 0) → eqb d 0 ≡ right_word_b (get_or ws (i + 3) 0)
    → eqb (bit_or a (bit_or b (bit_or c d))) 0 ≡ right_slot_b (words_at ws i)
unfolding right_slot_b
faults_told ws i a b c d p q r s =
    rw (or_none a (bit_or b (bit_or c d)), or_none b (bit_or c d), or_none c d, p, q, r, s)
    (each_at (λ a b c d. right_word_b a && (right_word_b b && (right_word_b c && right_word_b d))) ws i)

-- ---- all slots of a page

-- the words of slot_stride slots at a time
abbrev pub stride_words : ℕ
stride_words = slot_words * slot_stride

module _ (ws : List ℕ) (g : ℕ) where
  abbrev zero8 : ℕ → Bool
  zero8 = zero_at ws (slot_at 2)

  pub bare_more : all_b zero8 (stride_words * g) ≡ true → all_b (zero_at ws (stride_words * g + slot_at 2)) stride_words ≡ true
      → all_b zero8 (stride_words * (g + 1)) ≡ true
  bare_more a b =
      all_from zero8 (stride_words * (g + 1)) (λ k h. less k (stride_words * g)
      (λ w _. all_to_lem zero8 (stride_words * g) a k w)
      (λ w _. (let e : stride_words * g + slot_at 2 + (k - stride_words * g) ≡ slot_at 2 + k = omega arith in
      rw e at (all_to_lem (zero_at ws (stride_words * g + slot_at 2)) stride_words b (k - stride_words * g) (omega arith)))))

  pub bare_stop : g < slot_strides → all_b (zero_at ws (stride_words * g + slot_at 2)) stride_words ≡ false
      → false ≡ bare_slots_b ws
  bare_stop h b =
      bool (all_b zero8 (slot_words * later_slots))
      (λ t. absurd (true≢false (sym (all_from (zero_at ws (stride_words * g + slot_at 2)) stride_words
      (λ k w. (let e : stride_words * g + slot_at 2 + k ≡ slot_at 2 + (stride_words * g + k) = omega arith in
      rw e (all_to_lem zero8 (slot_words * later_slots) t (stride_words * g + k) (omega arith))))) ∙ b)))
      (λ t. sym t ∙ bare_words ws)

  pub bare_done : all_b zero8 (stride_words * g) ≡ true → g ≤ slot_strides → slot_strides ≤ g → true ≡ bare_slots_b ws
  bare_done a h w =
      let e : stride_words * g ≡ slot_words * later_slots = omega arith in
      sym (rw e at a) ∙ bare_words ws

-- one word more of the slots past `from` is counted, or is 0
module _ (ws : List ℕ) (from k : ℕ) where
  at_word : slot_words * (from + 1) + k ≡ slot_words * from + k + 1 + 3
  at_word = omega arith

  next : slot_words * from + (k + 1) ≡ slot_words * from + k + 1
  next = omega arith

  pub count_more : get_or ws (slot_words * (from + 1) + k) 0 ≢ 0
      → taken (slot_word ws) (slot_words * from + (k + 1)) ≡ taken (slot_word ws) (slot_words * from + k) + 1
  count_more n = rw next (taken_more (slot_word ws) (slot_words * from + k) (rw at_word at n))

  pub count_same : get_or ws (slot_words * (from + 1) + k) 0 ≡ 0
      → taken (slot_word ws) (slot_words * from + (k + 1)) ≡ taken (slot_word ws) (slot_words * from + k)
  count_same e = rw next (taken_same (slot_word ws) (slot_words * from + k) (rw at_word at e))

  pub count_done : (n m : ℕ) → taken (slot_word ws) (slot_words * from) + m ≡ taken (slot_word ws) (slot_words * from + k)
      → k ≡ slot_words * n → candidates_to ws from + m ≡ candidates_to ws (from + n)
  count_done n m e w =
      let d : slot_words * from + k ≡ slot_words * (from + n) = omega arith in
      omega (arith, e, ap (taken (slot_word ws)) d, words_count ws from, words_count ws (from + n))

-- ---- rows of slots

-- no slot is read yet
pub count-start : (ws : List ℕ) (r n : ℕ) → candidates_to ws 0 + r ≡ candidates_to ws n → r ≡ candidates_to ws n
count-start ws r n e = omega (arith, few_candidates ws 0)

-- one row more
pub count-row : (ws : List ℕ) (n s m r : ℕ) → m ≡ candidates_to ws s → candidates_to ws s + r ≡ candidates_to ws (s + n)
    → m + r ≡ candidates_to ws (s + n)
count-row ws n s m r e d = rw e d

-- a row whose words are 0 adds none
pub count_free : (ws : List ℕ) (n s m : ℕ) → all_b (zero_at ws (slot_at (s + 1))) (slot_words * n) ≡ true
    → m ≡ candidates_to ws s → m ≡ candidates_to ws (s + n)
count_free ws n s m z e =
    e ∙ sym (free_candidates ws s n (all_to_lem (zero_at ws (slot_at (s + 1))) (slot_words * n) z))
