-- The words of a slot where they stand: feed f's at i + f - 1, if the first is at i. Assumes nothing.
--
--     page      .. | slot s - 1     | slot s                            | slot s + 1     | ..
--                    4 words          4s   4s + 1   4s + 2   4s + 3       4 words
use Rattle.std.specs.Prelude.{◌≡◌, ◌⊎◌, ◌≢◌, List, ℕ, ◌+◌, ◌-◌, ◌≤◌, ◌<◌, length, get_or, set}
use Rattle.std.proofs.Common.{⊎_elim, arith, get_or-set_same, get_or-set_other}
use Rattle.sizes.specs.Sizes.{slot_words, slot_at}
use Rattle.logic.specs.Cases.{same}
use Rattle.slots.specs.Word.{IsFeed}
use Rattle.slots.specs.Slot.{with_word}

abbrev pub words_at : List ℕ → ℕ → ℕ → ℕ
words_at ws i f = get_or ws (i + f - 1) 0

-- the page with feed f's word set to w
abbrev pub page_with : List ℕ → ℕ → ℕ → ℕ → List ℕ
page_with ws i f w = set ws (i + f - 1) w

-- ---- the four words one by one

first : (i : ℕ) → i + 1 - 1 ≡ i
first i = omega arith

second : (i : ℕ) → i + 2 - 1 ≡ i + 1
second i = omega arith

third : (i : ℕ) → i + 3 - 1 ≡ i + 2
third i = omega arith

fourth : (i : ℕ) → i + 4 - 1 ≡ i + 3
fourth i = omega arith

-- what the code reads
pub each_at : {T : Type 0} (of : ℕ → ℕ → ℕ → ℕ → T) (ws : List ℕ) (i : ℕ)
    → of (get_or ws i 0) (get_or ws (i + 1) 0) (get_or ws (i + 2) 0) (get_or ws (i + 3) 0)
    ≡ of (words_at ws i 1) (words_at ws i 2) (words_at ws i 3) (words_at ws i 4)
each_at of ws i = rw (first i, second i, third i, fourth i)

-- ---- after a word is set

module _ (ws : List ℕ) (i f w : ℕ) (h : i + slot_words ≤ length ws) (p : IsFeed f) where
  -- in its slot
  pub set_words : (j : ℕ) → IsFeed j → words_at (page_with ws i f w) i j ≡ with_word (words_at ws i) f w j
  set_words j q =
      same j f
      (λ e t. rw (t, e) (get_or-set_same ws (i + f - 1) w 0 (omega (arith, p.low, p.high))))
      (λ n t. rw t (get_or-set_other ws (i + f - 1) (i + j - 1) w 0 (λ z. n (omega (arith, p.low, q.low)))))

  -- any word that isn't the slot's
  pub set-outside : (k : ℕ) → (k < i) ⊎ (i + slot_words ≤ k) → get_or (page_with ws i f w) k 0 ≡ get_or ws k 0
  set-outside k a =
      get_or-set_other ws (i + f - 1) k w 0
      (λ z. ⊎_elim (λ (b : k < i). omega (arith, p.low)) (λ (b : i + slot_words ≤ k). omega (arith, p.high)) a)

-- in another slot
pub set_apart : (ws : List ℕ) (s r f w : ℕ) → IsFeed f → r ≢ s
    → (j : ℕ) → IsFeed j → words_at (page_with ws (slot_at s) f w) (slot_at r) j ≡ words_at ws (slot_at r) j
set_apart ws s r f w p n j q =
    get_or-set_other ws (slot_at s + f - 1) (slot_at r + j - 1) w 0
    (λ z. n (omega (arith, p.low, p.high, q.low, q.high)))
