-- Where the two halves of a prefix stand, found from its slot by the words alone. Assumes nothing.
--
--     slot s of an array, s below 256:   its halves are the slots 2 s and 2 s + 1 of the same array
--     slot 256 + i, of cell i:           they are the slots 2 and 3 of the array below cell i, if there is one
--
-- A slot is named by the place of its first word in all words, so its halves are 4 words from each other.
use Rattle.std.specs.Prelude.{◌≡◌, ℕ, zero, suc, ◌+◌, ◌-◌, ◌*◌, ◌/◌, ◌%◌, ◌<◌, ◌≤◌, cond, ◌≢◌, List, length, nat_lt, slice_index}
use Rattle.std.proofs.Math.Path.{refl}
use Rattle.std.proofs.Common.{sym, arith, lt-ltb, le-ltb}
use Rattle.sizes.specs.Sizes.{array_words, slot_words, slot_at, slot_end, cell_slots, cells_at, word_at}
use Rattle.array.specs.Cell.{link_in}

-- p is the first word of a slot of an array that the words hold
pub record Within (ws : List ℕ) (p : ℕ) : Type 0 where
  pub slot : p % array_words < slot_at slot_end
  pub array : p / array_words * array_words + array_words ≤ length ws

-- the first slot below length 0 of the array b, 0 for no array
abbrev pub first_of : ℕ → ℕ
first_of zero = 0
first_of (suc b) = word_at (suc b) (slot_at 2)

-- the cell below a slot that stands above one alone
abbrev pub cell_below : ℕ → ℕ
cell_below p = p - p % array_words + (cells_at - cell_slots) + p % array_words / slot_words

-- the slot of the lower half of the prefix in slot p, 0 where there is none; the upper half's is the next
unfoldable pub half_of : List ℕ → ℕ → ℕ
half_of ws p =
    cond (nat_lt (p % array_words) (slot_at cell_slots)) (p + p % array_words)
    (first_of (link_in (slice_index ws (cell_below p))))

pub first_some : (b n : ℕ) → b ≡ n → 1 ≤ n → first_of b ≡ word_at n (slot_at 2)
first_some b zero e h = absurd (omega arith)
first_some b (suc n) e h = rw e

pub first_zero : (b : ℕ) → first_of b ≡ 0 → b ≡ 0
first_zero zero e = refl
first_zero (suc b) e = absurd (omega arith)

-- ---- the three ways of a slot

module _ (ws : List ℕ) (p : ℕ) where
  pub half_inner : p % array_words < slot_at cell_slots → p + p % array_words ≡ half_of ws p
  unfolding half_of
  half_inner h = rw (lt-ltb (p % array_words) (slot_at cell_slots) h)

  pub half_none : slot_at cell_slots ≤ p % array_words → link_in (slice_index ws (cell_below p)) ≡ 0 → 0 ≡ half_of ws p
  unfolding half_of
  half_none h e = rw (le-ltb (p % array_words) (slot_at cell_slots) h, e)

  pub half_outer : slot_at cell_slots ≤ p % array_words → (b : ℕ) → b ≡ link_in (slice_index ws (cell_below p)) → b ≢ 0
      → word_at b (slot_at 2) ≡ half_of ws p
  unfolding half_of
  half_outer h b e n = rw (le-ltb (p % array_words) (slot_at cell_slots) h, ← e) (sym (first_some b _ refl (omega arith)))
