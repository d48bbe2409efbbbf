-- When words are a table, as conditions: what the tests of `table_b` tell. Assumes nothing.
use Rattle.std.specs.Prelude.{◌≡◌, ℕ, ◌+◌, ◌%◌, ◌<◌, ◌≤◌, List, length, slice_index, slice_index_or}
use Rattle.sizes.specs.Sizes.{array_words, slot_at, slot_end, least_words, most_words, totals_at, array_at, word_at, group_count}
use Rattle.sizes.specs.Sizes.{rest_at}
use Rattle.slots.specs.Slot.{RightSlot}
use Rattle.array.specs.Right.{Right}
use Rattle.tree.specs.Arrays.{lev, used_in, used_of}
use Rattle.calm.specs.Calm.{Settled}
use Rattle.words.specs.Words.{feeds_of, arrays_of, array_count, words_of, slots_of, bests_of, blocks_of, totals_of}
use Rattle.tree.specs.Shape.{Shape, Filled}
use Rattle.gather.specs.Views.{RightWords}
use Rattle.totals.specs.Sums.{Sums}

-- the header: how many are used, in all and in each group of 8
pub record Header (ws : List ℕ) : Type 0 where
  pub count : slice_index_or ws 0 0 ≡ used_in (arrays_of ws) 0 (array_count ws)
  pub groups : (g : ℕ) → g < group_count → slice_index ws (g + 1) ≡ used_of (arrays_of ws) g

-- the words of the slots of array a are right
abbrev pub RightSlotsOf : List ℕ → ℕ → Type 0
RightSlotsOf ws a = (s : ℕ) → 1 ≤ s → s < slot_end → RightSlot (words_of ws a s)

-- a table but for the array e, that may be empty (e ≡ 0: a table)
pub record TableBut (L e : ℕ) (ws : List ℕ) : Type 0 where
  pub whole : length ws % array_words ≡ 0
  pub low : least_words ≤ length ws
  pub high : length ws ≤ most_words
  pub shape : Shape (array_count ws) L (arrays_of ws)
  pub filled : Filled (array_count ws) (arrays_of ws) e
  pub blank : (a : ℕ) → 1 ≤ a → a ≤ array_count ws → slice_index ws (array_at a) ≡ 0 → (k : ℕ) → slot_at 1 ≤ k → k < totals_at
      → slice_index ws (word_at a k) ≡ 0
  pub words : RightWords (array_count ws) (feeds_of ws)
  pub right : (a : ℕ) → 1 ≤ a → a ≤ array_count ws → 1 ≤ slice_index ws (array_at a)
      → Right (lev (arrays_of ws) a) (slots_of ws a) (bests_of ws a)
  pub settled : (a : ℕ) → 1 ≤ a → a ≤ array_count ws → 1 ≤ slice_index ws (array_at a)
      → Settled (slots_of ws a) ((arrays_of ws).link a) (blocks_of ws a)
  pub sums : Sums (array_count ws) (arrays_of ws) (totals_of ws)
  pub header : Header ws
  pub rest : (k : ℕ) → rest_at ≤ k → k < array_words → slice_index ws k ≡ 0

-- a table of L levels
abbrev pub Table : ℕ → List ℕ → Type 0
Table L ws = TableBut L 0 ws
