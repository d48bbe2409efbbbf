-- The lent words as arrays. Assumes nothing.
--
--     header │ array 1 │ array 2 │ .. │ array A            3,072 words each
--     header: used in all │ used among 1 .. 8 │ used among 9 .. 16 │ .. │ 0 ..
--     array:  tag │ slots 1 .. 511, four words each │ cells 0 .. 255, each its best, and its link or its block │ totals │ unused
use Rattle.std.specs.Prelude.{ℕ, ◌+◌, ◌-◌, ◌/◌, List, length, slice_index}
use Rattle.sizes.specs.Sizes.{array_words, slot_at, total_at, array_at, word_at, cell_at}
use Rattle.array.specs.Cell.{best_in, link_in, block_in}
use Rattle.tree.specs.Arrays.{Arrays}
use Rattle.gather.specs.Views.{FeedArrays, won_view}

-- with a word for each feed in a slot
abbrev pub feeds_of : List ℕ → FeedArrays
feeds_of ws = record {
  tag = λ a. slice_index ws (array_at a);
  link = λ a i. link_in (slice_index ws (cell_at a i));
  word = λ a s f. slice_index ws (word_at a (slot_at s + f - 1));
}

-- with the winning hop in a slot
abbrev pub arrays_of : List ℕ → Arrays
arrays_of ws = won_view (feeds_of ws)

-- the words of the slots 1 .. 511 of array a, their winning hops, and of the cells 0 .. 255 the bests and the blocks
abbrev pub words_of : List ℕ → ℕ → ℕ → ℕ → ℕ
words_of ws = (feeds_of ws).word

abbrev pub slots_of : List ℕ → ℕ → ℕ → ℕ
slots_of ws = (arrays_of ws).slot

abbrev pub bests_of : List ℕ → ℕ → ℕ → ℕ
bests_of ws a i = best_in (slice_index ws (cell_at a i))

abbrev pub blocks_of : List ℕ → ℕ → ℕ → ℕ
blocks_of ws a i = block_in (slice_index ws (cell_at a i))

-- the totals of the slots 1 .. 511 of array a
abbrev pub totals_of : List ℕ → ℕ → ℕ → ℕ
totals_of ws a s = slice_index ws (word_at a (total_at s))

-- how many arrays the words hold besides the header
abbrev pub array_count : List ℕ → ℕ
array_count ws = length ws / array_words - 1
