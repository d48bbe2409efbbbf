-- The lent words as a table: by tests on one word, one cell or one array each, and what the words are then seen to be.
-- Assumes nothing.
use Rattle.std.specs.Prelude.{ℕ, ◌+◌, ◌*◌, Bool, cond, not, ◌&&◌, ◌||◌, List, length, ◌==◌, slice_index}
use Rattle.sizes.specs.Sizes.{array_words, slot_at, last_slot, body_words, total_at, array_at, group_count, rest_at, rest_words}
use Rattle.candidates.specs.Candidate.{Candidate}
use Rattle.candidates.specs.Seen.{Seen, misfit, foreign, table, misfits}
use Rattle.logic.specs.Every.{all_b}
use Rattle.calm.specs.Check.{settled_b}
use Rattle.slots.specs.Zeros.{zero_at}
use Rattle.slots.specs.Slot.{right_slot_b}
use Rattle.array.specs.Check.{right_b, empty_b}
use Rattle.tree.specs.Arrays.{lev, used_in, used_of}
use Rattle.totals.specs.Check.{sums_b}
use Rattle.gather.specs.Gather.{gathered}
use Rattle.gather.specs.Views.{word_held}
use Rattle.words.specs.Words.{feeds_of, arrays_of, array_count, words_of, slots_of, bests_of, blocks_of, totals_of}
use Rattle.tree.specs.Check.{links_b, parent_links_b}

-- the slots of array a: each word is none, or has a hop and a preference in their ranges
unfoldable pub slots_b : List ℕ → ℕ → Bool
slots_b ws a = all_b (λ s. right_slot_b (words_of ws a (s + 1))) last_slot

-- the page of array a: its slots are right, its bests are the longest covers, and each cell without a link has its block
abbrev pub page_b : List ℕ → ℕ → Bool
page_b ws a =
    (slots_b ws a && right_b (lev (arrays_of ws) a) (slots_of ws a) (bests_of ws a))
    && settled_b (slots_of ws a) ((arrays_of ws).link a) (blocks_of ws a)

-- its page and its totals
abbrev pub content_b : List ℕ → ℕ → Bool
content_b ws a = page_b ws a && sums_b (arrays_of ws) (totals_of ws) a

-- the slots, the cells and the totals of array a are 0
abbrev pub blank_b : List ℕ → ℕ → Bool
blank_b ws a = all_b (zero_at ws (array_at a + slot_at 1)) body_words && all_b (zero_at ws (array_at a + total_at 1)) last_slot

-- array a: free, and blank; or used, its page and its totals right, its links leading to arrays that name their cell, and, the
-- root aside, hung where its tag says and not empty
unfoldable pub array_b : ℕ → List ℕ → ℕ → Bool
array_b L ws a =
    cond (slice_index ws (array_at a) == 0) (blank_b ws a)
    (content_b ws a
    && (links_b (array_count ws) L (arrays_of ws) a
    && (a == 1 || (parent_links_b (array_count ws) (arrays_of ws) a && not (empty_b (slots_of ws a) ((arrays_of ws).link a))))))

-- the number of arrays used among 8 * g + 1 .. 8 * g + 8
unfoldable pub group_b : List ℕ → ℕ → Bool
group_b ws g = slice_index ws (g + 1) == used_of (arrays_of ws) g

unfoldable pub header_b : List ℕ → Bool
header_b ws =
    (slice_index ws 0 == used_in (arrays_of ws) 0 (array_count ws))
    && (all_b (group_b ws) group_count && all_b (zero_at ws rest_at) rest_words)

-- words of a right size are a table of L levels
unfoldable pub table_b : ℕ → List ℕ → Bool
table_b L ws = slice_index ws array_words == 1 && (header_b ws && all_b (λ j. array_b L ws (j + 1)) (array_count ws))

-- the list that a table stands for: the candidates of the words in the slots
abbrev pub list_of : ℕ → List ℕ → List Candidate
list_of L ws = gathered (8 * L) (word_held (feeds_of ws))

unfoldable pub seen : ℕ → List ℕ → Seen
seen L ws = cond (misfits (length ws)) misfit (cond (table_b L ws) (table (array_count ws) (list_of L ws)) foreign)
