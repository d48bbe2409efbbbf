-- The sizes of a table, of an array, of a cell's word and of a tag, and where an array and its parts stand in the words: each
-- number of the layout is said here, and src/lib.rt has the same for the code. Assumes nothing.
use Rattle.std.specs.Prelude.{ℕ, ◌+◌, ◌*◌}

-- ---- a table: a header, then its arrays

-- the words of an array, and of the header
abbrev pub array_words : ℕ
array_words = 3072

abbrev pub most_arrays : ℕ
most_arrays = 4096

-- the words of a table of one array, and of one of the most
abbrev pub least_words : ℕ
least_words = 6144

abbrev pub most_words : ℕ
most_words = 12585984

-- ---- an array: its tag, its slots, its cells, its totals, and words without use

-- the slots have the numbers 1 .. last_slot, and slot s has a word for each feed, from slot_at s on
abbrev pub slot_words : ℕ
slot_words = 4

abbrev pub slot_at : ℕ → ℕ
slot_at s = slot_words * s

abbrev pub last_slot : ℕ
last_slot = 511

abbrev pub slot_end : ℕ
slot_end = 512

-- the cells have the numbers 0 .. cell_count - 1, and their words begin at cells_at
abbrev pub cell_count : ℕ
cell_count = 256

abbrev pub cells_at : ℕ
cells_at = 2048

-- slot cell_slots + i is the longest above cell i
abbrev pub cell_slots : ℕ
cell_slots = 256

-- the slots past the first, and how the test for a bare array looks at them: so many at a time, so often
abbrev pub later_slots : ℕ
later_slots = 510

abbrev pub slot_stride : ℕ
slot_stride = 34

abbrev pub slot_strides : ℕ
slot_strides = 15

-- how many words the slots and the cells are, from the first slot's on
abbrev pub body_words : ℕ
body_words = 2300

-- each slot has a total, and its word is total_at s; there is no slot 0, and the word at totals_at has no use
abbrev pub totals_at : ℕ
totals_at = 2304

abbrev pub total_at : ℕ → ℕ
total_at s = totals_at + s

-- the slots that stand above two others are those before cell_slots, the first of them 1
abbrev pub inner_slots : ℕ
inner_slots = 255

-- the words from here on have no use, whatever they hold
abbrev pub unused_at : ℕ
unused_at = 2816

-- ---- where array a stands in the words, its word k, and its cell i

abbrev pub array_at : ℕ → ℕ
array_at a = array_words * a

abbrev pub word_at : ℕ → ℕ → ℕ
word_at a k = array_words * a + k

abbrev pub cell_at : ℕ → ℕ → ℕ
cell_at a i = array_words * a + cells_at + i

-- the slot of length 0, which is the root's first
abbrev pub root_slot : ℕ
root_slot = word_at 1 (slot_at 1)

-- ---- a cell's word: mark * mark_unit + hop * link_bound + rest. The rest is the number of the array below, less 1; where the
-- mark is 0 there is none, and the rest is in-array length * block_bound + block. A best: in-array length * hop_bound + hop

abbrev pub mark_unit : ℕ
mark_unit = 268435456

abbrev pub link_bound : ℕ
link_bound = 4096

abbrev pub block_bound : ℕ
block_bound = 16

abbrev pub hop_bound : ℕ
hop_bound = 65536

-- in-array lengths are at most 8
abbrev pub best_bound : ℕ
best_bound = 589824

-- ---- a tag: parent * parent_unit + cell * level_bound + one more than the level

abbrev pub level_bound : ℕ
level_bound = 32

abbrev pub parent_unit : ℕ
parent_unit = 8192

-- ---- the header: the number of used arrays, then one for each group of arrays, then words that are 0

abbrev pub per_group : ℕ
per_group = 8

abbrev pub group_count : ℕ
group_count = 512

-- the search for a free array passes full groups, so many at once, of so many arrays
abbrev pub group_stride : ℕ
group_stride = 8

-- the first word after the groups, and how many words follow from there
abbrev pub rest_at : ℕ
rest_at = 513

abbrev pub rest_words : ℕ
rest_words = 2559
