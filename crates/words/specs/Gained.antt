-- An array gained or released: what is asked, and the words afterwards. Assumes nothing.
use Rattle.std.specs.Prelude.{◌≡◌, ℕ, ◌+◌, ◌-◌, ◌/◌, ◌<◌, ◌≤◌, ◌≢◌, ◌⊎◌, List, length, slice_index, slice_index_or, slice_set}
use Rattle.sizes.specs.Sizes.{most_arrays, most_words, cell_count, array_at, cell_at, per_group, best_bound}
use Rattle.calm.specs.Calm.{Settled}
use Rattle.array.specs.Tag.{tag_of, parent_in, cell_in, level_in}
use Rattle.array.specs.Cell.{link_in}
use Rattle.settle.specs.Link.{Relinked}
use Rattle.settle.specs.Recell.{linked_in, cut_in}
use Rattle.settle.specs.Any.{CellsOnly}
use Rattle.totals.specs.Up.{plus}
use Rattle.array.specs.Frame.{page_of, with_page}
use Rattle.words.specs.Words.{arrays_of, slots_of, bests_of, blocks_of}

-- the word of the header that counts the group of array a
abbrev pub group_at : ℕ → ℕ
group_at a = (a - 1) / per_group + 1

-- the words with the tag x of a, the count n and a's group m
unfoldable pub retagged : List ℕ → ℕ → ℕ → ℕ → ℕ → List ℕ
retagged ws a x n m = slice_set (slice_set (slice_set ws (array_at a) x) 0 n) (group_at a) m

-- ---- what is asked

-- an array a and another, p, of which i is a cell: the best of the cell is in its range
pub record Ends (ws : List ℕ) (p i a : ℕ) : Type 0 where
  pub size : length ws ≤ most_words
  pub parent : 1 ≤ p
  pub inside : array_at (p + 1) ≤ length ws
  pub cells : i < cell_count
  pub some : 2 ≤ a
  pub within : array_at (a + 1) ≤ length ws
  pub apart : p ≢ a
  pub small : bests_of ws p i < best_bound

-- and its block, as that of a cell without a link
pub record Gains (ws : List ℕ) (p i a : ℕ) : Type 0 where
  pub ends : Ends ws p i a
  pub block : blocks_of ws p i ≤ 8

-- an array a, hung where its tag says
abbrev pub Releases : List ℕ → ℕ → Type 0
Releases ws a = Ends ws (parent_in (slice_index ws (array_at a))) (cell_in (slice_index ws (array_at a))) a

-- what makes the page of p right, and the counts
pub record GainsRight (ws : List ℕ) (p i a : ℕ) : Type 0 where
  pub settled : Settled (slots_of ws p) ((arrays_of ws).link p) (blocks_of ws p)
  pub off : link_in (slice_index ws (cell_at p i)) ≡ 0
  pub count : slice_index_or ws 0 0 < most_arrays
  pub groups : slice_index_or ws (group_at a) 0 < most_arrays

pub record ReleasesOf (ws : List ℕ) (p i a : ℕ) : Type 0 where
  pub settled : Settled (slots_of ws p) ((arrays_of ws).link p) (blocks_of ws p)
  pub on : link_in (slice_index ws (cell_at p i)) ≢ 0
  pub count : 1 ≤ slice_index ws 0
  pub groups : 1 ≤ slice_index ws (group_at a)

abbrev pub ReleasesRight : List ℕ → ℕ → Type 0
ReleasesRight ws a = ReleasesOf ws (parent_in (slice_index ws (array_at a))) (cell_in (slice_index ws (array_at a))) a

-- ---- the words afterwards

-- vs is ws with the tag x of a, the link c in cell i of p, the count n and a's group m
pub record Rehung (ws vs : List ℕ) (p i a x c n m : ℕ) : Type 0 where
  pub size : length vs ≡ length ws
  pub tag : slice_index_or vs (array_at a) 0 ≡ x
  pub page : Relinked (page_of ws p) (page_of vs p) i c
  pub count : slice_index_or vs 0 0 ≡ n
  pub group : slice_index_or vs (group_at a) 0 ≡ m
  pub other : (j : ℕ) → j ≢ array_at a → j ≢ 0 → j ≢ group_at a → (j < array_at p) ⊎ (array_at (p + 1) ≤ j)
      → slice_index vs j ≡ slice_index ws j

-- the same of any words: of p's page the cells may be whatever they are
pub record RehungAny (ws vs : List ℕ) (p a x n m : ℕ) : Type 0 where
  pub size : length vs ≡ length ws
  pub tag : slice_index_or vs (array_at a) 0 ≡ x
  pub page : CellsOnly (page_of ws p) (page_of vs p)
  pub count : slice_index_or vs 0 0 ≡ n
  pub group : slice_index_or vs (group_at a) 0 ≡ m
  pub other : (j : ℕ) → j ≢ array_at a → j ≢ 0 → j ≢ group_at a → (j < array_at p) ⊎ (array_at (p + 1) ≤ j)
      → slice_index vs j ≡ slice_index ws j

-- a, hung below cell i of p
abbrev pub Gained : List ℕ → List ℕ → ℕ → ℕ → ℕ → Type 0
Gained ws vs p i a =
    Rehung ws vs p i a (tag_of p i (level_in (slice_index ws (array_at p)) + 1)) a (slice_index ws 0 + 1)
    (slice_index ws (group_at a) + 1)

-- a, taken from the cell that its tag names
abbrev pub Released : List ℕ → List ℕ → ℕ → Type 0
Released ws vs a =
    Rehung ws vs (parent_in (slice_index ws (array_at a))) (cell_in (slice_index ws (array_at a))) a 0 0 (slice_index ws 0 - 1)
    (slice_index ws (group_at a) - 1)

-- the same on any words, whose counts may wrap
unfoldable pub gained_in : List ℕ → ℕ → ℕ → ℕ → List ℕ
gained_in ws p i a =
    retagged (with_page ws p (linked_in (page_of ws p) i a)) a (tag_of p i (level_in (slice_index ws (array_at p)) + 1))
    (plus (slice_index ws 0) 1) (plus (slice_index ws (group_at a)) 1)

-- and where the page of p and the counts were right, that
pub record GainedAny (ws vs : List ℕ) (p i a : ℕ) : Type 0 where
  pub is : vs ≡ gained_in ws p i a
  pub any : RehungAny ws vs p a (tag_of p i (level_in (slice_index ws (array_at p)) + 1)) (plus (slice_index ws 0) 1)
      (plus (slice_index ws (group_at a)) 1)
  pub here : (arrays_of vs).link p i ≡ a
  pub best : bests_of vs p i ≡ bests_of ws p i
  pub right : GainsRight ws p i a → Gained ws vs p i a

-- what takes 1 away, as words wrap
abbrev pub minus_one : ℕ
minus_one = 4294967295

unfoldable pub released_in : List ℕ → ℕ → List ℕ
released_in ws a =
    let p = parent_in (slice_index ws (array_at a)) in
    retagged (with_page ws p (cut_in (page_of ws p) (cell_in (slice_index ws (array_at a))))) a 0
    (plus (slice_index ws 0) minus_one) (plus (slice_index ws (group_at a)) minus_one)

pub record ReleasedAny (ws vs : List ℕ) (a : ℕ) : Type 0 where
  pub is : vs ≡ released_in ws a
  pub any : RehungAny ws vs (parent_in (slice_index ws (array_at a))) a 0 (plus (slice_index ws 0) minus_one)
      (plus (slice_index ws (group_at a)) minus_one)
  pub right : ReleasesRight ws a → Released ws vs a
