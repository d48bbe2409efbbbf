-- When arrays are a tree: conditions, each on one array or one cell, of A arrays and L levels. Assumes nothing.
use Rattle.std.specs.Prelude.{◌≡◌, ◌⊎◌, ◌≢◌, ℕ, ◌+◌, ◌≤◌, ◌<◌}
use Rattle.sizes.specs.Sizes.{cell_count, level_bound}
use Rattle.array.specs.Tag.{tag_of}
use Rattle.array.specs.CheckReflects.{SomeSlot, SomeLink}
use Rattle.tree.specs.Arrays.{Arrays, par, cell, lev}

-- b hangs below cell i of a
pub record Child (A L : ℕ) (t : Arrays) (a i b : ℕ) : Type 0 where
  pub some : 1 ≤ b
  pub within : b ≤ A
  pub used : 1 ≤ lev t a
  pub deep : lev t a < L
  pub named : t.tag b ≡ tag_of a i (lev t a + 1)

-- a's parent links back
pub record ParentLinks (A : ℕ) (t : Arrays) (a : ℕ) : Type 0 where
  pub some : 1 ≤ par t a
  pub within : par t a ≤ A
  pub back : t.link (par t a) (cell t a) ≡ a

pub record Shape (A L : ℕ) (t : Arrays) : Type 0 where
  pub many : 1 ≤ A
  pub some_level : 1 ≤ L
  pub levels : L < level_bound
  pub root : t.tag 1 ≡ 1
  pub links : (a i : ℕ) → 1 ≤ a → a ≤ A → i < cell_count → (t.link a i ≡ 0) ⊎ Child A L t a i (t.link a i)
  pub tags : (a : ℕ) → 2 ≤ a → a ≤ A → (t.tag a ≡ 0) ⊎ ParentLinks A t a

-- an array has a slot past the first, or a link
abbrev pub HasSlot : Arrays → ℕ → Type 0
HasSlot t a = SomeSlot (t.slot a)

abbrev pub HasLink : Arrays → ℕ → Type 0
HasLink t a = SomeLink (t.link a)

-- every used array but the root and e has one
abbrev pub Filled : ℕ → Arrays → ℕ → Type 0
Filled A t e = (a : ℕ) → 2 ≤ a → a ≤ A → a ≢ e → 1 ≤ t.tag a → HasSlot t a ⊎ HasLink t a
