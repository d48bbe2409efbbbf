-- The mask of an array, and the slot of an index. Assumes nothing.
use mathlib.Core.Path.{◌≡◌, sym, ap, ◌∙◌}
use mathlib.Core.Logic.{◌≢◌}
use mathlib.Core.List.{List}
use Prim.Native.Nat.{ℕ, ◌<◌}
use native.Mathlib.Omega.{arith}
use borrow.Author.Tests.{ne_eqb}
use Rattle.sizes.specs.Sizes.{slot_end}
use Rattle.masks.specs.Mask.{mask_of}
use Rattle.masks.specs.Index.{scatter}
use Rattle.masks.specs.Entry.{entry}
use Rattle.masks.specs.Sieve.{held_in}
use Rattle.array.specs.Frame.{page_of}
use Rattle.tree.specs.Arrays.{Arrays}
use Rattle.words.specs.Words.{arrays_of}
use Rattle.packed.specs.Laid.{mask_at, mask_first}
use Rattle.packed_arrays.specs.Flags.{held_on, Flagged, entry_ext, flags_mask}
use Rattle.packed_arrays.specs.Filled.{slot_for}

-- ---- the mask of an array

pub mask_one : (t : Arrays) (a : ℕ) → a ≡ 1 → (255 ≡ mask_at t a) × (255 < 256)
mask_one t a e = (rw e (sym (mask_first t)), omega arith)

pub mask_later : (ts page fs : List ℕ) (a r : ℕ) → a ≢ 1 → page ≡ page_of ts a → Flagged page fs slot_end
    → r ≡ mask_of (held_in fs)
    → r ≡ mask_at (arrays_of ts) a
unfolding mask_at
mask_later ts page fs a r n q p e = rw (ne_eqb a 1 n) (e ∙ flags_mask ts fs a (rw q at p))

-- ---- the slot of an index

pub slot_is : (page map fs : List ℕ) (m v y s : ℕ) → Flagged page fs slot_end → y ≡ scatter 8 m v → s ≡ entry (held_in fs) m y
    → s ≡ slot_for page map m v
slot_is page map fs m v y s p q e =
    e ∙ ap (entry (held_in fs) m) q ∙ entry_ext (held_in fs) (held_on page) (λ s h. p.each s h) m (scatter 8 m v)
