-- The choice among the masks in the loop's order, and the steps of the loops over bits and slots. Assumes nothing.
use mathlib.Core.Path.{◌≡◌, refl, ap, ◌∙◌}
use mathlib.Core.Bool.{Bool, true, false, cond, ◌&&◌}
use mathlib.Core.List.{List}
use Prim.Native.Nat.{ℕ, ◌+◌, ◌≤◌, ◌<◌}
use native.Mathlib.Numerals.{add-one}
use native.Mathlib.Omega.{arith}
use lib.Dec.{ltb}
use lib.Count.{ones}
use borrow.Author.Tests.{lt-ltb, le-ltb}
use Rattle.sizes.specs.Sizes.{slot_end}
use Rattle.masks.specs.Mask.{free_b, pick, mask_of, chosen}
use Rattle.masks.specs.On.{fits}
use Rattle.masks.specs.Top.{top}
use Rattle.masks.specs.Entry.{mapped, entry}
use Rattle.masks.specs.Sieve.{held_in}

-- ---- the mask

pub pick-start : (free : ℕ → Bool) → 255 ≡ pick free 0
unfolding pick
pick-start free = refl

module _ (free : ℕ → Bool) (m b : ℕ) (p : b ≡ pick free m) where
  pub pick-take : ones m < ones b → free m ≡ true → m ≡ pick free (m + 1)
  unfolding pick
  pick-take h e = rw (add-one m, ← p, lt-ltb (ones m) (ones b) h, e)

  pub pick_many : ones b ≤ ones m → b ≡ pick free (m + 1)
  unfolding pick
  pick_many h = rw (add-one m, ← p, le-ltb (ones m) (ones b) h)

  pub pick_not : free m ≡ false → b ≡ pick free (m + 1)
  unfolding pick
  pick_not e = rw (add-one m, ← p, e) (kept (ltb (ones m) (ones b)))
    where
      kept : (c : Bool) → b ≡ cond (c && false) m b
      kept true = refl
      kept false = refl

-- the loop came to its end
last_pick : (held : ℕ → Bool) (m b : ℕ) → b ≡ pick (free_b held) m → m ≡ 255 → b ≡ mask_of held
unfolding mask_of
last_pick held m b p e = p ∙ ap (pick (free_b held)) e

pub picked_all : (held : ℕ → Bool) (m b : ℕ) → b ≡ pick (free_b held) m → m ≤ 255 → 255 ≤ m → (b ≡ mask_of held) × (b < 256)
picked_all held m b p h l = let e = last_pick held m b p (omega arith) in (e, rw e (chosen held).fit)

-- ---- the entry

pub seek_start : (held : ℕ → Bool) (m y : ℕ) → top (mapped held m y) slot_end ≡ entry held m y
unfolding entry
seek_start held m y = refl

pub mapped_none : (fs : List ℕ) (m y : ℕ) → mapped (held_in fs) m y 0 ≡ false
unfolding held_in
mapped_none fs m y = refl

module _ (held : ℕ → Bool) (m y s : ℕ) where
  pub not_held : held s ≡ false → mapped held m y s ≡ false
  not_held e = rw e

  pub not_fitting : held s ≡ true → fits m y s ≡ false → mapped held m y s ≡ false
  not_fitting e f = rw (e, f)

  pub is_mapped : held s ≡ true → fits m y s ≡ true → mapped held m y s ≡ true
  is_mapped e f = rw (e, f)
