-- What the needs of the functions cite: each answer of theirs where the tests before it have settled it. Assumes nothing.
use mathlib.Core.Path.{◌≡◌}
use mathlib.Core.Bool.{◌&&◌}
use mathlib.Core.List.{List}
use Prim.Native.Nat.{ℕ, ◌-◌, ◌*◌, ◌^◌, ◌≤◌, ◌<◌}
use lib.Bits.{bit_or}
use lib.Dec.{eqb}
use Rattle.logic.specs.Ors.{or_none}
use Rattle.sizes.specs.Sizes.{cell_count}
use Rattle.slots.specs.Word.{IsFeed}
use Rattle.array.specs.Reslot.{Reslots, ReslotsAny}
use Rattle.array.specs.declared.change.Changed.{Changed}
use Rattle.settle.specs.Settled.{SettledPage, Resettled}
use Rattle.settle.specs.Was.{Was, was_so, reset, reset_word}
use Rattle.settle.specs.Reset.{Resets}
use Rattle.settle.specs.Recell.{resettled_in, reset_in}
use Rattle.settle.specs.Any.{ResettledAny, ResetsAny, body_cells}

-- ---- an or of words is 0 where all are

pub or_four : (a b c d : ℕ) → eqb (bit_or (bit_or a b) (bit_or c d)) 0 ≡ ((eqb a 0 && eqb b 0) && (eqb c 0 && eqb d 0))
or_four a b c d = rw (or_none (bit_or a b) (bit_or c d), or_none a b, or_none c d)

-- ---- a slot's word set, and then the blocks around it

module _ (l m : List ℕ) (d x f w i : ℕ) (c : Changed) (ie : i ≡ x * 2 ^ (8 - d)) (ib : i < cell_count) (high : d ≤ 8)
    (z : SettledPage l) (r : Reslots l m d x f w c) where
  reslot_was : Was m i d c.before c.after
  reslot_was = rw r.after (was_so l m d x _ i c.before ie ib high r.before z r.slot r.blocks)

  reslot_resets : IsFeed f → (n : List ℕ) → Resettled m n → Resets l n d x f w c
  reslot_resets p n y =
      let e = reset l m d x _ i c.before ie ib high r.before z r.slot r.blocks n y in
      record {
        before = r.before;
        after = r.after;
        word = reset_word l m d x _ i c.before ie ib high r.before z r.slot r.blocks f w p r.word n y;
        slot = e.0;
        settled = e.1;
        cells = r.cells;
        small = r.small;
      }

-- of any page
pub resets_any : (l m : List ℕ) (d x f w i : ℕ) (c : Changed) → i ≡ x * 2 ^ (8 - d) → i < cell_count → d ≤ 8 → IsFeed f
    → ReslotsAny l m d x f w c → (n : List ℕ)
    → ResettledAny (Was m i d c.before c.after) m n (resettled_in m i d c.before c.after) → ResetsAny l n d x f w c
unfolding reset_in
resets_any l m d x f w i c ie ib high p r n y = record {
  is = rw (← r.is, ← r.said, ← ie) y.is;
  said = r.said;
  body = body_cells r.body y.cells;
  right = λ s z. (let e = r.right s in
      reslot_resets l m d x f w i c ie ib high z e p n (y.right (reslot_was l m d x f w i c ie ib high z e)));
}
