-- Where a prefix and its halves stand, as the passes ask it, over plain variables. Assumes nothing.
use mathlib.Core.Path.{◌≡◌, sym}
use mathlib.Core.Logic.{◌≢◌}
use mathlib.Core.List.{List}
use Prim.Native.Nat.{ℕ, zero, suc, ◌+◌, ◌-◌, ◌*◌, ◌≤◌}
use native.Mathlib.Omega.{arith}
use lib.ListN.{length}
use Rattle.sizes.specs.Sizes.{slot_words}
use Rattle.words.specs.Half.{Within, half_of}
use Rattle.writing.specs.Halves.{slot_some, slot_number, slot_inside}
use Rattle.sweep.specs.Walk.{low_of}
use Rattle.sweep.specs.Slot.{slot_lower, slot_upper}
use Rattle.sweep.specs.Stored.{slot_room}
use Rattle.sweep.specs.Asked.{Stands}

pub bits_some : (ws : List ℕ) (bits p low : ℕ) → low ≡ low_of ws bits p → low ≢ 0 → (1 ≤ bits) × (low ≡ half_of ws p)
bits_some ws zero p low e n = absurd (n e)
bits_some ws (suc d) p low e n = (omega arith, e)

module _ {ws : List ℕ} {p v bits : ℕ} (s : Stands ws p v bits) where
  pub seat_within : Within ws p
  seat_within = record {
    slot = slot_number 4 ws s.table p v (32 - bits) s.slot;
    array = slot_inside 4 ws s.table p v (32 - bits) s.slot;
  }

  -- it is not the words' first
  pub seat_some : p ≢ 0
  seat_some = slot_some 4 ws s.table p v (32 - bits) s.slot

  -- the slot's words are all there
  pub seat_room : p + slot_words ≤ length ws
  seat_room = slot_room ws s.table p v (32 - bits) s.slot

  module _ (low : ℕ) (e : low ≡ low_of ws bits p) (n : low ≢ 0) where
    some_half : 1 ≤ half_of ws p
    some_half = omega (arith, (bits_some ws bits p low e n).1, n)

    is_half : half_of ws p ≡ low
    is_half = sym (bits_some ws bits p low e n).1

    down : suc (32 - bits) ≡ 32 - (bits - 1)
    down = omega (arith, (bits_some ws bits p low e n).0, s.most)

    pub seat_low : Stands ws low (2 * v) (bits - 1)
    seat_low = record {
      table = s.table;
      most = omega (arith, s.most);
      slot = rw (is_half, down) at (slot_lower ws s.table p v (32 - bits) s.slot some_half);
    }

    pub seat_high : Stands ws (low + slot_words) (2 * v + 1) (bits - 1)
    seat_high = record {
      table = s.table;
      most = omega (arith, s.most);
      slot = rw (is_half, down) at (slot_upper ws s.table p v (32 - bits) s.slot some_half);
    }
