-- `array::change::cover` meets its contract. The cover above the two halves of the slot that the loop stands at is the one asked
-- for: a free slot has the cover of the slot above it. Assumes nothing.
use Rattle.std.proofs.Common.{◌≡◌, ◌*◌, ◌<◌}
use Rattle.sizes.specs.Sizes.{slot_end}
use Rattle.array.specs.Page.{slots, best_of}
use Rattle.array.specs.Best.{above}
use Rattle.array.proofs.change.cover.Given as goal

abbrev pub invariant-loop-d : goal.invariant-loop-d
invariant-loop-d l = record {
  high : l.s < slot_end;
  left : above (slots l.page) (2 * l.s) l.d ≡ best_of (slots l.page) l.slot l.depth;
}
