-- `settle::check::marks` meets its contract: the words of the cells that the loop passed, from the last down, have their marks in
-- the list. Assumes nothing.
use Rattle.std.proofs.Common.{◌≡◌, ◌+◌, ◌-◌, refl, arith, get_or}
use Rattle.sizes.specs.Sizes.{slot_end, last_slot, cell_count, cell_slots, cells_at}
use Rattle.array.specs.Cell.{mark}
use Rattle.settle.specs.Busy.{busy_none, marks_more}
use Rattle.settle.proofs.check.marks.Goals as goal

pub loop-i-init : goal.loop-i-init
loop-i-init c = busy_none _ _ _ refl

pub loop-i-preserved : goal.loop-i-preserved
loop-i-preserved c =
    let l = c.loop-i in
    let i = cell_count - l.i in
    let word : 2303 - i ≡ cells_at + (l.i - 1) = omega arith in
    let slot : last_slot - i ≡ cell_slots + (l.i - 1) = omega arith in
    let next : slot_end - (i + 1) ≡ cell_slots + (l.i - 1) = omega arith in
    let here : slot_end - i ≡ cell_slots + l.i = omega arith in
    rw (next, slot, word) at (marks_more c.args.page.now l.all i (mark (get_or c.args.page.now (2303 - i) 0)) (omega arith) refl (rw here l.invariant))
