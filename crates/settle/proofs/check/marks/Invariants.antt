-- `settle::check::marks` meets its contract: the words of the cells that the loop passed, from the last down, have their marks in
-- the list. Assumes nothing.
use Rattle.std.proofs.Common.{◌+◌}
use Rattle.sizes.specs.Sizes.{cell_slots}
use Rattle.array.specs.Page.{slots, links}
use Rattle.settle.specs.Busy.{Busy}
use Rattle.settle.proofs.check.marks.Given as goal

abbrev pub invariant-loop-i : goal.invariant-loop-i
invariant-loop-i l = Busy (slots l.page) (links l.page) l.all (cell_slots + l.i)
