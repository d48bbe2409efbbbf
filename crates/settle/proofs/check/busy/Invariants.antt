-- `settle::check::busy` meets its contract: the slots of the levels that the loop passed, from the cells up, have their marks in
-- the list. Assumes nothing.
use Rattle.std.proofs.Common.{◌^◌}
use Rattle.array.specs.Page.{slots, links}
use Rattle.settle.specs.Busy.{Busy}
use Rattle.settle.proofs.check.busy.Given as goal

abbrev pub invariant-loop-d : goal.invariant-loop-d
invariant-loop-d l = Busy (slots l.page) (links l.page) l.all (2 ^ l.d)
