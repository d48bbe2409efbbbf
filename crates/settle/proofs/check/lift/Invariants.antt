-- `settle::check::lift` meets its contract: the slots that the loop passed have what the two below each tell. Assumes nothing.
use Rattle.std.proofs.Common.{◌^◌}
use Rattle.settle.specs.Busy.{Lifted}
use Rattle.settle.proofs.check.lift.Given as goal

abbrev pub invariant-loop-s : goal.invariant-loop-s
invariant-loop-s l = Lifted l.won l.initial.all l.all (2 ^ l.d) l.s
