-- `slots::check::read_some` meets its contract: what is read of the slots that the loop passed stands in the list. Assumes nothing.
use Rattle.slots.specs.Read.{Read}
use Rattle.slots.proofs.check.read_some.Given as goal

abbrev pub invariant-loop-s : goal.invariant-loop-s
invariant-loop-s l = Read l.page l.won l.any l.s
