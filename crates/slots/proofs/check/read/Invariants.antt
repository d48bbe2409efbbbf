-- `slots::check::read` meets its contract: what is read of the slots that the loop passed stands in the list, and their
-- candidates are counted. Assumes nothing.
use Rattle.std.proofs.Common.{◌≡◌, ◌+◌, ◌*◌}
use Rattle.slots.specs.Count.{candidates_to}
use Rattle.slots.specs.Read.{Read}
use Rattle.slots.proofs.check.read.Given as goal

abbrev pub invariant-loop-row : goal.invariant-loop-row
invariant-loop-row l = record {
  read : Read l.page l.won l.bad (31 + 32 * l.row);
  count : l.m ≡ candidates_to l.page (31 + 32 * l.row);
}
