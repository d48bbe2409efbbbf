-- `settle::check::blocks_of` meets its contract. The blocks of the slots of the levels that the loop passed are written. Assumes
-- nothing.
use Rattle.std.proofs.Common.{◌*◌, ◌^◌}
use Rattle.settle.specs.Blocks.{Blocks}
use Rattle.settle.proofs.check.blocks_of.Given as goal

abbrev pub invariant-loop-d : goal.invariant-loop-d
invariant-loop-d l = Blocks l.all l.blocks (2 * 2 ^ l.d)
