-- `settle::check::sink` meets its contract. Whatever slot the loop stands at, the blocks of all slots before its two are written.
-- Assumes nothing.
use Rattle.std.proofs.Common.{◌*◌}
use Rattle.settle.specs.Blocks.{Blocks}
use Rattle.settle.proofs.check.sink.Given as goal

abbrev pub invariant-loop-s : goal.invariant-loop-s
invariant-loop-s l = Blocks l.all l.blocks (2 * l.s)
