-- `settle::check::sink` meets its contract. Whatever slot the loop stands at, the blocks of all slots before its two are written.
-- Assumes nothing.
use Rattle.std.proofs.Common.{arith, pow_mono}
use Rattle.settle.specs.Blocks.{blocks_two}
use Rattle.settle.proofs.check.sink.Goals as goal

pub loop-s-preserved : goal.loop-s-preserved
loop-s-preserved c =
    let l = c.loop-s in
    let a = c.args in
    let m = pow_mono {i = a.d} {j = 7} (omega arith) in
    blocks_two a.all.now l.blocks l.s a.d c.deeper-block.result (omega arith) (omega arith) (omega arith)
    c.deeper-block.ensures l.invariant
