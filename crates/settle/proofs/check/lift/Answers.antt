-- `settle::check::lift` meets its contract: the slots that the loop passed have what the two below each tell. Assumes nothing.
use Rattle.std.proofs.Common.{arith, pow_mono, pow_pos}
use Rattle.settle.specs.Busy.{lifted_more}
use Rattle.settle.proofs.check.lift.Goals as goal

pub loop-s-preserved : goal.loop-s-preserved
loop-s-preserved c =
    let l = c.loop-s in
    let a = c.args in
    let m = pow_mono {i = a.d} {j = 7} (omega arith) in
    lifted_more a.won.now a.all.now l.all _ l.s _ (omega (arith, pow_pos a.d)) (omega arith) c.any.ensures l.invariant
