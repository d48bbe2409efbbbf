-- `slots::check::read_some` meets its contract: what is read of the slots that the loop passed stands in the list. Assumes nothing.
use Rattle.std.proofs.Common.{arith}
use Rattle.slots.specs.Read.{read_more}
use Rattle.slots.proofs.check.read_some.Goals as goal

pub loop-s-preserved : goal.loop-s-preserved
loop-s-preserved c =
    let l = c.loop-s in
    read_more _ l.won l.any l.s _ _ (omega arith) c.faults-any.ensures c.hop.ensures.0 l.invariant
