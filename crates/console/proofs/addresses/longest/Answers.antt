-- The search goes over one group more. Assumes nothing.
use Rattle.console.proofs.Zeros.{turn}
use Rattle.console.proofs.addresses.longest.Goals as goal

pub loop-i-preserved : goal.loop-i-preserved
loop-i-preserved c =
    turn _ _ _ _ _ _ _ _ _ c.loop-i-test.true c.loop-i.invariant c.group.ensures c.start-from.ensures c.longer-best.ensures
