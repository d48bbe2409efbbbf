-- `slots::slot::faults` meets its contract: the or of the faults of the four words is 0 where each is. Assumes nothing.
use Rattle.slots.proofs.Laws.{faults_told}
use Rattle.slots.proofs.slot.faults.Goals as goal

pub returns : goal.returns
returns c =
    let a = c.args in
    faults_told a.page.now a.i c.fault.result
    c.fault-2.result c.fault-3.result c.fault-4.result
    c.fault.ensures
    c.fault-2.ensures c.fault-3.ensures c.fault-4.ensures
