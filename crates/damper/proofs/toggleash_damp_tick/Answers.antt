-- `damper::toggleash_damp_tick` meets its contract, from what the tick promises. Assumes nothing.
use Rattle.damper.proofs.Laws.{ticked}
use Rattle.damper.proofs.toggleash_damp_tick.Goals as goal

pub returns : goal.returns
returns c =
    let a = c.tick in
    ticked _ _ _ _ a.result _ a.ensures c.from.ensures
