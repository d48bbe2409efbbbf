-- `damper::toggleash_damp_tick_local` meets its contract, from what the tick promises. Assumes nothing.
use Rattle.damper.proofs.Laws.{ticked_locally}
use Rattle.damper.proofs.toggleash_damp_tick_local.Goals as goal

pub returns : goal.returns
returns c =
    let a = c.tick_local in
    ticked_locally _ _ _ _ a.result _ a.ensures c.from.ensures
