-- `damper::toggleash_damp_withdraw_local` meets its contract, from what the withdrawal promises. Assumes nothing.
use Rattle.damper.proofs.Laws.{made_locally}
use Rattle.damper.proofs.toggleash_damp_withdraw_local.Goals as goal

pub returns : goal.returns
returns c =
    let a = c.withdraw_local in
    made_locally _ _ _ _ _ a.result _ a.ensures c.from.ensures
