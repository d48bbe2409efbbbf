-- `damper::toggleash_damp_withdraw` meets its contract, from what the withdrawal promises. Assumes nothing.
use Rattle.damper.proofs.Laws.{made}
use Rattle.damper.proofs.toggleash_damp_withdraw.Goals as goal

pub returns : goal.returns
returns c =
    let a = c.withdraw in
    made _ _ _ _ _ a.result _ a.ensures c.from.ensures
