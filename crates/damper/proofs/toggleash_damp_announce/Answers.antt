-- `damper::toggleash_damp_announce` meets its contract, from what the announcement promises. Assumes nothing.
use Rattle.damper.proofs.Laws.{made}
use Rattle.damper.proofs.toggleash_damp_announce.Goals as goal

pub returns : goal.returns
returns c =
    let a = c.announce in
    made _ _ _ _ _ a.result _ a.ensures c.from.ensures
