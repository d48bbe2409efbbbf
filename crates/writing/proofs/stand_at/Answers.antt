-- `writing::stand_at` meets its contract: one store of the slot's bits. Assumes nothing.
use Rattle.writing.proofs.Laws.{stand_stored}
use Rattle.writing.proofs.stand_at.Goals as goal

pub returns : goal.returns
returns c = stand_stored c.args.address.now c.args.slot c.args.bits
