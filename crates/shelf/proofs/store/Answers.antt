-- Four words of one row. Assumes nothing.
use Rattle.shelf.specs.Shifts.{stored}
use Rattle.shelf.proofs.store.Goals as goal

pub returns : goal.returns
returns c =
    let r = c.args.row in stored c.args.words.now c.args.i r.address r.who r.mark r.kept c.requires.0 c.requires.1
