-- `lengths::start` meets its contract: the product has 64 bits, and is as far among them as the start among the places.
-- Assumes nothing.
use Rattle.lengths.proofs.Probing.{start_is}
use Rattle.lengths.proofs.start.Goals as goal

pub returns : goal.returns
returns c =
    let s = start_is c.args.v c.args.size c.requires.0 in
    (s.0, rw s.0 s.1)
