-- `settle::check::any` meets its contract: an or of words is 0 where all are. Assumes nothing.
use Rattle.settle.proofs.Laws.{or_four}
use Rattle.settle.proofs.check.any.Goals as goal

pub returns : goal.returns
returns c = or_four c.args.a c.args.b c.args.c c.args.d
