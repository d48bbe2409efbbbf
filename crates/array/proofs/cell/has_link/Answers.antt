-- `array::cell::has_link` tells by the mark. Assumes nothing.
use Rattle.array.specs.Cell.{link_tells}
use Rattle.array.proofs.cell.has_link.Goals as goal

pub returns : goal.returns
returns c = rw (link_tells c.args.word)
