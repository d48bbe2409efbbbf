-- The test on the number of words, and what clearing leaves. Assumes nothing.
use Rattle.std.proofs.Common.{arith}
use Rattle.damping.specs.Held.{cleared_not, cleared_done}
use Rattle.damping.proofs.held.clear.Goals as goal

pub returns-then-front-ne-FRONT_WORDS : goal.returns-then-front-ne-FRONT_WORDS
returns-then-front-ne-FRONT_WORDS c = cleared_not c.args.front.now c.if-front-ne-FRONT_WORDS.true

pub returns : goal.returns
returns c = cleared_done c.args.front.now _ (omega arith) c.clear.ensures
