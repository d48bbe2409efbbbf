-- `resolver::way::onward` takes a lookup's answer, which refuses by 1 or 2. Assumes nothing.
use native.Mathlib.Omega.{arith}
use Rattle.resolver.specs.Coded.{knows_walked}
use Rattle.resolver.proofs.way.onward.Goals as goal

pub asked-requires : goal.asked-requires
asked-requires c = (omega arith, rw c.lookup.ensures.any_words (knows_walked 4 c.args.words.now c.args.gateway))
