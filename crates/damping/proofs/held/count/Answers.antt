-- All places come before 2 ^ 43. Assumes nothing.
use Rattle.std.proofs.Common.{◌∙◌}
use Rattle.damping.specs.Count.{counted}
use Rattle.damping.proofs.held.count.Goals as goal

pub returns : goal.returns
returns c = (c.rank_of.ensures.0 ∙ counted c.args.front.now c.requires, c.rank_of.ensures.1)
