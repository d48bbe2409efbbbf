-- `paths::prune` meets its contract. What is left may have b empty; an empty b is released, and its parent, one level up, may then be empty.
-- Assumes nothing.
use lib.ListN.{get_or}
use Rattle.sizes.specs.Sizes.{array_at}
use Rattle.array.specs.Tag.{level_in}
use Rattle.paths.specs.Shed.{Shed}
use Rattle.paths.proofs.prune.Given as goal

abbrev pub invariant-loop-b : goal.invariant-loop-b
invariant-loop-b l = Shed l.initial.words l.words l.a l.b

abbrev pub decreases-loop-b : goal.decreases-loop-b
decreases-loop-b l = level_in (get_or l.words (array_at l.b) 0)
