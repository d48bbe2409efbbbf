-- `words::total::add_on` meets its contract. The loop's invariant: what is left to add is the whole. The measure is the level of
-- the array. Assumes nothing.
use Rattle.std.proofs.Common.{get_or}
use Rattle.sizes.specs.Sizes.{array_at}
use Rattle.array.specs.Tag.{level_in}
use Rattle.words.specs.Climbing.{Rest}
use Rattle.words.proofs.total.add_on.Given as goal

abbrev pub invariant-loop-b : goal.invariant-loop-b
invariant-loop-b l = Rest l.initial.words l.a l.slot l.by l.words l.b l.s

abbrev pub decreases-loop-b : goal.decreases-loop-b
decreases-loop-b l = level_in (get_or l.words (array_at l.b) 0)
