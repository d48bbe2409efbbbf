-- `totals::add_up` meets its contract. The loop's invariant: what is left to add is the whole. The measure is the slot. Assumes
-- nothing.
use Rattle.std.proofs.Common.{◌<◌}
use Rattle.sizes.specs.Sizes.{slot_end}
use Rattle.totals.specs.Up.{Left}
use Rattle.totals.proofs.add_up.Given as goal

abbrev pub invariant-loop-s : goal.invariant-loop-s
invariant-loop-s l = (l.s < slot_end) × Left l.initial.page l.slot l.by l.page l.s

abbrev pub decreases-loop-s : goal.decreases-loop-s
decreases-loop-s l = l.s
