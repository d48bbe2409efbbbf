-- `slots::blank::zeros` tells whether the words are all 0: the or of those passed is 0 exactly where each of them is. Assumes nothing.
use Rattle.std.proofs.Common.{sym}
use Rattle.logic.specs.Reflects.{all_none}
use Rattle.slots.proofs.Laws.{or_more}
use Rattle.slots.proofs.blank.zeros.Goals as goal

pub loop-i-init : goal.loop-i-init
loop-i-init c = sym (all_none _)

pub loop-i-preserved : goal.loop-i-preserved
loop-i-preserved c = or_more _ _ _ _ c.loop-i.invariant
