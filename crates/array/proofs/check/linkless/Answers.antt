-- `array::check::linkless` meets its contract. The or of the links passed is 0 exactly where each of them is. Assumes nothing.
use Rattle.std.proofs.Common.{sym}
use Rattle.logic.specs.Reflects.{all_none}
use Rattle.array.proofs.Laws.{links_more}
use Rattle.array.proofs.check.linkless.Goals as goal

pub loop-i-init : goal.loop-i-init
loop-i-init c = sym (all_none _)

pub loop-i-preserved : goal.loop-i-preserved
loop-i-preserved c = links_more _ _ _ c.loop-i.invariant
