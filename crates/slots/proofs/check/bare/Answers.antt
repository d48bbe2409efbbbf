-- `slots::check::bare` meets its contract. The words of the slots passed are 0: one that is not stops the loop, and none did where
-- it ends. Assumes nothing.
use Rattle.std.proofs.Common.{sym, ◌∙◌, arith}
use Rattle.logic.specs.Reflects.{all_none}
use Rattle.slots.proofs.Laws.{bare_more, bare_stop, bare_done}
use Rattle.slots.proofs.check.bare.Goals as goal

pub loop-g-init : goal.loop-g-init
loop-g-init c = all_none _

pub returns-then-not-zeros : goal.returns-then-not-zeros
returns-then-not-zeros c =
    bare_stop _ c.loop-g.g (omega arith) (sym c.zeros.ensures ∙ c.if-not-zeros.true)

pub loop-g-preserved : goal.loop-g-preserved
loop-g-preserved c =
    bare_more _ c.loop-g.g c.loop-g.invariant (sym c.zeros.ensures ∙ c.if-not-zeros.false)

pub returns : goal.returns
returns c = bare_done _ c.loop-g.g c.loop-g.invariant (omega arith) (omega arith)
