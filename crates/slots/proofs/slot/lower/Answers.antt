-- `slots::slot::lower` meets its contract, by the cases of the comparison. Assumes nothing.
use Rattle.std.proofs.Common.{sym}
use Rattle.slots.specs.Winner.{lower_none, lower_only, lower-second, lower_first}
use Rattle.slots.proofs.Laws.{lower_yes, lower_no}
use Rattle.slots.proofs.slot.lower.Goals as goal

pub returns-then-y-x : goal.returns-then-y-x
returns-then-y-x g c = lower_yes _ _ c.if-y-x.true

pub returns-else-y-x : goal.returns-else-y-x
returns-else-y-x g c = lower_no _ _ c.if-y-x.false

pub returns-then-y-eq0 : goal.returns-then-y-eq0
returns-then-y-eq0 g c = sym (lower_none _ _ c.if-y-eq0.true)

pub returns-then-x-eq0 : goal.returns-then-x-eq0
returns-then-x-eq0 g c = sym (lower_only _ _ c.if-y-eq0.false c.if-x-eq0.true)

pub returns-then-y-x-2 : goal.returns-then-y-x-2
returns-then-y-x-2 g c = sym (lower-second _ _ c.if-y-eq0.false c.if-x-eq0.false c.if-y-x-2.true)

pub returns-else-y-x-2 : goal.returns-else-y-x-2
returns-else-y-x-2 g c = sym (lower_first _ _ c.if-y-eq0.false c.if-x-eq0.false c.if-y-x-2.false)
