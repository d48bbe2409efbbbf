-- `slots::word::fault` meets its contract: a word without a hop is wrong unless it is 0, and one with a hop by its preference.
-- Assumes nothing.
use Rattle.slots.proofs.Laws.{fault_hopless, fault_hop}
use Rattle.slots.proofs.word.fault.Goals as goal

pub returns-then-word-eq0 : goal.returns-then-word-eq0
returns-then-word-eq0 c = fault_hopless _ c.if-word-eq0.true

pub returns-else-word-eq0 : goal.returns-else-word-eq0
returns-else-word-eq0 c = fault_hop _ c.if-word-eq0.false
