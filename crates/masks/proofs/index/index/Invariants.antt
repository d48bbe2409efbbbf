-- `masks::index::index` gives the byte itself under the mask of all bits, and else goes through the set bits, the lowest first.
-- Assumes nothing.
use Rattle.masks.specs.Steps.{Stepped}
use Rattle.masks.proofs.index.index.Given as goal

abbrev pub invariant-loop-left : goal.invariant-loop-left
invariant-loop-left l = Stepped l.m l.y l.left l.r l.p

abbrev pub decreases-loop-left : goal.decreases-loop-left
decreases-loop-left l = l.left
