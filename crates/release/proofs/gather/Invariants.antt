-- The loop keeps that the rows passed are gathered, and the others are as they were. Assumes nothing.
use Rattle.release.specs.Settle.{Gathered}
use Rattle.release.proofs.gather.Given as goal

abbrev pub invariant-loop-i : goal.invariant-loop-i
invariant-loop-i l = Gathered l.initial.words l.words l.i l.j
