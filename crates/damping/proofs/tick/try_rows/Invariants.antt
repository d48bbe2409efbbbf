-- The loop keeps that the rows before i are tried. Assumes nothing.
use Rattle.damping.specs.Tick.{Trying}
use Rattle.damping.proofs.tick.try_rows.Given as goal

abbrev pub invariant-loop-i : goal.invariant-loop-i
invariant-loop-i l = Trying l.initial.front l.initial.words l.front l.words l.i
