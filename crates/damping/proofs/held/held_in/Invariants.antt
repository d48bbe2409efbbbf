-- The loop keeps how many of the rows before i are held back. Assumes nothing.
use Rattle.damping.specs.Held.{Counting}
use Rattle.damping.proofs.held.held_in.Given as goal

abbrev pub invariant-loop-i : goal.invariant-loop-i
invariant-loop-i l = Counting l.front l.n l.i l.back
