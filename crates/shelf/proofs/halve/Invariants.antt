-- The loop keeps that the rows passed are halved. Assumes nothing.
use Rattle.shelf.specs.Shift.{Holds, halved_to}
use Rattle.rows.specs.Row.{row_at}
use Rattle.shelf.proofs.halve.Given as goal

abbrev pub invariant-loop-i : goal.invariant-loop-i
invariant-loop-i l = Holds l.words (halved_to (row_at l.initial.words) l.i)
