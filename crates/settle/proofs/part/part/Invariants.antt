-- `settle::part::part` meets its contract: the cells are those at the start with the halves passed written, and the last run is
-- what is below the depth. Assumes nothing.
use Rattle.settle.specs.Part.{Recelled, left}
use Rattle.settle.proofs.part.part.Given as goal

abbrev pub invariant-loop-m : goal.invariant-loop-m
invariant-loop-m l = Recelled l.initial.page l.page (left l.over.cell l.q l.m)
