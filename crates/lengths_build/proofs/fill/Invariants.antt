-- `lengths_build::fill` meets its contract. The loop keeps what the records from i on have entered. Assumes nothing.
use Rattle.lengths_build.specs.Filling.{Filled}
use Rattle.lengths_build.proofs.fill.Given as goal

abbrev pub invariant-loop-i : goal.invariant-loop-i
invariant-loop-i l = Filled l.marks l.list.bytes.now l.initial.words l.words l.i l.t.m l.t.o l.t.size
