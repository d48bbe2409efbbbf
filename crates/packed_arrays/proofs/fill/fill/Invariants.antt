-- `packed_arrays::fill::fill` puts one entry after the other. Assumes nothing.
use Rattle.packed_arrays.specs.Filled.{Filled}
use Rattle.packed_arrays.proofs.fill.fill.Given as goal

abbrev pub invariant-loop-v : goal.invariant-loop-v
invariant-loop-v l = Filled l.page l.map l.initial.words l.words l.o l.m l.v
