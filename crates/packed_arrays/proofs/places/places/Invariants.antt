-- `packed_arrays::places::places` goes up through the arrays. Assumes nothing.
use Rattle.words.specs.Words.{arrays_of}
use Rattle.packed_arrays.specs.Mapped.{Maps}
use Rattle.packed_arrays.proofs.places.places.Given as goal

abbrev pub invariant-loop-a : goal.invariant-loop-a
invariant-loop-a l = Maps (arrays_of l.table) l.map l.a l.n
