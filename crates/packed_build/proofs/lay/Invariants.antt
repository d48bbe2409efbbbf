-- `packed_build::lay` lays one array after the other. Assumes nothing.
use Prim.Native.Nat.{◌-◌}
use Rattle.words.specs.Words.{arrays_of}
use Rattle.packed_arrays.specs.Laying.{LaidTo}
use Rattle.packed_build.proofs.lay.Given as goal

abbrev pub invariant-loop-a : goal.invariant-loop-a
invariant-loop-a l = LaidTo (arrays_of l.table) l.initial.words l.words (l.a - 1)
