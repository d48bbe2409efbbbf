-- `packed_arrays::flags::flag_all` sets one flag after the other. Assumes nothing.
use Rattle.packed_arrays.specs.Flags.{Flagged}
use Rattle.packed_arrays.proofs.flags.flag_all.Given as goal

abbrev pub invariant-loop-s : goal.invariant-loop-s
invariant-loop-s l = Flagged l.page l.held l.s
