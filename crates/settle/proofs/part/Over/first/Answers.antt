-- `settle::part::Over::first` meets its contract: the low bits are cleared, and a run of that size ends within the array. Assumes
-- nothing.
use Rattle.std.proofs.Common.{refl, arith}
use Rattle.settle.specs.Part.{start_fits}
use Rattle.settle.proofs.part.Over.first.Goals as goal

pub returns : goal.returns
returns c = let a = c.args.self in rw c.pow2.ensures (refl, start_fits a.cell a.bits (omega arith) (omega arith))
