-- `settle::part::Over::across` meets its contract: one bit of the cell is turned over. Assumes nothing.
use Rattle.std.proofs.Common.{◌-◌, arith}
use Rattle.calm.specs.Climb.{across-low}
use Rattle.settle.proofs.part.Over.across.Goals as goal

pub invariant_of-result : goal.invariant_of-result
invariant_of-result c =
    let a = c.args.self in
    record { inside = (rw c.pow2.ensures (across-low a.cell (8 - a.bits) (omega arith) (omega arith)), omega arith) }
