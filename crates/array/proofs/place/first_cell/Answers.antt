-- `array::place::first_cell` meets its contract. The 2 ^ d routes of one length share the 256 cells. Assumes nothing.
use native.Mathlib.Omega.{arith}
use Rattle.array.specs.Place.{cells_high}
use Rattle.array.proofs.place.first_cell.Goals as goal

pub returns : goal.returns
returns c = rw c.pow2.ensures (omega (arith, cells_high c.args.d c.args.x (omega arith) (omega arith)))
