-- `lengths::place` meets its contract: the place is before the end, or goes round it. Assumes nothing.
use Rattle.lengths.proofs.Probing.{place_on, place_round}
use native.Mathlib.Omega.{arith}
use Rattle.lengths.proofs.place.Goals as goal

pub returns-then-s-d : goal.returns-then-s-d
returns-then-s-d c = (place_on c.args.s c.args.p c.args.d c.if-s-d.true, c.if-s-d.true)

pub returns-else-s-d : goal.returns-else-s-d
returns-else-s-d c = (place_round c.args.s c.args.p c.args.d c.if-s-d.false, omega arith)
