-- The measure is four times the number of bits left, and 3, 2 and 1 more for `side`, `some` and `branch`.
use Prim.Native.Nat.{◌+◌, ◌*◌}
use Rattle.writing.proofs.+branch_halves_side_some.Given as goal

abbrev pub decreases-branch : goal.decreases-branch
decreases-branch l = 4 * l.bits + 1

abbrev pub decreases-halves : goal.decreases-halves
decreases-halves l = 4 * l.bits

abbrev pub decreases-side : goal.decreases-side
decreases-side l = 4 * l.bits + 3

abbrev pub decreases-some : goal.decreases-some
decreases-some l = 4 * l.bits + 2
