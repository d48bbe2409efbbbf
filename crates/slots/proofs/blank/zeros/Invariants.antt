-- `slots::blank::zeros` tells whether the words are all 0: the or of those passed is 0 exactly where each of them is. Assumes nothing.
use Rattle.std.proofs.Common.{◌≡◌, eqb}
use Rattle.logic.specs.Every.{all_b}
use Rattle.slots.specs.Zeros.{zero_at}
use Rattle.slots.proofs.blank.zeros.Given as goal

abbrev pub invariant-loop-i : goal.invariant-loop-i
invariant-loop-i l = eqb l.any 0 ≡ all_b (zero_at l.words l.from) l.i
