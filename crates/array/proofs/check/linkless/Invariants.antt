-- `array::check::linkless` meets its contract. The or of the links passed is 0 exactly where each of them is. Assumes nothing.
use Rattle.std.proofs.Common.{◌≡◌, eqb}
use Rattle.logic.specs.Every.{all_b}
use Rattle.array.specs.Page.{links}
use Rattle.array.proofs.check.linkless.Given as goal

abbrev pub invariant-loop-i : goal.invariant-loop-i
invariant-loop-i l = eqb l.any 0 ≡ all_b (λ j. eqb (links l.page j) 0) l.i
