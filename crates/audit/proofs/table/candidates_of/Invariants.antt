-- `audit::table::candidates_of` tells of all arrays: those passed are right, and their candidates are summed. Assumes nothing.
use mathlib.Core.Path.{◌≡◌}
use mathlib.Core.Bool.{true}
use Prim.Native.Nat.{◌+◌}
use Rattle.logic.specs.Every.{all_b}
use Rattle.gather.specs.Counted.{candidates_of}
use Rattle.words.specs.Words.{feeds_of}
use Rattle.words.specs.Table.{array_b}
use Rattle.audit.proofs.table.candidates_of.Given as goal

abbrev pub invariant-loop-j : goal.invariant-loop-j
invariant-loop-j l =
    (all_b (λ j. array_b l.lent.levels l.lent.words.now (j + 1)) l.j ≡ true) × (l.m ≡ candidates_of (feeds_of l.lent.words.now) l.j)
