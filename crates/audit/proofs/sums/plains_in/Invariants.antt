-- `audit::sums::plains_in` makes the test of each slot of a row: what the loop carries tells of those passed. Assumes nothing.
use mathlib.Core.Path.{◌≡◌}
use Prim.Native.Nat.{◌+◌, ◌≤◌}
use Rattle.logic.specs.Every.{all_b}
use Rattle.words.specs.Words.{arrays_of, totals_of}
use Rattle.audit.specs.Rows.{row_cells}
use Rattle.audit.specs.Won.{plain_b}
use Rattle.audit.proofs.sums.plains_in.Given as goal

abbrev pub invariant-loop-j : goal.invariant-loop-j
invariant-loop-j l = (l.j ≤ row_cells) × (l.ok ≡ all_b (λ k. plain_b (arrays_of l.a.lent.words.now) (totals_of l.a.lent.words.now) l.a.number (l.from + k)) l.j)
