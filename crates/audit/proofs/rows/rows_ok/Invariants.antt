-- `audit::rows::rows_ok` makes the test of each row of cells: those passed are right. Assumes nothing.
use mathlib.Core.Path.{◌≡◌}
use mathlib.Core.Bool.{true}
use Prim.Native.Nat.{◌*◌}
use Rattle.logic.specs.Every.{all_b}
use Rattle.audit.specs.Rows.{row_cells, tied_b}
use Rattle.audit.proofs.rows.rows_ok.Given as goal

abbrev pub invariant-loop-row : goal.invariant-loop-row
invariant-loop-row l = all_b (tied_b l.a.lent.arrays l.a.lent.levels l.a.lent.words.now l.a.number) (row_cells * l.row) ≡ true
