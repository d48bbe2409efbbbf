-- `audit::rows::row_ok` makes the test of each cell of a row, unless none has a link. Assumes nothing.
use mathlib.Core.Path.{◌≡◌}
use mathlib.Core.Bool.{true}
use Prim.Native.Nat.{◌+◌}
use Rattle.logic.specs.Every.{all_b}
use Rattle.audit.specs.Rows.{tied_b}
use Rattle.audit.proofs.rows.row_ok.Given as goal

abbrev pub invariant-loop-j : goal.invariant-loop-j
invariant-loop-j l = all_b (λ k. tied_b l.a.lent.arrays l.a.lent.levels l.a.lent.words.now l.a.number (l.from + k)) l.j ≡ true
