-- `audit::rows::unlinked` meets its contract. The or of the marks passed is 0 exactly where no cell passed has a link. Assumes
-- nothing.
use mathlib.Core.Path.{◌≡◌}
use Prim.Native.Nat.{◌+◌, ◌≤◌}
use lib.Dec.{eqb}
use Rattle.logic.specs.Every.{all_b}
use Rattle.words.specs.Words.{arrays_of}
use Rattle.audit.specs.Rows.{row_cells}
use Rattle.audit.proofs.rows.unlinked.Given as goal

abbrev pub invariant-loop-j : goal.invariant-loop-j
invariant-loop-j l = (l.j ≤ row_cells) × (eqb l.any 0 ≡ all_b (λ k. eqb ((arrays_of l.a.lent.words.now).link l.a.number (l.from + k)) 0) l.j)
