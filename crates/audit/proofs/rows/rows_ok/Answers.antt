-- `audit::rows::rows_ok` makes the test of each row of cells: those passed are right. Assumes nothing.
use mathlib.Core.Path.{◌≡◌, sym, ◌∙◌}
use Prim.Native.Nat.{◌+◌, ◌*◌}
use native.Mathlib.Omega.{arith}
use borrow.Author.Tests.{not-true, not-false}
use Rattle.logic.specs.Reflects.{all_none}
use Rattle.sizes.specs.Sizes.{cell_count}
use Rattle.audit.specs.Rows.{row_cells, tied_b, row_more, row_stop}
use Rattle.audit.proofs.rows.rows_ok.Goals as goal

pub loop-row-init : goal.loop-row-init
loop-row-init c = all_none _

pub returns-then-not-row_ok : goal.returns-then-not-row_ok
returns-then-not-row_ok c =
    let a = c.args.a.now in
    row_stop (tied_b a.lent.arrays a.lent.levels a.lent.words.now a.number) (row_cells * c.loop-row.row) row_cells cell_count (omega arith)
    (sym c.row_ok.ensures ∙ not-true _ c.if-not-row_ok.true-raw)

pub loop-row-preserved : goal.loop-row-preserved
loop-row-preserved c =
    let a = c.args.a.now in
    let i = row_cells * c.loop-row.row in
    let e : row_cells * (c.loop-row.row + 1) ≡ i + row_cells = omega arith in
    rw e
    (row_more (tied_b a.lent.arrays a.lent.levels a.lent.words.now a.number) i row_cells c.loop-row.invariant
    (sym c.row_ok.ensures ∙ not-false _ c.if-not-row_ok.false-raw))
