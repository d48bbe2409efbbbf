-- `audit::rows::row_ok` makes the test of each cell of a row, unless none has a link. Assumes nothing.
use mathlib.Core.Path.{refl, sym, ◌∙◌}
use Prim.Native.Nat.{◌+◌}
use native.Mathlib.Omega.{arith}
use borrow.Author.Tests.{not-true, not-false}
use Rattle.logic.specs.Reflects.{all_none, all_more, all_stop}
use Rattle.audit.specs.Rows.{row_cells, tied_b}
use Rattle.words.specs.Words.{arrays_of}
use Rattle.audit.proofs.Laws.{row_tied}
use Rattle.audit.proofs.rows.row_ok.Goals as goal

pub returns-then-unlinked : goal.returns-then-unlinked
returns-then-unlinked c =
    let a = c.args.a.now in
    c.plains_in.ensures
    ∙ row_tied (arrays_of a.lent.words.now) a.number c.args.from _ c.unlinked.ensures c.if-unlinked.true a.lent.arrays a.lent.levels
    a.lent.words.now refl

pub loop-j-init : goal.loop-j-init
loop-j-init c = all_none _

pub returns-then-not-tied : goal.returns-then-not-tied
returns-then-not-tied c =
    let l = c.loop-j in
    let a = c.args.a.now in
    all_stop (λ k. tied_b a.lent.arrays a.lent.levels a.lent.words.now a.number (c.args.from + k)) row_cells l.j (omega arith)
    (sym c.tied.ensures ∙ not-true _ c.if-not-tied.true-raw)

pub loop-j-preserved : goal.loop-j-preserved
loop-j-preserved c =
    let l = c.loop-j in
    let a = c.args.a.now in
    all_more (λ k. tied_b a.lent.arrays a.lent.levels a.lent.words.now a.number (c.args.from + k)) l.j l.invariant
    (sym c.tied.ensures ∙ not-false _ c.if-not-tied.false-raw)
