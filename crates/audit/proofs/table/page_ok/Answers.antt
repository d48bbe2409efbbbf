-- `audit::table::page_ok` lends the page of one array to its checks. Assumes nothing.
use mathlib.Core.Path.{ap, ◌∙◌}
use Rattle.logic.specs.Bools.{not_true, not_false}
use Rattle.array.specs.Tag.{level_in}
use Rattle.audit.proofs.Laws.{page_wrong, page_bare, page_last, filled_root, filled_some}
use Rattle.audit.proofs.table.page_ok.Goals as goal
use Rattle.audit.proofs.table.page_ok.Goals.{else-a-ne1-via-then-a-ne1+else-busy-eq0, else-a-ne1-via-else-a-ne1}

pub returns-then-not-right : goal.returns-then-not-right
returns-then-not-right c =
    let a = c.args.a.now in
    page_wrong a.lent.words.now _ a.number _ c.page-page.ensures (c.level_in-level.ensures.0 ∙ ap level_in c.tag.ensures)
    _ c.right.ensures (not_true _ c.if-not-right.true-raw)

pub returns-then-busy-eq0 : goal.returns-then-busy-eq0
returns-then-busy-eq0 c =
    let a = c.args.a.now in
    page_bare a.lent.words.now _ _ a.number c.page-page.ensures c.busy-busy.ensures c.if-a-ne1.true c.if-busy-eq0.true-raw

pub returns : goal.returns
returns c =
    let a = c.args.a.now in
    page_last a.lent.words.now _ a.number _ c.page-page.ensures (c.level_in-level.ensures.0 ∙ ap level_in c.tag.ensures)
    _ c.right.ensures _ (not_false _ c.if-not-right.false-raw)
    (elim c.else-a-ne1.branch [
      | else-a-ne1-via-then-a-ne1+else-busy-eq0 w ↦
          filled_some a.lent.words.now _ _ a.number c.page-page.ensures c.busy-busy.ensures w.if-busy-eq0.false-raw
      | else-a-ne1-via-else-a-ne1 w ↦ filled_root a.lent.words.now a.number w.if-a-ne1.false
    ])
    c.settled.ensures
