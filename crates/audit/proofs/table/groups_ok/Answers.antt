-- `audit::table::groups_ok` tells whether each group's count is right: those passed are. Assumes nothing.
use mathlib.Core.Bool.{true, false}
use native.Mathlib.Omega.{arith}
use borrow.Author.Tests.{ne_eqb, eq-eqb}
use Rattle.logic.specs.Reflects.{all_none, all_more, all_stop}
use Rattle.sizes.specs.Sizes.{group_count}
use Rattle.words.specs.Table.{group_b}
use Rattle.audit.proofs.Laws.{group_is}
use Rattle.audit.proofs.table.groups_ok.Goals as goal

pub loop-g-init : goal.loop-g-init
loop-g-init c = all_none _

pub returns-then-lent-g : goal.returns-then-lent-g
returns-then-lent-g c =
    let l = c.loop-g in
    let a = c.args in
    let u = c.used_in-m in
    all_stop (group_b a.lent.now.words.now) group_count l.g (omega arith)
    (group_is a.lent.now.words.now l.g u.result false u.ensures (ne_eqb _ _ c.if-lent-g.true))

pub loop-g-preserved : goal.loop-g-preserved
loop-g-preserved c =
    let l = c.loop-g in
    let a = c.args in
    let u = c.used_in-m in
    all_more (group_b a.lent.now.words.now) l.g l.invariant
    (group_is a.lent.now.words.now l.g u.result true u.ensures (eq-eqb _ _ c.if-lent-g.false))
