-- `settle::part::fill` meets its contract: the page is the one at the start with the cells passed written. Assumes nothing.
use Rattle.std.proofs.Common.{ap, ◌∙◌, ◌+◌, arith, set}
use Rattle.sizes.specs.Sizes.{cells_at}
use Rattle.settle.specs.Fill.{fill_none, fill_more}
use Rattle.settle.proofs.part.fill.Goals as goal

pub loop-i-init : goal.loop-i-init
loop-i-init c = fill_none _ _ _

pub loop-i-preserved : goal.loop-i-preserved
loop-i-preserved c =
    let a = c.args in
    let l = c.loop-i in
    ap (set l.page (cells_at + l.i)) c.with_block.ensures ∙ fill_more a.page.now l.page a.from l.i a.q (omega arith) l.invariant
