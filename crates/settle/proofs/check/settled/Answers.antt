-- `settle::check::settled` meets its contract: what the loop carries tells of the cells that it passed. Assumes nothing.
use Rattle.std.proofs.Common.{sym, ◌∙◌, arith}
use Rattle.logic.specs.Reflects.{all_none, test_more}
use Rattle.calm.specs.Check.{cell_b}
use Rattle.array.specs.Page.{slots, links, blocks}
use Rattle.settle.specs.Blocks.{cell_is_lem}
use Rattle.settle.proofs.check.settled.Goals as goal

pub loop-i-init : goal.loop-i-init
loop-i-init c = sym (all_none _)

pub loop-i-preserved : goal.loop-i-preserved
loop-i-preserved c =
    let l = c.loop-i in
    let p = c.args.page.now in
    test_more (cell_b (slots p) (links p) (blocks p)) l.i l.ok _ l.invariant
    (c.cell_is-ok.ensures ∙ cell_is_lem p _ _ l.i (omega arith) c.requires c.blocks_of-blocks.ensures)
