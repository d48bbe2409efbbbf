-- `settle::part::part` meets its contract: the cells are those at the start with the halves passed written, and the last run is
-- what is below the depth. Assumes nothing.
use Rattle.std.proofs.Common.{refl, arith}
use Rattle.settle.specs.Part.{left_next}
use Rattle.settle.proofs.part.part.Goals as goal

pub loop-m-preserved : goal.loop-m-preserved
loop-m-preserved c =
    let a = c.args in
    let l = c.loop-m in
    let to = c.to.ensures in
    let across = c.across.ensures in
    let j = rw (to.0, to.1) at across.0 in
    let fill = rw (across.1, to.1) at c.fill_below.ensures in
    left_next a.page.now l.page _ a.over.cell a.q l.m _ _ (omega arith) (omega arith) (omega arith) j refl l.invariant fill
