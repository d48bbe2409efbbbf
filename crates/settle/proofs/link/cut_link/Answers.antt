-- `settle::link::cut_link` meets its contract: the cell is plain at first, then the block found is written around it
-- (`link_cut`). Assumes nothing.
use mathlib.Core.Path.{refl}
use native.Mathlib.Omega.{arith}
use Rattle.settle.specs.Any.{cut_any}
use Rattle.settle.proofs.link.cut_link.Goals as goal

pub returns : goal.returns
returns c =
    let a = c.args in
    let b = c.best_in-best.ensures.0 in
    let w = c.plain.ensures in
    let fill = rw (c.to.ensures.0, c.to.ensures.1) at c.fill_below.ensures in
    cut_any a.page.now _ a.i _ _ _ (omega arith) (omega arith) b (omega (arith, b))
    (rw w at c.climb-q.ensures.0) refl (rw w at fill)
