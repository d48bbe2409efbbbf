-- `settle::link::set_link` meets its contract: the cells around part first, then the cell takes the link (`Link-set`). Assumes
-- nothing.
use native.Mathlib.Omega.{arith}
use Rattle.settle.specs.Any.{link_any}
use Rattle.settle.proofs.link.set_link.Goals as goal

pub returns : goal.returns
returns c =
    let a = c.args in
    let b = c.best_in-best.ensures.0 in
    rw c.linked.ensures (link_any a.page.now _ a.i a.a _ _ (omega arith) (omega arith) (omega arith) (omega arith)
    b (omega (arith, b)) c.block_in-q.ensures.0 c.part.ensures)
