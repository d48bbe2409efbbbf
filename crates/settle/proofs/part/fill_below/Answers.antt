-- `settle::part::fill_below` meets its contract: the run of cells from the first on is what shares the bits. Assumes nothing.
use mathlib.Core.Path.{refl}
use native.Mathlib.Omega.{arith}
use Rattle.settle.specs.Part.{fill_run}
use Rattle.settle.proofs.part.fill_below.Goals as goal

pub returns : goal.returns
returns c =
    let a = c.args in
    fill_run a.page.now _ a.over.cell a.over.bits _ _ _ a.q (omega arith) (omega arith) (omega arith)
    c.first-from.ensures.0 c.pow2.ensures refl c.fill.ensures
