-- `array::cell::array_below` reads the link of a cell that has one. Assumes nothing.
use mathlib.Core.Path.{sym}
use native.Mathlib.Omega.{arith}
use Rattle.array.specs.Cell.{link_none, link_some}
use Rattle.array.proofs.cell.array_below.Goals as goal

pub returns : goal.returns
returns c =
    let w = c.args.word in
    (sym (link_some w (λ e. c.requires (link_none w e))), omega arith)
