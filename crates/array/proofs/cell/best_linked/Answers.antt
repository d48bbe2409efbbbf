-- `array::cell::best_linked` reads the best of a cell that has a link. Assumes nothing.
use native.Mathlib.Omega.{arith}
use mathlib.Core.Logic.{◌≢◌}
use Rattle.array.specs.Cell.{mark, link_none, length_some}
use Rattle.array.proofs.cell.best_linked.Goals as goal

pub overflow_sub-result : goal.overflow_sub-result
overflow_sub-result c =
    let n : mark c.args.word ≢ 0 = λ e. c.requires (link_none c.args.word e) in
    omega arith

pub returns : goal.returns
returns c =
    let n : mark c.args.word ≢ 0 = λ e. c.requires (link_none c.args.word e) in
    let e = length_some c.args.word n in
    (omega arith, omega arith)
