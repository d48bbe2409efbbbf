-- `array::cell::best_plain` reads the best of a cell that has no link. Assumes nothing.
use mathlib.Core.Path.{◌≡◌}
use native.Mathlib.Omega.{arith}
use Rattle.array.specs.Cell.{mark, unmarked, length_none}
use Rattle.array.proofs.cell.best_plain.Goals as goal

pub returns : goal.returns
returns c =
    let m : mark c.args.word ≡ 0 = unmarked c.args.word c.requires in
    let e = length_none c.args.word m in
    (omega arith, omega arith)
