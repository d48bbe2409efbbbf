-- Gathered, and the rest cleared. Assumes nothing.
use Rattle.release.specs.Settle.{settle_law}
use Rattle.release.proofs.settle.Goals as goal

pub returns : goal.returns
returns c =
    let g = c.gather-j in
    let c' = c.clear_rows in
    settle_law c.args.words.now g.new.words c'.new.words c.args.n g.result c.requires g.ensures c'.ensures
