-- All rows cleared. Assumes nothing.
use Rattle.release.specs.Settle.{cleared_all}
use Rattle.rows.specs.Row.{row_at}
use Rattle.release.proofs.clear.Goals as goal

pub returns : goal.returns
returns c =
    let c' = c.clear_rows in
    cleared_all c'.new.words (row_at c.args.words.now) c'.ensures
