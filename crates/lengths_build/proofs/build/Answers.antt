-- `lengths_build::build` meets its contract: the tables are made in words enough. Assumes nothing.
use Rattle.lengths_build.proofs.Whole.{build_leaves}
use Rattle.lengths_build.proofs.build.Goals as goal

pub returns-clause-words : goal.returns-clause-words
returns-clause-words c =
    let l = c.in-Some in
    let n = c.words_for-n in
    rw (l.ensures.1, ← l.ensures.0)
    (build_leaves l.list.bytes.now c.args.words.now n.result n.ensures c.if-words-n.false c.default_of.result
    c.tables.new.words c.tables.ensures)
