-- `lengths_build::entries` meets its contract: the entries are the heads of the routes up to the reach, and few.
-- Assumes nothing.
use Rattle.lengths_build.proofs.Words.{entries-told}
use Rattle.lengths_build.proofs.entries.Goals as goal

pub returns : goal.returns
returns c =
    let reach = c.reach in
    let count = c.count in
    entries-told c.args.list.bytes.now c.args.m reach.result count.result c.args.list.list c.requires.0 c.requires.1
    reach.ensures count.ensures
