-- A candidate that is held back has a place. Assumes nothing.
use Rattle.std.proofs.Common.{arith}
use Rattle.charge.specs.Steps.{keep_here}
use Rattle.charge.proofs.keep.Goals as goal

pub returns-in-Some : goal.returns-in-Some
returns-in-Some c =
    let a = c.args.candidate in
    let row = c.in-Some.row in
    keep_here c.args.words.now c.store.new.words a.address a.length c.args.hop a.feed c.args.preference c.args.spot.at
    row.mark row.kept (rw c.in-Some.is at c.requires) (omega arith) (rw c.row.ensures at c.store.ensures)
