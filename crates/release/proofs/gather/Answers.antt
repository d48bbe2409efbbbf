-- The loop keeps that the rows passed are gathered, and the others are as they were. Assumes nothing.
use Rattle.release.specs.Settle.{gather_none, gather_more}
use Rattle.std.proofs.Common.{arith}
use Rattle.release.proofs.gather.Goals as goal

pub loop-i-init : goal.loop-i-init
loop-i-init c = gather_none c.args.words.now c.requires.0

pub loop-i-preserved : goal.loop-i-preserved
loop-i-preserved c =
    let s = c.loop-i in
    let p = c.place_row-j in
    gather_more c.args.words.now s.words p.new.words s.i s.j p.result (omega arith) s.invariant p.ensures
