-- The loop keeps that the rows before i are tried. Assumes nothing.
use Rattle.std.proofs.Common.{arith}
use Rattle.damping.specs.Tick.{trying_begin, trying_row, trying_more}
use Rattle.damping.proofs.tick.try_rows.Goals as goal

pub try_row-requires : goal.try_row-requires
try_row-requires c =
    let s = c.loop-i in
    trying_row c.args.front.now c.args.words.now s.front s.words s.i (omega (arith, c.requires.few)) s.invariant
    c.args.n c.args.known c.requires

pub loop-i-init : goal.loop-i-init
loop-i-init c = trying_begin _ _ c.requires.size

pub loop-i-preserved : goal.loop-i-preserved
loop-i-preserved c =
    let s = c.loop-i in
    let r = c.try_row in
    trying_more c.args.front.now c.args.words.now s.front s.words s.i (omega (arith, c.requires.few)) s.invariant
    r.new.front r.new.words r.ensures
