-- Halved, tried in order, settled. Assumes nothing.
use Rattle.damping.specs.Tick.{tick_begin, tick_settles, ticked}
use Rattle.damping.proofs.tick.tick_with.Goals as goal

pub try_rows-requires : goal.try_rows-requires
try_rows-requires c =
    let n = c.count-n in
    let h = c.halve in
    tick_begin c.args.front.now h.new.words c.args.words.now c.args.words.now c.args.words.now c.requires.0
    n.result n.ensures.0 h.ensures n.ensures.1 c.args.known c.requires.1

pub settle-requires : goal.settle-requires
settle-requires c =
    let n = c.count-n in
    let r = c.try_rows in
    tick_settles c.args.front.now c.halve.new.words c.args.words.now r.new.front r.new.words c.requires.0
    n.result n.ensures.0 c.halve.ensures r.ensures

pub returns : goal.returns
returns c =
    let n = c.count-n in
    let r = c.try_rows in
    ticked c.args.front.now c.halve.new.words c.args.words.now r.new.front r.new.words c.requires.0
    n.result n.ensures.0 c.halve.ensures r.ensures c.settle.new.words c.settle.ensures
