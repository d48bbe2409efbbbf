-- `shorten::shorten` meets its contract: where the count refuses nothing is written, else the routes and the end. Assumes nothing.
use native.Mathlib.Omega.{arith}
use Rattle.shorten.proofs.Outcomes.{given, ask-put, end_room, short_done}
use Rattle.shorten.proofs.shorten.Goals as goal

pub put_routes-end-requires : goal.put_routes-end-requires
put_routes-end-requires c =
    let k = given c.args.words.now c.args.scratch.now c.args.buffer.now c.in_ok-bytes.bytes c.count.new.scratch
    c.in_ok-bytes.ensures in
    ask-put k c.count.auto.scratch

pub bounds-buffer-end : goal.bounds-buffer-end
bounds-buffer-end c =
    let k = given c.args.words.now c.args.scratch.now c.args.buffer.now c.in_ok-bytes.bytes c.count.new.scratch
    c.in_ok-bytes.ensures in
    omega (arith, end_room k c.put_routes-end.ensures, c.put_routes-end.auto.buffer)

pub returns : goal.returns
returns c =
    let k = given c.args.words.now c.args.scratch.now c.args.buffer.now c.in_ok-bytes.bytes c.count.new.scratch
    c.in_ok-bytes.ensures in
    short_done k c.put_routes-end.ensures
