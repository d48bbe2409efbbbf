-- The loop keeps how many of the rows before i are held back. Assumes nothing.
use Rattle.std.proofs.Common.{◌+◌, ◌%◌, sym, subst, arith}
use Rattle.rows.specs.Row.{Row}
use Rattle.damping.specs.Held.{Counting, counting_none, counting_more, counting_end}
use Rattle.damping.proofs.held.held_in.Goals as goal

pub loop-i-init : goal.loop-i-init
loop-i-init c = counting_none c.args.front.now c.count-n.result c.count-n.ensures.0

pub loop-i-preserved : goal.loop-i-preserved
loop-i-preserved c =
    let fs = c.args.front.now in
    let s = c.loop-i in
    let n = c.count-n.result in
    let P : Row → Type 0 = λ r. Counting fs n (s.i + 1) (s.back + r.x % 2) in
    subst P (sym c.row_at.ensures) (counting_more fs n s.i s.back (omega arith) s.invariant)

pub returns : goal.returns
returns c =
    let s = c.loop-i in
    counting_end c.args.front.now _ s.i s.back (omega arith) c.count-n.ensures.0 s.invariant
