-- `listing::Listed::routes` meets its contract: the loop keeps the routes of the records from i on. Assumes nothing.
use mathlib.Core.Path.{sym, ◌∙◌}
use Prim.Native.Nat.{◌-◌}
use Rattle.listing.specs.Winning.{routes_none, routes_more, routes_same}
use native.Mathlib.Omega.{arith}
use Rattle.listing.proofs.Listed.routes.Goals as goal

pub loop-i-init : goal.loop-i-init
loop-i-init c = (omega (arith, c.records-i.ensures.0), rw c.records-i.ensures.0 (sym (routes_none c.args.self.bytes.now)))

pub loop-i-preserved-then-is_last : goal.loop-i-preserved-then-is_last
loop-i-preserved-then-is_last c =
    let l = c.loop-i in
    let last = c.is_last in (
      omega (arith, l.invariant.0),
      rw l.invariant.1 (sym (routes_more c.args.self.bytes.now c.args.self.list l.i (l.i - 1) (omega arith) (omega (arith, l.invariant.0))
          (rw c.if-is_last.true at last.ensures))),
    )

pub loop-i-preserved : goal.loop-i-preserved
loop-i-preserved c =
    let l = c.loop-i in
    let last = c.is_last in (
      omega (arith, l.invariant.0),
      l.invariant.1 ∙ sym (routes_same c.args.self.bytes.now c.args.self.list l.i (l.i - 1) (omega arith) (omega (arith, l.invariant.0))
          (rw c.if-is_last.false at last.ensures)),
    )
