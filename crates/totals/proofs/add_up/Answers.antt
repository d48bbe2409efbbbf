-- `totals::add_up` meets its contract. The loop's invariant: what is left to add is the whole. The measure is the slot. Assumes
-- nothing.
use Rattle.std.proofs.Common.{arith, rules}
use Rattle.totals.specs.Up.{left_all, left_more, left_none}
use Rattle.totals.proofs.add_up.Goals as goal

pub loop-s-init : goal.loop-s-init
loop-s-init c =
    let a = c.args in
    let p = c.requires in
    (p.1, left_all a.page.now a.slot a.by p.1 p.0)

pub loop-s-preserved : goal.loop-s-preserved
loop-s-preserved c =
    let l = c.loop-s in
    let a = c.args in (
      omega arith,
      left_more a.page.now a.slot a.by l.page l.s _
          c.loop-s-test.true (search rules) l.invariant.1,
    )

pub returns : goal.returns
returns c =
    let l = c.loop-s in
    let a = c.args in
    left_none a.page.now a.slot a.by l.page l.s c.loop-s-test.false l.invariant.1
