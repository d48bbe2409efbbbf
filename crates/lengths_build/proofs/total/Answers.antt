-- `lengths_build::total` meets its contract. The loop keeps the entries of the lengths so far, and the default route. Assumes
-- nothing.
use Rattle.rivals.specs.Won.{winners_list}
use Rattle.listing.specs.Listed.{candidates_in, list_of}
use Rattle.lengths_build.proofs.Words.{total_none, total_more, total_all}
use mathlib.Core.Path.{◌≡◌}
use Prim.Native.Nat.{◌+◌, ◌-◌}
use native.Mathlib.Omega.{arith}
use Rattle.lengths_build.proofs.total.Goals as goal

pub loop-m-init : goal.loop-m-init
loop-m-init c =
    let a = c.args in
    let d = c.defaults-sum in
    (omega arith, total_none (list_of a.list.bytes.now) d.result d.ensures.0, omega (arith, d.ensures.1))

pub loop-m-preserved : goal.loop-m-preserved
loop-m-preserved c =
    let a = c.args in
    let l = c.loop-m in
    let e : l.m - 1 + 1 ≡ l.m = omega arith in
    let z : l.m + 1 - 1 ≡ l.m = omega arith in (
      omega arith,
      rw (z, ← e) (total_more (list_of a.list.bytes.now) (l.m - 1) l.sum c.entries-sum.result l.invariant.1 (rw e c.entries-sum.ensures.0)),
      omega (arith, c.entries-sum.ensures.1, l.invariant.2),
    )

pub returns : goal.returns
returns c =
    let a = c.args in
    let p = a.list.list in
    let l = c.loop-m in
    let w = winners_list 32 (candidates_in a.list.bytes.now) p in
    (total_all (list_of a.list.bytes.now) (l.m - 1) l.sum w (omega arith) (omega arith) l.invariant.1, omega arith)
