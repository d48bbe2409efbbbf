-- `masks::index::index` gives the byte itself under the mask of all bits, and else goes through the set bits, the lowest first.
-- Assumes nothing.
use native.Mathlib.Omega.{arith}
use Rattle.masks.specs.Steps.{index_whole, stepped_more, stepped_end}
use Rattle.masks.proofs.index.index.Goals as goal

pub returns-then-m-eq-FULL_MASK : goal.returns-then-m-eq-FULL_MASK
returns-then-m-eq-FULL_MASK c = index_whole c.args.m c.args.y c.if-m-eq-FULL_MASK.true c.requires.1

pub loop-left-preserved : goal.loop-left-preserved
loop-left-preserved c =
    let l = c.loop-left in
    rw c.placed-r.ensures.0 (stepped_more c.args.m c.args.y l.left l.r l.p l.invariant (omega arith))

pub returns : goal.returns
returns c =
    let l = c.loop-left in
    stepped_end c.args.m c.args.y l.left l.r l.p l.invariant c.requires.0 (omega arith)
