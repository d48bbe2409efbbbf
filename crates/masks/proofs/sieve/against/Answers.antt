-- `masks::sieve::against` takes the pairs of one prefix with those before it. Assumes nothing.
use Rattle.std.proofs.Common.{arith}
use Rattle.masks.proofs.Pairs.{held_some, held_none, row_to, row-start, row_skip, row-take, sift_none}
use Rattle.masks.proofs.sieve.against.Goals as goal
use Rattle.masks.proofs.sieve.against.Goals.{then-held-slot-ne0, else-held-slot-ne0}

pub loop-slot-init : goal.loop-slot-init
loop-slot-init c =
    let a = c.args in
    sift_none a.xs.now a.from (row_to a.held.now a.s.slot 1) (omega arith) (row-start a.held.now a.s.slot)

pub loop-slot-preserved : goal.loop-slot-preserved
loop-slot-preserved c =
    let l = c.loop-slot in
    let a = c.args in
    let fs = a.held.now in
    elim c.if-held-slot-ne0.branch [
      | then-held-slot-ne0 w ↦ rw (w.xs-is, w.y-is) (row-take fs a.xs.now l.xs a.from l.y a.s.slot l.slot l.invariant _ _
          (held_some fs l.slot (omega arith) w.if-held-slot-ne0.true) w.mark-y.ensures)
      | else-held-slot-ne0 w ↦ rw (w.xs-is, w.y-is) (row_skip fs a.xs.now l.xs a.from l.y a.s.slot l.slot l.invariant
          (held_none fs l.slot (omega arith) w.if-held-slot-ne0.false))
    ]
