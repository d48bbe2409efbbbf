-- `masks::sieve::products` takes all pairs. Assumes nothing.
use Rattle.std.proofs.Common.{◌≡◌, arith}
use Rattle.masks.specs.Mask.{free_b}
use Rattle.masks.proofs.Pairs.{held_some, held_none, all_to, all_start, all_skip, all_take, sift_none}
use Rattle.masks.proofs.sieve.products.Goals as goal
use Rattle.masks.proofs.sieve.products.Goals.{then-held-slot-ne0, else-held-slot-ne0}

pub loop-slot-init : goal.loop-slot-init
loop-slot-init c =
    let a = c.args in
    sift_none a.xs.now 0 (all_to a.held.now 1) (omega arith) (all_start a.held.now)

pub loop-slot-preserved : goal.loop-slot-preserved
loop-slot-preserved c =
    let l = c.loop-slot in
    let a = c.args in
    let fs = a.held.now in
    elim c.if-held-slot-ne0.branch [
      | then-held-slot-ne0 w ↦ rw (w.xs-is, w.y-is) (all_take fs a.xs.now l.xs l.y l.slot l.invariant _ _
          (held_some fs l.slot (omega arith) w.if-held-slot-ne0.true) w.against-y.ensures)
      | else-held-slot-ne0 w ↦ rw (w.xs-is, w.y-is) (all_skip fs a.xs.now l.xs l.y l.slot l.invariant
          (held_none fs l.slot (omega arith) w.if-held-slot-ne0.false))
    ]

pub returns : goal.returns
unfolding free_b
returns c = let e : c.loop-slot.slot ≡ 512 = omega arith in rw e at c.loop-slot.invariant
