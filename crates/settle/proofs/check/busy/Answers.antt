-- `settle::check::busy` meets its contract: the slots of the levels that the loop passed, from the cells up, have their marks in
-- the list. Assumes nothing.
use Rattle.std.proofs.Common.{◌≡◌, suc, ◌-◌, ◌*◌, ◌^◌, ap, ◌∙◌, arith, pow_mono, pow_pos}
use Rattle.std.proofs.Math.Nat.{pow-succ'}
use Rattle.settle.specs.Busy.{lifted_busy}
use Rattle.settle.proofs.check.busy.Goals as goal

pub loop-d-preserved : goal.loop-d-preserved
loop-d-preserved c =
    let l = c.loop-d in
    let a = c.args in
    let k : l.d ≡ suc (l.d - 1) = omega arith in
    let e : 2 ^ l.d ≡ 2 * 2 ^ (l.d - 1) = ap (λ n. 2 ^ n) k ∙ pow-succ' 2 (l.d - 1) in
    let m = pow_mono {i = l.d - 1} {j = 7} (omega arith) in
    lifted_busy a.page.now a.won.now l.all _ (2 ^ (l.d - 1)) (pow_pos (l.d - 1)) m c.requires c.lift.ensures (rw e at l.invariant)
