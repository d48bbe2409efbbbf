-- `masks::index::spread` puts the bits of an index at the places of the mask, lowest first. Assumes nothing.
use Rattle.std.proofs.Common.{◌≡◌, ◌≤◌, ◌<◌, ℕ, ◌+◌, ◌-◌, ◌*◌, ◌%◌, ◌^◌, arith, add-one, pow_mono}
use Rattle.std.proofs.Math.Nat.{pow-succ'}
use Rattle.logic.specs.Cases.{same}
use Rattle.masks.specs.Index.{scatter}
use Rattle.masks.specs.Spread.{spread_step, spread_small, spread_end}
use Rattle.masks.proofs.index.spread.Goals as goal

-- a bit moved to its place
moved : (k d : ℕ) → k < 8 → d < 2 → (d * 2 ^ k % 4294967296 ≡ 2 ^ k * d) × (2 ^ k * d ≤ 128)
moved k d h l =
    let p = pow_mono {i = k} {j = 7} (omega arith) in
    same d 0 (λ e _. rw e (omega arith, omega arith)) (λ n _. let e : d ≡ 1 = omega arith in rw e (omega arith, omega arith))

pub overflow_add-r : goal.overflow_add-r
overflow_add-r c =
    let l = c.loop-k in
    let small = spread_small (8 - l.k) l.m l.v l.r (2 ^ l.k) c.args.mask c.args.index l.invariant in
    omega (arith, moved l.k c.low.result (omega arith) c.low.ensures.1)

pub loop-k-preserved : goal.loop-k-preserved
loop-k-preserved c =
    let l = c.loop-k in
    let step = spread_step (8 - l.k) l.m l.v l.r (2 ^ l.k) (scatter 8 c.args.mask c.args.index) (omega arith) l.invariant in
    let e : 8 - (l.k + 1) ≡ 8 - l.k - 1 = omega arith in
    let p : 2 ^ (l.k + 1) ≡ 2 ^ l.k * 2 = rw (add-one l.k) (omega (arith, pow-succ' 2 l.k)) in
    rw ((moved l.k c.low.result (omega arith) c.low.ensures.1).0, e, p, c.low.ensures.0, c.left-v.ensures) step

pub returns : goal.returns
returns c =
    let l = c.loop-k in
    spread_end (8 - l.k) l.m l.v l.r (2 ^ l.k) c.args.mask c.args.index (omega arith) l.invariant
