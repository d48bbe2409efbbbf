-- `listing::Listed::winner` meets its contract: the loop keeps which candidate leads from record j on. Assumes nothing.
use mathlib.Core.Path.{refl}
use Prim.Native.Nat.{◌+◌, ◌-◌}
use Rattle.candidates.specs.Candidate.{prefix_key}
use Rattle.listing.specs.Listed.{candidate_at}
use Rattle.listing.specs.Winning.{leads_last, leads-take, leads_keep, leads-wins, same_before}
use native.Mathlib.Omega.{arith}
use Rattle.listing.proofs.Listed.winner.Goals as goal

pub loop-i-init : goal.loop-i-init
loop-i-init c =
    let a = c.args in
    let last = c.last-j in
    let e = last.ensures in (
      e.within,
      e.same,
      leads_last a.self.bytes.now c.args.self.list (last.result + 1) last.result refl e.within (prefix_key (candidate_at a.self.bytes.now a.i))
          c.rank-best.result c.hop-via.result e.same e.last c.rank-best.ensures c.hop-via.ensures.0,
      c.hop-via.ensures.1,
    )

pub returns-then-is_last : goal.returns-then-is_last
returns-then-is_last c =
    let a = c.args in
    let l = c.loop-i in
    let last = c.is_last in (
      leads-wins a.self.bytes.now c.args.self.list l.i (prefix_key (candidate_at a.self.bytes.now a.i)) l.best l.via l.invariant.0 l.invariant.1
          (λ _. rw c.if-is_last.true at last.ensures) l.invariant.2,
      l.invariant.3,
    )

pub loop-i-preserved-then-rank-best : goal.loop-i-preserved-then-rank-best
loop-i-preserved-then-rank-best c =
    let a = c.args in
    let l = c.loop-i in
    let last = c.is_last in
    let if1 = c.if-is_last in
    let other = c.rank-rank in
    let e = same_before a.self.bytes.now l.i (prefix_key (candidate_at a.self.bytes.now a.i)) (omega arith) (rw if1.false at last.ensures)
    l.invariant.1 in (
      omega (arith, l.invariant.0),
      e,
      leads-take a.self.bytes.now c.args.self.list l.i (l.i - 1) (omega arith) (omega (arith, l.invariant.0))
          (prefix_key (candidate_at a.self.bytes.now a.i)) l.best l.via e l.invariant.2 other.result other.ensures
          c.hop-via-then-rank-best.result c.hop-via-then-rank-best.ensures.0 c.if-rank-best.true,
      c.hop-via-then-rank-best.ensures.1,
    )

pub loop-i-preserved : goal.loop-i-preserved
loop-i-preserved c =
    let a = c.args in
    let l = c.loop-i in
    let last = c.is_last in
    let if1 = c.if-is_last in
    let other = c.rank-rank in
    let e = same_before a.self.bytes.now l.i (prefix_key (candidate_at a.self.bytes.now a.i)) (omega arith) (rw if1.false at last.ensures)
    l.invariant.1 in (
      omega (arith, l.invariant.0),
      e,
      leads_keep a.self.bytes.now c.args.self.list l.i (l.i - 1) (omega arith) (omega (arith, l.invariant.0))
          (prefix_key (candidate_at a.self.bytes.now a.i)) l.best l.via e l.invariant.2 other.result other.ensures c.if-rank-best.false,
      l.invariant.3,
    )
