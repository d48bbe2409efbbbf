-- `lengths_build::shorter` meets its contract. The loop keeps that what is left says what the whole says. Assumes nothing.
use mathlib.Core.Path.{◌∙◌}
use Prim.Native.Nat.{◌-◌}
use Rattle.lengths_build.proofs.Entry.{saw, below_hit, below_other, below_end}
use native.Mathlib.Omega.{arith}
use Rattle.lengths_build.proofs.shorter.Goals as goal

pub returns-in-Hit : goal.returns-in-Hit
returns-in-Hit c =
    let a = c.args in
    let l = c.loop-l in
    let look_at = c.look_at in
    let x = saw a.words.now look_at.result _ look_at.ensures _ c.in-Hit.is in
    below_hit a.words.now a.m a.v (l.l - 1) _ (omega arith) x ∙ l.invariant.2

pub loop-l-preserved : goal.loop-l-preserved
loop-l-preserved c =
    let a = c.args in
    let l = c.loop-l in
    let k = c.look_at in (
      omega arith,
      omega (arith, l.invariant.1),
      below_other a.words.now a.m a.v (l.l - 1) k.result (omega arith) k.ensures c.in_default.not-Hit ∙ l.invariant.2,
    )

pub returns : goal.returns
returns c =
    let a = c.args in
    let l = c.loop-l in
    below_end a.words.now a.m a.v (l.l - 1) (omega arith) ∙ l.invariant.2
