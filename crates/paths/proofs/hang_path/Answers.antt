-- `paths::hang_path` meets its contract. A turn hangs the next of the free arrays below the last. Assumes nothing.
use mathlib.Core.Path.{refl}
use Prim.Native.Nat.{◌-◌, ◌<◌}
use native.Mathlib.Omega.{arith}
use Rattle.words.specs.Rises.{rises_inside}
use Rattle.paths.specs.Hung.{hanging_first, hanging_gains, hanging_more, hanging_done}
use Rattle.paths.proofs.hang_path.Goals as goal

pub loop-i-init : goal.loop-i-init
loop-i-init c =
    (omega (arith, rises_inside _ _ _ c.requires.rises, c.requires.most), hanging_first c.requires)

pub gain-requires : goal.gain-requires
gain-requires c =
    let a = c.args in
    let q = c.requires in
    let g = c.loop-i.invariant.1 in
    hanging_gains q g (omega arith) c.byte_at-y.result _ c.byte_at-y.ensures.0 refl

pub loop-i-preserved : goal.loop-i-preserved
loop-i-preserved c =
    let a = c.args in
    let q = c.requires in
    let g = c.loop-i.invariant.1 in
    let n = c.loop-i.i - a.s.level in
    let p : n < a.k - a.s.level = omega (arith, g.low) in (
      omega (arith, (q.fresh n p).within, q.most),
      hanging_more q g (omega arith) c.byte_at-y.result _ c.byte_at-y.ensures.0 refl c.gain.new.words c.gain.ensures,
    )

pub returns : goal.returns
returns c =
    let g = c.loop-i.invariant.1 in
    (hanging_done c.requires g (omega (arith, g.high)), c.loop-i.invariant.0)
