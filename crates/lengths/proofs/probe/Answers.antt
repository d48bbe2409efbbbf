-- `lengths::probe` meets its contract: no entries, or the probe from its first place on. Assumes nothing.
use Prim.Native.Nat.{◌*◌}
use Rattle.lengths.specs.Layout.{places_of}
use Rattle.lengths.proofs.Probing.{find_none}
use native.Mathlib.Omega.{arith}
use Rattle.lengths.proofs.probe.Goals as goal

pub returns-then-size-eq0 : goal.returns-then-size-eq0
returns-then-size-eq0 c =
    let a = c.args in
    let T = places_of a.words.now a.m a.o (4 * a.size) in
    record { told = find_none T (4 * a.size) a.v (omega arith); inside = tt }
