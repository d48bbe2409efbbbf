-- `lengths_build::shorter` meets its contract. The loop keeps that what is left says what the whole says. Assumes nothing.
use mathlib.Core.Path.{◌≡◌}
use Prim.Native.Nat.{◌-◌, ◌≤◌}
use Rattle.lengths_build.specs.Filling.{below}
use Rattle.lengths_build.proofs.shorter.Given as goal

abbrev pub invariant-loop-l : goal.invariant-loop-l
invariant-loop-l l = (1 ≤ l.l) × (l.l ≤ l.m) × (below l.words l.m l.v (l.l - 1) ≡ below l.words l.m l.v (l.m - 1))
