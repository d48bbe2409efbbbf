-- `lengths::probe_on` meets its contract. The loop keeps that what is left of the probe is the whole of it. Assumes nothing.
use mathlib.Core.Path.{◌≡◌}
use Prim.Native.Nat.{◌-◌, ◌≤◌}
use Rattle.lengths.specs.Layout.{places_of, probe}
use Rattle.lengths.proofs.probe_on.Given as goal

abbrev pub invariant-loop-e : goal.invariant-loop-e
invariant-loop-e l = (l.e ≤ l.p)
    × (probe (places_of l.words l.m l.o l.p) l.p l.v (l.p - l.e) l.e ≡ probe (places_of l.words l.m l.o l.p) l.p l.v (l.p - l.d) l.d)
