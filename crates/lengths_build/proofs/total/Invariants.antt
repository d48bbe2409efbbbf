-- `lengths_build::total` meets its contract. The loop keeps the entries of the lengths so far, and the default route. Assumes
-- nothing.
use mathlib.Core.Path.{◌≡◌}
use Prim.Native.Nat.{◌+◌, ◌*◌, ◌-◌, ◌≤◌}
use Rattle.lengths.specs.Entries.{entries_to, tally}
use Rattle.listing.specs.Listed.{list_of}
use Rattle.lengths_build.specs.Build.{entries_bound}
use Rattle.lengths_build.proofs.total.Given as goal

abbrev pub invariant-loop-m : goal.invariant-loop-m
invariant-loop-m l = (l.m ≤ 33) × (l.sum ≡ entries_to (l.m - 1) (list_of l.list.bytes.now) + tally 0 (list_of l.list.bytes.now)) × (l.sum ≤ entries_bound * l.m)
