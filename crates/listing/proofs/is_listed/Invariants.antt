-- `listing::is_listed` meets its contract. The loop keeps that every record passed is one. Assumes nothing.
use mathlib.Core.Path.{◌≡◌}
use mathlib.Core.Bool.{true}
use Prim.Native.Nat.{◌≤◌}
use Rattle.logic.specs.Every.{all_b}
use Rattle.listing.specs.Listed.{records_in, record_b}
use Rattle.listing.proofs.is_listed.Given as goal

abbrev pub invariant-loop-i : goal.invariant-loop-i
invariant-loop-i l = (l.i ≤ records_in l.bytes) × (all_b (record_b l.bytes) l.i ≡ true)
