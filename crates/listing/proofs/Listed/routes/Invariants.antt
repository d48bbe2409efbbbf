-- `listing::Listed::routes` meets its contract: the loop keeps the routes of the records from i on. Assumes nothing.
use mathlib.Core.Path.{◌≡◌}
use Prim.Native.Nat.{◌+◌, ◌-◌, ◌≤◌}
use lib.ListN.{length}
use Rattle.candidates.specs.Winners.{winners}
use Rattle.listing.specs.Listed.{records_in, candidates_from}
use Rattle.listing.proofs.Listed.routes.Given as goal

abbrev pub invariant-loop-i : goal.invariant-loop-i
invariant-loop-i l = (l.seen + l.i ≤ records_in l.bytes) × (l.seen ≡ length (winners (candidates_from l.bytes (records_in l.bytes - l.i) l.i)))
