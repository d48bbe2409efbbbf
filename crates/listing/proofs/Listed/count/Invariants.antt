-- `listing::Listed::count` meets its contract. The loop keeps the count over the records from i on, and the address met last. Assumes
-- nothing.
use Prim.Native.Nat.{◌-◌, ◌≤◌}
use Rattle.candidates.specs.Winners.{prefixes}
use Rattle.listing.specs.Listed.{records_in, candidates_from}
use Rattle.listing.specs.Heads.{between}
use Rattle.listing.proofs.Counting.{Counts}
use Rattle.listing.proofs.Listed.count.Given as goal

abbrev pub invariant-loop-i : goal.invariant-loop-i
invariant-loop-i l =
    (l.i ≤ records_in l.bytes) × Counts (between l.from l.to) l.m (prefixes (candidates_from l.bytes (records_in l.bytes - l.i) l.i)) l.seen l.last
