-- `listing::Record::last` meets its contract: the loop keeps that record i is of the same prefix. Assumes nothing.
use mathlib.Core.Path.{◌≡◌}
use Prim.Native.Nat.{◌<◌}
use Rattle.candidates.specs.Candidate.{prefix_key}
use Rattle.listing.specs.Listed.{records_in, candidate_at}
use Rattle.listing.proofs.Record.last.Given as goal

abbrev pub invariant-loop-i : goal.invariant-loop-i
invariant-loop-i l = (l.i < records_in l.bytes) × (prefix_key (candidate_at l.bytes l.i) ≡ prefix_key (candidate_at l.bytes l.self.i))
