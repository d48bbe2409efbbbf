-- `listing::Listed::winner` meets its contract: the loop keeps which candidate leads from record j on. Assumes nothing.
use mathlib.Core.Path.{◌≡◌}
use Prim.Native.Nat.{◌-◌, ◌<◌}
use Rattle.candidates.specs.Candidate.{prefix_key}
use Rattle.listing.specs.Listed.{records_in, candidate_at, candidates_from}
use Rattle.listing.specs.Winning.{Leads}
use Rattle.listing.proofs.Listed.winner.Given as goal

abbrev pub invariant-loop-i : goal.invariant-loop-i
invariant-loop-i l =
    (l.i < records_in l.bytes) × (prefix_key (candidate_at l.bytes l.i) ≡ prefix_key (candidate_at l.bytes l.fn.i))
    × Leads (candidates_from l.bytes (records_in l.bytes - l.i) l.i) (prefix_key (candidate_at l.bytes l.fn.i)) l.best l.via × (l.via < 65536)
