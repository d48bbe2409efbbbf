-- What a record of the code says. Assumes nothing.
use Rattle.candidates.specs.Candidate.{Candidate}
use Rattle.listing.specs.Listed.{candidate_at}
use Rattle.listing.specs.declared.Record.{Record}

-- its candidate
abbrev pub said : Record → Candidate
said r = candidate_at r.bytes.now r.i
