-- What the contracts leave open: nothing of an answer, and of the words only how a list is laid out. Two outcomes that a contract
-- allows agree, and words that agree with those built up to the need answer as the list does. Assumes nothing.
use Rattle.std.specs.Prelude.{◌≡◌, List, ℕ}
use Rattle.routes.specs.Route.{Route}
use Rattle.lengths.specs.Marks.{words_for}
use Rattle.listing.specs.Listed.{listed, listed_in}
use Rattle.listing.specs.Records.{Bytes}
use Rattle.listing.proofs.Written.{listed_out}
use Rattle.lengths_build.specs.Build.{LeavesOn}
use Rattle.lengths_build.specs.Sharp.{Alike, leaves_alike}

-- on a list, two outcomes of a build are alike
pub words_sharp : (bs ws us vs : List ℕ) (rs : List Route) → Bytes bs → listed_in bs ≡ listed rs → LeavesOn (listed_in bs) ws us
    → LeavesOn (listed_in bs) ws vs → Alike (words_for rs) us vs
words_sharp bs ws us vs rs b e p q = leaves_alike rs ws us vs (listed_out bs b rs e).list (rw e at p) (rw e at q)
