-- What the C face's numbers say of the copy, and what its build promises of the lent words. Assumes nothing.
use Rattle.std.specs.Prelude.{◌≡◌, List, ℕ, length}
use Rattle.routes.specs.Seen.{Answer, gives, refuses}
use Rattle.lengths_build.specs.Answer.{Counts, build_on}
use Rattle.listing.specs.Listed.{listed_in}
use Rattle.lengths_build.specs.Build.{LeavesOn}
use Rattle.toggleash.specs.declared.copies.Built.{Built}

abbrev pub built : Answer Counts → Built
built (gives c) = record { refusal = 0; routes = c.routes; markers = c.markers }
built (refuses n) = record { refusal = n; routes = 0; markers = 0 }

pub record HasBuilt (bytes ws vs : List ℕ) (r : Built) : Type 0 where
  pub answer : r ≡ built (build_on (listed_in bytes) (length ws))
  pub left : LeavesOn (listed_in bytes) ws vs
  pub kept : (n : ℕ) → build_on (listed_in bytes) (length ws) ≡ refuses n → vs ≡ ws
