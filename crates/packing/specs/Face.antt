-- What the numbers of the calls say, and what the build promises of the lent words. Assumes nothing.
use Rattle.std.specs.Prelude.{◌≡◌, List, ℕ, length}
use Rattle.routes.specs.Seen.{Answer, gives, refuses}
use Rattle.words.specs.Words.{arrays_of, array_count}
use Rattle.words.specs.Table.{seen}
use Rattle.packed.specs.Laid.{Laid}
use Rattle.packed_build.specs.Answer.{Counts, build_on, LeavesOn}
use Rattle.packing.specs.declared.Built.{Built}

abbrev pub built : Answer Counts → Built
built (gives c) = record { refusal = 0; arrays = c.arrays; words = c.words }
built (refuses n) = record { refusal = n; arrays = 0; words = 0 }

-- from the table's words ts, into the words ws
pub record HasBuilt (ts ws us : List ℕ) (r : Built) : Type 0 where
  pub answer : r ≡ built (build_on (seen 4 ts) (length ws))
  pub left : LeavesOn (seen 4 ts) ws us
  -- the arrays, each by its mask: of those without collision the one of fewest set bits, then of the lowest number
  pub laid : (c : Counts) → build_on (seen 4 ts) (length ws) ≡ gives c → Laid (arrays_of ts) (array_count ts) us
  pub kept : (n : ℕ) → build_on (seen 4 ts) (length ws) ≡ refuses n → us ≡ ws
