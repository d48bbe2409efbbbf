-- What a walk can answer, on any words of a right size: a length and a block are at most the bits of the address. Assumes
-- nothing.
use Rattle.std.specs.Prelude.{List, ℕ, ◌*◌}
use Rattle.std.proofs.Common.{arith}
use Rattle.routes.specs.Match.{none}
use Rattle.lookup.specs.Walk.{walk}
use Rattle.lookup.specs.Ranges.{Within, from_within}

pub walk_within : (L : ℕ) (ws : List ℕ) (x : ℕ) → Within (8 * L) (walk L ws x)
walk_within L ws x = from_within L ws x L 1 none (omega arith) tt
