-- Words that are 0, some from a place on. Assumes nothing.
use Rattle.std.specs.Prelude.{Bool, List, ℕ, ◌+◌, eqb, get_or}

-- word `from + k` is 0
abbrev pub zero_at : List ℕ → ℕ → ℕ → Bool
zero_at ws from k = eqb (get_or ws (from + k) 0) 0
