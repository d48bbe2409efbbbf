-- What the walking loop ends with, and the reply that it stands for. Assumes nothing.
--
--     best     whole length * 65536 + hop of the last best, 0 for none
--     block    of the address; a number over 128 stands for a refusal, with as much as it is over that
use Rattle.std.specs.Prelude.{◌≡◌, cond, List, ℕ, ◌+◌, ◌-◌, ◌/◌, ltb}
use Rattle.sizes.specs.Sizes.{hop_bound}
use Rattle.routes.specs.Match.{Match, none}
use Rattle.routes.specs.Answers.{Reply, refused, refuse, matched}
use Rattle.lookup.specs.Walk.{deeper, walk}
use Rattle.lookup.specs.declared.End.{End}

-- no address has more than 128 bits
abbrev pub ended : End → Reply
ended e = cond (ltb 128 e.block) (refused (e.block - 128)) (matched (deeper 0 none e.best) e.block)

-- at a cell without a link in an array below `base` bits, with the best b and the block q
abbrev pub ends_in : ℕ → ℕ → ℕ → Match → Reply
ends_in base b q m = refuse 2 (ltb 8 (b / hop_bound)) (refuse 2 (ltb 8 q) (matched (deeper base m b) (base + q)))

-- it is what the walk of an address x of L bytes ends with
abbrev pub Walks : ℕ → List ℕ → ℕ → End → Type 0
Walks L ws x e = ended e ≡ walk L ws x
