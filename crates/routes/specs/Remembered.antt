-- Worked cases of the block, and two routes of one hop: rows decided by computation. Assumes nothing.
use Rattle.std.specs.Prelude.{◌≡◌, refl, List, [], ◌∷◌, ℕ}
use Rattle.std.specs.Int.Count.{count_leading_zeros}
use Rattle.routes.specs.Route.{Route, route}
use Rattle.routes.specs.Block.{first, gets, block}

abbrev blocks : List Route → List ℕ → List ℕ
blocks rs [] = []
blocks rs (a ∷ xs) = block 32 rs a ∷ blocks rs xs

empty : blocks [] (0 ∷ 0xFFFFFFFF ∷ []) ≡ (0 ∷ 0 ∷ [])
unfolding count_leading_zeros
empty = refl

default : blocks (route 0 0 1 ∷ []) (0x01020304 ∷ []) ≡ (0 ∷ [])
unfolding count_leading_zeros
default = refl

boxes : blocks (route 0x0A000000 8 1 ∷ route 0x0A010400 22 2 ∷ [])
    (0x0A010509 ∷ 0x0A010001 ∷ 0x0A010800 ∷ 0x0A020000 ∷ 0x0A800000 ∷ 0x0B000000 ∷ [])
    ≡ (22 ∷ 22 ∷ 21 ∷ 15 ∷ 9 ∷ 8 ∷ [])
unfolding count_leading_zeros
boxes = refl

host : blocks (route 0x0A000000 32 1 ∷ []) (0x0A000000 ∷ 0x0A000001 ∷ []) ≡ (32 ∷ 32 ∷ [])
unfolding count_leading_zeros
host = refl

-- one hop, two routes: no answer may be remembered for both
halves : blocks (route 0 1 7 ∷ route 0x80000000 1 7 ∷ []) (5 ∷ 0xFFFFFFFF ∷ []) ≡ (1 ∷ 1 ∷ [])
unfolding count_leading_zeros
halves = refl

apart : gets 32 (route 0 1 7 ∷ route 0x80000000 1 7 ∷ []) 5 ≡ first 0 1
apart = refl

apart_above : gets 32 (route 0 1 7 ∷ route 0x80000000 1 7 ∷ []) 0xFFFFFFFF ≡ first 1 1
apart_above = refl
