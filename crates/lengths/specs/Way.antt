-- The way of the search by lengths. It looks at length 16, then moves by 8, 4, 2, 1: longer after a hit, shorter after a miss;
-- a hit at 31 tries 32. A hit carries the best match so far, so nothing is searched twice. Assumes nothing.
--
--                     16
--            8                  24            a node of height n at length m stands for the lengths between
--        4       12        20        28       m - 2 ^ n and m + 2 ^ n, both left out
--      2   6   10  14    18  22    26  30
--     1 3 5 7 9 .. 15   17 ..    25 .. 29 31 ─ 32
use Rattle.std.specs.Prelude.{Bool, cond, List, [], ◌∷◌, ℕ, zero, suc, ◌+◌, ◌-◌, ◌*◌, ◌^◌, ltb, eqb}
use Rattle.routes.specs.Match.{Match, none, found, last}
use Rattle.routes.specs.Room.{mem}

-- what a look at one length gives: no entry; an entry with its best match; a number outside its range
pub data Look : Type 0 where
  miss : Look
  hit : (best : ℕ) → Look
  outside : Look

abbrev pub after : Look → Look → (ℕ → Look) → Look
after miss x f = x
after (hit b) x f = f b
after outside x f = outside

-- ---- the search, from length m at height n, with the best match of shorter lengths

unfoldable pub search : (ℕ → Look) → ℕ → ℕ → ℕ → Look
search look zero m best = after (look m) (hit best) (λ b. cond (eqb m 31) (after (look 32) (hit b) (λ c. hit c)) (hit b))
search look (suc n) m best = after (look m) (search look n (m - 2 ^ n) best) (λ b. search look n (m + 2 ^ n) b)

-- ---- the way to a length

-- the lengths, from m at height n, where the way to L turns longer
unfoldable pub turns : ℕ → ℕ → ℕ → List ℕ
turns zero m L = cond (ltb m L) (m ∷ []) []
turns (suc n) m L = cond (ltb m L) (m ∷ turns n (m + 2 ^ n) L) (cond (ltb L m) (turns n (m - 2 ^ n) L) [])

-- the way to L turns longer at m
abbrev pub turns_at : ℕ → ℕ → Bool
turns_at m L = mem m (turns 4 16 L)

-- ---- a match as one number: 0 for none, else hop * 256 + length

abbrev pub code : Match → ℕ
code none = 0
code (found h l) = h * 256 + l

-- the best match of the lengths 0 to m, where g l is the hop held at length l
abbrev pub best : (ℕ → ℕ) → ℕ → ℕ
best g m = code (last g m)
