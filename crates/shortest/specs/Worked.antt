-- Document 02's worked cases of item 12: what is answered for a table of 3 arrays, 12,288 words, and what is written. Rows under
-- one statement, which is proved in proofs/. Assumes nothing.
use Rattle.std.specs.Prelude.{◌≡◌, List, [], ◌∷◌, ℕ, ltb}
use Rattle.routes.specs.Route.{Route, route}
use Rattle.routes.specs.Seen.{Answer, gives, refuses}
use Rattle.routes.specs.Small.{ip}
use Rattle.candidates.specs.Candidate.{Candidate, candidate}
use Rattle.candidates.specs.Seen.{Seen, misfit, foreign, table}
use Rattle.shortest.specs.Seen.{short_on, left_in}

-- ---- the rows

-- words seen so, with a scratch of so many words and a buffer of `room` bytes, are answered so, and so is written out. The number
-- is the case's in item 12, 0 for a further one
pub record Case : Type 0 where
  pub number : ℕ
  pub words : Seen
  pub scratch : ℕ
  pub room : ℕ
  pub answer : Answer (List Route)
  pub out : List ℕ

-- what is claimed of a row
pub record Holds (c : Case) : Type 0 where
  pub answers : short_on c.words (ltb c.scratch 12288) c.room ≡ c.answer
  pub writes : left_in c.answer [] ≡ c.out

abbrev pub AllHold : List Case → Type 0
AllHold [] = Unit {0}
AllHold (c ∷ cs) = Holds c × AllHold cs

abbrev pub numbers_of : List Case → List ℕ
numbers_of [] = []
numbers_of (c ∷ cs) = c.number ∷ numbers_of cs

abbrev pub row : ℕ → Seen → ℕ → ℕ → Answer (List Route) → List ℕ → Case
row n s m b r o = record { number = n; words = s; scratch = m; room = b; answer = r; out = o }

abbrev via : ℕ → ℕ → ℕ → Candidate
via a l h = candidate a l 1 0 h

abbrev of : List Candidate → Seen
of cs = table 3 cs

-- 12.1 one route stays; 12.3 the default that nobody gets
abbrev one : List Candidate
one = via 0 0 7 ∷ []

abbrev unused : List Candidate
unused = via 0 0 1 ∷ via 0 1 2 ∷ via (ip 128 0 0 0) 1 2 ∷ []

-- 12.5 two pairs alike
abbrev pairs : List Candidate
pairs = via 0 0 1 ∷ via 0 2 2 ∷ via (ip 64 0 0 0) 2 3 ∷ via (ip 128 0 0 0) 2 2 ∷ via (ip 192 0 0 0) 2 3 ∷ []

-- 12.7 three quarters alike
abbrev quarters : List Candidate
quarters =
    via 0 0 9 ∷ via (ip 10 0 0 0) 10 1 ∷ via (ip 10 64 0 0) 10 2 ∷ via (ip 10 128 0 0) 10 2 ∷ via (ip 10 192 0 0) 10 2 ∷ []

-- 12.9 refusals, the first that applies
abbrev hidden : List Candidate
hidden = via 0 0 1 ∷ via (ip 10 0 0 0) 8 33 ∷ via (ip 10 0 0 0) 9 1 ∷ via (ip 10 128 0 0) 9 1 ∷ []

-- a losing candidate's hop does not matter
abbrev loser : List Candidate
loser = candidate 0 0 1 5 33 ∷ candidate 0 0 2 0 7 ∷ []

abbrev pub rows : List Case
rows =
    row 1 (of one) 12288 9 (gives (route 0 0 7 ∷ [])) (0x01 ∷ 0 ∷ 0 ∷ 0 ∷ 0 ∷ 0 ∷ 0 ∷ 7 ∷ 0 ∷ [])
    ∷ row 1 (of one) 12288 8 (refuses 9) []
    ∷ row 3 (of unused) 12288 9 (gives (route 0 0 2 ∷ [])) (0x01 ∷ 0 ∷ 0 ∷ 0 ∷ 0 ∷ 0 ∷ 0 ∷ 2 ∷ 0 ∷ [])
    ∷ row 3 (of unused) 12288 8 (refuses 9) []
    ∷ row 5 (of pairs) 12288 25 (gives (route 0 0 2 ∷ route (ip 64 0 0 0) 2 3 ∷ route (ip 192 0 0 0) 2 3 ∷ []))
    (
    0x01 ∷ 0 ∷ 0 ∷ 0 ∷ 0 ∷ 0 ∷ 0 ∷ 2
    ∷ 0x01 ∷ 0x40 ∷ 0 ∷ 0 ∷ 0 ∷ 2 ∷ 0 ∷ 3
    ∷ 0x01 ∷ 0xC0 ∷ 0 ∷ 0 ∷ 0 ∷ 2 ∷ 0 ∷ 3
    ∷ 0 ∷ []
    )
    ∷ row 5 (of pairs) 12288 24 (refuses 9) []
    ∷ row 7 (of quarters) 12288 25 (gives (route 0 0 9 ∷ route (ip 10 0 0 0) 8 2 ∷ route (ip 10 0 0 0) 10 1 ∷ []))
    (
    0x01 ∷ 0 ∷ 0 ∷ 0 ∷ 0 ∷ 0 ∷ 0 ∷ 9
    ∷ 0x01 ∷ 0x0A ∷ 0 ∷ 0 ∷ 0 ∷ 8 ∷ 0 ∷ 2
    ∷ 0x01 ∷ 0x0A ∷ 0 ∷ 0 ∷ 0 ∷ 0x0A ∷ 0 ∷ 1
    ∷ 0 ∷ []
    )
    ∷ row 7 (of quarters) 12288 24 (refuses 9) []
    ∷ row 9 (of (via (ip 10 0 0 0) 8 33 ∷ [])) 12287 0 (refuses 1) []
    ∷ row 9 (of (via (ip 10 0 0 0) 8 33 ∷ [])) 12288 0 (refuses 23) []
    ∷ row 9 (of (via 0 0 33 ∷ [])) 12288 0 (refuses 24) []
    ∷ row 9 (of hidden) 12288 0 (refuses 24) []
    ∷ row 9 (of (via 0 0 32 ∷ [])) 12288 8 (refuses 9) []
    ∷ row 9 (of (via 0 0 32 ∷ [])) 12288 9 (gives (route 0 0 32 ∷ [])) (0x01 ∷ 0 ∷ 0 ∷ 0 ∷ 0 ∷ 0 ∷ 0 ∷ 32 ∷ 0 ∷ [])
    ∷ row 9 (of (via 0 0 32 ∷ [])) 999999 9 (gives (route 0 0 32 ∷ [])) (0x01 ∷ 0 ∷ 0 ∷ 0 ∷ 0 ∷ 0 ∷ 0 ∷ 32 ∷ 0 ∷ [])
    ∷ row 9 foreign 12288 0 (refuses 2) []
    ∷ row 9 foreign 12287 0 (refuses 1) []
    ∷ row 0 (of loser) 12288 9 (gives (route 0 0 7 ∷ [])) (0x01 ∷ 0 ∷ 0 ∷ 0 ∷ 0 ∷ 0 ∷ 0 ∷ 7 ∷ 0 ∷ [])
    ∷ row 0 misfit 12288 9 (refuses 1) []
    ∷ []

-- ---- none of the five cases is left out

pub record Stand : Type 0 where
  pub all : AllHold rows
  pub numbers : numbers_of rows ≡ 1 ∷ 1 ∷ 3 ∷ 3 ∷ 5 ∷ 5 ∷ 7 ∷ 7 ∷ 9 ∷ 9 ∷ 9 ∷ 9 ∷ 9 ∷ 9 ∷ 9 ∷ 9 ∷ 9 ∷ 0 ∷ 0 ∷ []
