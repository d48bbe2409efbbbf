-- Document 02's worked cases of item 10: what lies inside prefixes of a list. Rows under one statement, decided by computation.
-- Assumes nothing.
use Rattle.std.specs.Prelude.{◌≡◌, refl, List, [], ◌∷◌, ℕ, ◌+◌, ◌*◌, ◌^◌, length}
use Rattle.routes.specs.Route.{Route, route}
use Rattle.routes.specs.Small.{ip}
use Rattle.candidates.specs.Candidate.{candidate}
use Rattle.candidates.specs.Candidate as candidates
use Rattle.inside.specs.Inside.{inside, prefixes_inside}

-- inside address/bits lie `gives` prefixes
pub record Row : Type 0 where
  pub address : ℕ
  pub bits : ℕ
  pub gives : ℕ

abbrev row : ℕ → ℕ → ℕ → Row
row a l n = record { address = a; bits = l; gives = n }

-- the rows with what the definition gives
abbrev counted : ℕ → List Route → List Row → List Row
counted W rs [] = []
counted W rs (x ∷ xs) = row x.address x.bits (inside W rs x.address x.bits) ∷ counted W rs xs

abbrev held : List Route
held =
    route 0 0 1
    ∷ route (ip 10 0 0 0) 8 1
    ∷ route (ip 10 0 0 0) 9 1
    ∷ route (ip 10 1 0 0) 16 1
    ∷ route (ip 10 1 4 0) 22 1
    ∷ route (ip 10 1 4 0) 24 1
    ∷ route (ip 10 1 4 128) 25 1
    ∷ route (ip 11 0 0 0) 8 1
    ∷ []

-- 10.1: level 0
abbrev level0 : List Row
level0 =
    row 0 0 8
    ∷ row (ip 10 0 0 0) 7 7
    ∷ row (ip 10 0 0 0) 8 6
    ∷ row 0 1 7
    ∷ row (ip 128 0 0 0) 1 0
    ∷ row (ip 12 0 0 0) 8 0
    ∷ []

-- 10.3: level 3, and arrays that do not exist
abbrev level3 : List Row
level3 =
    row (ip 10 1 4 0) 25 0
    ∷ row (ip 10 1 4 128) 25 1
    ∷ row (ip 10 1 4 128) 26 0
    ∷ row (ip 10 1 4 128) 32 0
    ∷ row (ip 12 1 1 0) 24 0
    ∷ row (ip 11 0 0 0) 9 0
    ∷ row (ip 10 2 0 0) 32 0
    ∷ []

-- 10.5: 10.0.0.0/8 with feeds 1 and 2, 10.0.0.0/9 with feed 4
abbrev rivals : List candidates.Candidate
rivals = candidate (ip 10 0 0 0) 8 1 0 1 ∷ candidate (ip 10 0 0 0) 8 2 0 1 ∷ candidate (ip 10 0 0 0) 9 4 0 1 ∷ []

-- 10.7: 2001:db8::, with 128 bits; a /64 and a /128 below it
abbrev db8 : ℕ
db8 = 0x20010DB8 * 2 ^ 96

abbrev held6 : List Route
held6 = route 0 0 1 ∷ route db8 32 1 ∷ route (db8 + 1) 128 1 ∷ route (db8 + 2 ^ 64) 64 1 ∷ []

abbrev ipv6 : List Row
ipv6 =
    row 0 0 4
    ∷ row (0x2000 * 2 ^ 112) 3 3
    ∷ row db8 32 3
    ∷ row db8 33 2
    ∷ row db8 64 1
    ∷ row db8 128 0
    ∷ row (db8 + 1) 128 1
    ∷ []

pub record Holds : Type 0 where
  pub one : counted 32 held level0 ≡ level0
  pub three : counted 32 held level3 ≡ level3
  -- prefixes are counted, not candidates
  pub five : prefixes_inside 32 rivals 0 0 ≡ 2
  pub candidates_are : length rivals ≡ 3
  pub seven : counted 128 held6 ipv6 ≡ ipv6

pub inside-cases : Holds
unfolding inside
inside-cases = record { one = refl; three = refl; five = refl; candidates_are = refl; seven = refl }
