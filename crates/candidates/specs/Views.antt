-- What the calls answer by what the words are seen to be: rows for each view, decided by computation. They show where the
-- refusals 1, 2, 9 and 10 stand among the others, and which changes of a candidate report cells. Assumes nothing.
use Rattle.std.specs.Prelude.{◌≡◌, refl, true, List, [], ◌∷◌}
use Rattle.std.specs.Int.Count.{count_leading_zeros}
use Rattle.numbers.specs.Digits.{digits}
use Rattle.numbers.specs.Number.{number}
use Rattle.routes.specs.Family.{v4}
use Rattle.routes.specs.Room.{need_to}
use Rattle.routes.specs.Cells.{cells, shown}
use Rattle.routes.specs.Answers.{Reply, done, found, none, refused}
use Rattle.routes.specs.Seen.{gives, refuses}
use Rattle.routes.specs.Small.{ip}
use Rattle.candidates.specs.Candidate.{candidate}
use Rattle.candidates.specs.Answers.{Update, announce, withdraw, answer}
use Rattle.candidates.specs.Runs.{runs, halts}
use Rattle.candidates.specs.Seen.{Seen, misfit, foreign, table, misfits}
use Rattle.candidates.specs.Seen.{answer_on, lookup_on, check_on, count_on, front_on, replied_on}

-- ---- updates

pub record ViewCase : Type 0 where
  pub seen : Seen
  pub sent : Update
  pub gives : Reply

abbrev row : Seen → Update → Reply → ViewCase
row s u y = record { seen = s; sent = u; gives = y }

abbrev gots : List ViewCase → List ViewCase
gots [] = []
gots (c ∷ cs) = row c.seen c.sent (answer_on 32 c.seen c.sent) ∷ gots cs

-- 10.0.0.0/8 of feed 2, on a table of one array
abbrev one : Seen
one = table 1 (candidate (ip 10 0 0 0) 8 2 9 7 ∷ [])

-- of feed 1 too, which wins
abbrev both : Seen
both = table 1 (candidate (ip 10 0 0 0) 8 1 0 5 ∷ candidate (ip 10 0 0 0) 8 2 3 6 ∷ [])

abbrev pub updates : List ViewCase
updates =
    -- 1 comes before all
    row misfit (announce (ip 10 0 0 1) 33 0 0 0) (refused 1)
    ∷ row misfit (withdraw (ip 10 0 0 0) 8 1) (refused 1)
    -- 3, 4, 5 and 10 come before 2
    ∷ row foreign (announce (ip 10 0 0 1) 33 0 0 0) (refused 3)
    ∷ row foreign (announce (ip 10 0 0 1) 24 0 0 0) (refused 4)
    ∷ row foreign (announce (ip 10 0 0 0) 24 0 0 0) (refused 5)
    ∷ row foreign (announce (ip 10 0 0 0) 24 65536 5 0) (refused 5)
    ∷ row foreign (announce (ip 10 0 0 0) 24 1 0 0) (refused 10)
    ∷ row foreign (announce (ip 10 0 0 0) 24 1 5 0) (refused 10)
    ∷ row foreign (announce (ip 10 0 0 0) 24 1 4 0) (refused 2)
    ∷ row foreign (withdraw (ip 10 0 0 1) 24 5) (refused 4)
    ∷ row foreign (withdraw (ip 10 0 0 0) 24 5) (refused 10)
    ∷ row foreign (withdraw (ip 10 0 0 0) 24 1) (refused 2)
    -- 7 is of the candidate, not of the prefix
    ∷ row (table 1 []) (withdraw (ip 10 0 0 0) 8 1) (refused 7)
    ∷ row one (withdraw (ip 10 0 0 0) 8 1) (refused 7)
    ∷ row one (withdraw (ip 10 0 0 0) 8 2) (done 7 1)
    -- 10 comes before 7 and 8
    ∷ row one (withdraw (ip 10 0 0 0) 8 0) (refused 10)
    ∷ row one (announce (ip 10 0 0 0) 9 1 5 0) (refused 10)
    ∷ row one (announce (ip 10 0 0 0) 9 1 1 0) (refused 8)
    -- equal hop and worse preference; another preference alone
    ∷ row one (announce (ip 10 0 0 0) 8 7 1 255) (done 7 0)
    ∷ row one (announce (ip 10 0 0 0) 8 7 2 0) (done 7 0)
    -- the winner with its own hop and a worse preference; the loser with another hop
    ∷ row both (announce (ip 10 0 0 0) 8 5 1 9) (done 5 1)
    ∷ row both (announce (ip 10 0 0 0) 8 9 2 3) (done 9 0)
    -- a third with the winner's hop; the loser gone, the winner gone
    ∷ row both (announce (ip 10 0 0 0) 8 5 3 0) (done 5 0)
    ∷ row both (withdraw (ip 10 0 0 0) 8 2) (done 6 0)
    ∷ row both (withdraw (ip 10 0 0 0) 8 1) (done 5 1)
    ∷ []

pub update_cases : gots updates ≡ updates
unfolding answer cells shown need_to
update_cases = refl

-- ---- sizes beside those of case 7.11: no word, and one word fewer than the least

pub sizes : (misfits 0 ≡ true) × (misfits 6143 ≡ true)
sizes = (refl, refl)

-- ---- the check, lookups and writing out

pub checks : (check_on 32 misfit ≡ refuses 1)
    × (check_on 32 foreign ≡ refuses 2)
    × (check_on 32 both ≡ gives (record { routes = 2; arrays = 1 }))
unfolding need_to
checks = (refl, refl, refl)

pub lookups : (lookup_on 32 misfit (none 0) 0 ≡ refused 1)
    × (lookup_on 32 foreign (refused 2) 0 ≡ refused 2)
    × (lookup_on 32 both (none 0) (ip 10 0 0 1) ≡ found 5 8 8)
    × (lookup_on 32 both (none 0) (ip 11 0 0 1) ≡ none 8)
unfolding count_leading_zeros
lookups = (refl, refl, refl, refl)

pub counts : (count_on v4 misfit 0 ≡ refuses 1)
    × (count_on v4 foreign 0 ≡ refuses 2)
    × (count_on v4 both 20 ≡ refuses 9)
    × (count_on v4 both 21 ≡ gives 21)
    × (count_on v4 (table 1 []) 0 ≡ refuses 9)
    × (count_on v4 (table 1 []) 1 ≡ gives 1)
counts = (refl, refl, refl, refl, refl, refl)

pub fronts : (front_on v4 one 10 ≡ [])
    × (front_on v4 one 11 ≡ 4 ∷ 10 ∷ 0 ∷ 0 ∷ 0 ∷ 8 ∷ 0 ∷ 7 ∷ 2 ∷ 9 ∷ 0 ∷ [])
    × (front_on v4 (table 1 []) 5 ≡ 0 ∷ [])
    × (front_on v4 foreign 100 ≡ [])
unfolding digits
fronts = (refl, refl, refl, refl)

-- ---- a run that is refused, and one that leaves reply bytes over

pub replieds : (replied_on v4 foreign (3 ∷ 0 ∷ 0 ∷ 0 ∷ 0 ∷ []) (9 ∷ 9 ∷ []) ≡ 9 ∷ 9 ∷ [])
    × (replied_on v4 (table 1 []) (3 ∷ 0 ∷ 0 ∷ 0 ∷ 0 ∷ []) (9 ∷ 9 ∷ 9 ∷ 9 ∷ 9 ∷ []) ≡ 18 ∷ 0 ∷ 9 ∷ 9 ∷ 9 ∷ [])
unfolding runs halts number
replieds = (refl, refl)
