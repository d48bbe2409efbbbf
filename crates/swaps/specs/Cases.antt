-- Document 02's worked cases of item 8: a list held, and two updates in one order and in the other, with their answers and the
-- list that is left. Rows under one statement, decided by computation. Assumes nothing.
use Rattle.std.specs.Prelude.{◌≡◌, refl, List, [], ◌∷◌, ℕ}
use Rattle.routes.specs.Room.{need_to}
use Rattle.routes.specs.Cells.{cells, shown}
use Rattle.routes.specs.Answers.{Reply, done, refused}
use Rattle.routes.specs.Small.{ip}
use Rattle.candidates.specs.Candidate.{Candidate, candidate}
use Rattle.candidates.specs.Answers.{Update, announce, withdraw, answer, after}

-- case 8.`number`, or a further one for 0: a table of `room` arrays that holds a list takes `one`, then `two`
pub record Case : Type 0 where
  pub number : ℕ
  pub room : ℕ
  pub holds : List Candidate
  pub one : Update
  pub two : Update
  pub told : List Reply
  pub left : List Candidate

abbrev row : ℕ → ℕ → List Candidate → Update → Update → List Reply → List Candidate → Case
row n A cs u v ys ds = record { number = n; room = A; holds = cs; one = u; two = v; told = ys; left = ds }

-- the row with what the definitions give
abbrev by : ℕ → ℕ → List Candidate → Update → Update → Case
by n A cs u v = row n A cs u v (answer 32 A cs u ∷ answer 32 A (after 32 A cs u) v ∷ []) (after 32 A (after 32 A cs u) v)

abbrev got : Case → Case
got c = by c.number c.room c.holds c.one c.two

abbrev gots : List Case → List Case
gots [] = []
gots (c ∷ cs) = got c ∷ gots cs

abbrev numbers : List Case → List ℕ
numbers [] = []
numbers (c ∷ cs) = c.number ∷ numbers cs

abbrev ten : ℕ
ten = ip 10 0 0 0

abbrev eleven : ℕ
eleven = ip 11 0 0 0

-- 10.0.0.0/7 and 10.0.0.0/8, of feed 1
abbrev nested : List Candidate
nested = candidate ten 7 1 0 2 ∷ candidate ten 8 1 0 1 ∷ []

-- 10.0.0.0/8 of feed 1 alone
abbrev single : List Candidate
single = candidate ten 8 1 0 1 ∷ []

-- 10.0.0.0/9 of feed 1 and of feed 2, which wins
abbrev both : List Candidate
both = candidate ten 9 1 1 1 ∷ candidate ten 9 2 0 2 ∷ []

abbrev pub worked : List Case
worked =
    -- two withdrawals: cells differ, nothing else
    row 1 1 nested (withdraw ten 8 1) (withdraw ten 7 1) (done 1 1 ∷ done 2 2 ∷ []) []
    ∷ row 1 1 nested (withdraw ten 7 1) (withdraw ten 8 1) (done 2 1 ∷ done 1 1 ∷ []) []
    -- two withdrawals of one prefix, one refused
    ∷ row 3 1 single (withdraw ten 8 1) (withdraw ten 8 2) (done 1 1 ∷ refused 7 ∷ []) []
    ∷ row 3 1 single (withdraw ten 8 2) (withdraw ten 8 1) (refused 7 ∷ done 1 1 ∷ []) []
    -- two announcements of one prefix: the loser announced last reports no cells
    ∷ row 5 2 [] (announce ten 9 1 1 1) (announce ten 9 2 2 0) (done 1 128 ∷ done 2 128 ∷ []) both
    ∷ row 5 2 [] (announce ten 9 2 2 0) (announce ten 9 1 1 1) (done 2 128 ∷ done 1 0 ∷ []) both
    -- two announcements, one refused: not promised
    ∷ row 7 2 [] (announce ten 9 1 1 0) (announce eleven 9 2 1 0) (done 1 128 ∷ refused 8 ∷ []) (candidate ten 9 1 0 1 ∷ [])
    ∷ row 7 2 [] (announce eleven 9 2 1 0) (announce ten 9 1 1 0) (done 2 128 ∷ refused 8 ∷ []) (candidate eleven 9 1 0 2 ∷ [])
    ∷ []

-- 11.0.0.0/9 of feed 1, which takes the second array, and 10.0.0.0/8
abbrev full : List Candidate
full = candidate ten 8 1 0 1 ∷ candidate eleven 9 1 0 3 ∷ []

abbrev pub further : List Case
further =
    -- a withdrawal moved ahead of an accepted announcement leaves it accepted
    row 0 2 single (announce ten 9 2 1 0) (withdraw ten 8 1) (done 2 128 ∷ done 1 1 ∷ []) (candidate ten 9 1 0 2 ∷ [])
    ∷ row 0 2 single (withdraw ten 8 1) (announce ten 9 2 1 0) (done 1 1 ∷ done 2 128 ∷ []) (candidate ten 9 1 0 2 ∷ [])
    -- of a candidate of the same prefix; and where the withdrawal is refused
    ∷ row 0 1 single (announce ten 8 2 2 0) (withdraw ten 8 1) (done 2 0 ∷ done 1 1 ∷ []) (candidate ten 8 2 0 2 ∷ [])
    ∷ row 0 1 single (withdraw ten 8 1) (announce ten 8 2 2 0) (done 1 1 ∷ done 2 1 ∷ []) (candidate ten 8 2 0 2 ∷ [])
    ∷ row 0 1 [] (announce ten 8 1 1 0) (withdraw ten 8 2) (done 1 1 ∷ refused 7 ∷ []) single
    ∷ row 0 1 [] (withdraw ten 8 2) (announce ten 8 1 1 0) (refused 7 ∷ done 1 1 ∷ []) single
    -- a refused announcement may become accepted: not promised
    ∷ row 0 2 full (announce ten 9 2 1 0) (withdraw eleven 9 1) (refused 8 ∷ done 3 128 ∷ []) single
    ∷ row 0 2 full (withdraw eleven 9 1) (announce ten 9 2 1 0) (done 3 128 ∷ done 2 128 ∷ [])
    (candidate ten 8 1 0 1 ∷ candidate ten 9 1 0 2 ∷ [])
    ∷ []

-- each row is as the definitions give it, and none of the four pairs of the document is left out
pub swap_cases : (gots worked ≡ worked)
    × (numbers worked ≡ 1 ∷ 1 ∷ 3 ∷ 3 ∷ 5 ∷ 5 ∷ 7 ∷ 7 ∷ [])
    × (gots further ≡ further)
unfolding answer cells shown need_to
swap_cases = (refl, refl, refl)
