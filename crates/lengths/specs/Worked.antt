-- Worked cases of the way, the markers and the need, decided by computation. Assumes nothing.
use Rattle.std.specs.Prelude.{◌≡◌, refl, List, [], ◌∷◌, ℕ}
use Rattle.routes.specs.Route.{Route, route}
use Rattle.routes.specs.Small.{ip}
use Rattle.lengths.specs.Way.{turns}
use Rattle.lengths.specs.Marks.{markers, markers_to, words_for}

pub ways : (turns 4 16 16 ≡ [])
    × (turns 4 16 24 ≡ 16 ∷ [])
    × (turns 4 16 23 ≡ 16 ∷ 20 ∷ 22 ∷ [])
    × (turns 4 16 8 ≡ [])
    × (turns 4 16 1 ≡ [])
    × (turns 4 16 31 ≡ 16 ∷ 24 ∷ 28 ∷ 30 ∷ [])
    × (turns 4 16 32 ≡ 16 ∷ 24 ∷ 28 ∷ 30 ∷ 31 ∷ [])
unfolding turns
ways = (refl, refl, refl, refl, refl, refl, refl)

-- ---- how many markers, and how many words

pub record Case : Type 0 where
  pub list : List Route
  pub markers : ℕ
  pub words : ℕ

abbrev row : List Route → ℕ → ℕ → Case
row rs n w = record { list = rs; markers = n; words = w }

abbrev got : List Case → List Case
got [] = []
got (c ∷ cs) = row c.list (markers c.list) (words_for c.list) ∷ got cs

abbrev pub cases : List Case
cases =
    row [] 0 1024
    -- the default route counts as a route, and has no marker
    ∷ row (route 0 0 7 ∷ []) 0 1032
    ∷ row (route (ip 10 1 0 0) 16 1 ∷ []) 0 1032
    ∷ row (route (ip 10 1 2 0) 24 1 ∷ []) 1 1040
    -- two routes share a marker
    ∷ row (route (ip 10 1 2 0) 24 1 ∷ route (ip 10 1 3 0) 24 1 ∷ []) 1 1048
    -- a marker that is itself a route is not counted
    ∷ row (route (ip 10 1 0 0) 16 1 ∷ route (ip 10 1 2 0) 24 2 ∷ []) 0 1040
    -- 16, 24, 28, 30 and 31
    ∷ row (route (ip 10 1 2 3) 32 1 ∷ []) 5 1072
    ∷ []

pub worked : got cases ≡ cases
unfolding markers_to turns
worked = refl
