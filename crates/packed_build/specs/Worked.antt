-- Worked needs, decided by computation. Assumes nothing.
use Rattle.std.specs.Prelude.{◌≡◌, refl, List, [], ◌∷◌, ℕ}
use Rattle.std.specs.Int.Count.{ones, count_leading_zeros}
use Rattle.logic.specs.Every.{all_b}
use Rattle.routes.specs.Route.{Route, route}
use Rattle.masks.specs.Mask.{mask_of, free_b, pick}
use Rattle.packed_build.specs.Need.{size_to, words_for}

-- a route list, and the words that it needs compressed
pub record Case : Type 0 where
  pub list : List Route
  pub words : ℕ

abbrev row : List Route → ℕ → Case
row rs n = record { list = rs; words = n }

abbrev got : List Case → List Case
got [] = []
got (c ∷ cs) = row c.list (words_for 32 c.list) ∷ got cs

abbrev pub cases : List Case
cases =
    -- nothing: the first array alone
    row [] 2048
    -- 0.0.0.0/0, 10.0.0.0/8: the first array alone
    ∷ row (route 0 0 7 ∷ route 167772160 8 1 ∷ []) 2048
    -- 10.0.0.0/8, 10.1.0.0/20, 10.1.4.0/22: array 10 has 1 entry, array 10.1 has 4
    ∷ row (route 167772160 8 1 ∷ route 167837696 20 3 ∷ route 167838720 22 2 ∷ []) 2068
    -- 10.1.224.0/20, 10.1.239.128/25: array 10 has 1 entry, array 10.1 has 16, array 10.1.239 has 1
    ∷ row (route 167895040 20 4 ∷ route 167899008 25 9 ∷ []) 2120
    -- 10.0.0.0/9, 10.0.0.0/16: array 10 has 128 entries, as the longer adds seven bits
    ∷ row (route 167772160 9 1 ∷ route 167772160 16 2 ∷ []) 2560
    -- 10.1.0.0/16, 10.1.4.0/24: the route and the link of array 10 share an entry
    ∷ row (route 167837696 16 1 ∷ route 167838720 24 2 ∷ []) 2056
    ∷ []

pub worked : got cases ≡ cases
unfolding size_to mask_of pick free_b all_b ones count_leading_zeros
worked = refl
