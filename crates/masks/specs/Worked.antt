-- Worked cases of the mask of an array, decided by computation; the first two are figures of the scheme. Assumes nothing.
use Rattle.std.specs.Prelude.{◌≡◌, refl, Bool, false, ◌||◌, List, [], ◌∷◌, ℕ, eqb}
use Rattle.std.specs.Int.Count.{ones, count_leading_zeros}
use Rattle.logic.specs.Every.{all_b}
use Rattle.masks.specs.Mask.{mask_of, free_b, pick}

-- the prefixes of an array, by their slots, and its mask
pub record Case : Type 0 where
  pub slots : List ℕ
  pub mask : ℕ

abbrev row : List ℕ → ℕ → Case
row ts m = record { slots = ts; mask = m }

abbrev among : List ℕ → ℕ → Bool
among [] s = false
among (t ∷ ts) s = eqb t s || among ts s

abbrev got : List Case → List Case
got [] = []
got (c ∷ cs) = row c.slots (mask_of (among c.slots)) ∷ got cs

abbrev pub cases : List Case
cases =
    -- 0110xxxx, 01111000, 11001101: 00110000
    row (22 ∷ 376 ∷ 461 ∷ []) 48
    -- 1110xxxx, 11101111: 00001111
    ∷ row (30 ∷ 495 ∷ []) 15
    -- 0xxxxxxx, 00xxxxxx, 000xxxxx: 01100000
    ∷ row (2 ∷ 4 ∷ 8 ∷ []) 96
    -- 0xxxxxxx, 00000000: 01111111
    ∷ row (2 ∷ 256 ∷ []) 127
    -- one prefix alone, and none
    ∷ row (300 ∷ []) 0
    ∷ row [] 0
    ∷ []

pub worked : got cases ≡ cases
unfolding mask_of pick free_b all_b ones count_leading_zeros
worked = refl
