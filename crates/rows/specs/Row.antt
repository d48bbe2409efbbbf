-- The words of a front, 1,024: 256 rows of four words, one for each place in their order, and the rows after the last place all
-- 0. What words stand for is read off them; when they are a front is said of that. Assumes nothing.
--
--     row i, words 4i .. 4i + 3     a address │ w length * 8 + feed │ x penalty * 2 + held back │ k what is kept
--
-- A row is used exactly where x is not 0.
use Rattle.std.specs.Prelude.{◌≡◌, Bool, true, false, cond, not, ◌&&◌, List, [], ◌∷◌, ℕ, zero, suc, ◌+◌, ◌-◌, ◌*◌, ◌/◌, ◌%◌, ◌^◌}
use Rattle.std.specs.Prelude.{◌≤◌, ◌<◌, length, get_or, ltb, leb, eqb}
use Rattle.logic.specs.Every.{all_b}
use Rattle.front.specs.Place.{Mark, mark, Place, placed, key, IsFront, most_places, most_penalty, held_over, free_below}

abbrev pub row_words : ℕ
row_words = 4

abbrev pub front_words : ℕ
front_words = 1024

pub record Row : Type 0 where
  pub a : ℕ
  pub w : ℕ
  pub x : ℕ
  pub k : ℕ

abbrev pub row : ℕ → ℕ → ℕ → ℕ → Row
row a w x k = record { a = a; w = w; x = x; k = k }

abbrev pub none : Row
none = row 0 0 0 0

abbrev pub row_at : List ℕ → ℕ → Row
row_at ws i =
    row (get_or ws (row_words * i) 0) (get_or ws (row_words * i + 1) 0) (get_or ws (row_words * i + 2) 0)
    (get_or ws (row_words * i + 3) 0)

abbrev pub mark_of : ℕ → ℕ → Mark
mark_of x k = mark (x / 2) (eqb (x % 2) 1) k

abbrev pub decode : Row → Place
decode r = placed r.a (r.w / 8) (r.w % 8) (mark_of r.x r.k)

abbrev pub used : Row → Bool
used r = not (eqb r.x 0)

-- the used rows from i on, of n
unfoldable pub collect : (ℕ → Row) → ℕ → ℕ → List Place
collect g i zero = []
collect g i (suc n) = cond (used (g i)) (decode (g i) ∷ collect g (suc i) n) []

abbrev pub places_of : List ℕ → List Place
places_of ws = collect (row_at ws) 0 most_places

-- ---- the words are a front

pub record IsWords (ws : List ℕ) : Type 0 where
  pub size : length ws ≡ front_words
  pub front : IsFront 32 (places_of ws)
  pub zeros : (i : ℕ) → length (places_of ws) ≤ i → i < most_places → row_at ws i ≡ none

-- ---- the same as tests, in the code's order

abbrev pub candidate_b : ℕ → ℕ → Bool
candidate_b a w =
    cond (ltb 32 (w / 8)) false
    (cond (not (eqb (a % 2 ^ (32 - w / 8)) 0)) false
    (cond (eqb (w % 8) 0) false
    (leb (w % 8) 4)))

abbrev pub mark_b : ℕ → ℕ → Bool
mark_b x k =
    cond (ltb most_penalty (x / 2)) false
    (cond (leb 16777216 k) false
    (cond (eqb (x % 2) 0) (cond (eqb k 0) (leb (x / 2) held_over) false)
    (cond (eqb k 0) (leb free_below (x / 2)) (not (eqb (k % 65536) 0)))))

-- it stands after the row before it, which is used
abbrev pub after_b : (ℕ → Row) → ℕ → Bool
after_b g i = cond (eqb i 0) true (used (g (i - 1)) && ltb (key (decode (g (i - 1)))) (key (decode (g i))))

abbrev pub empty_b : Row → Bool
empty_b r = eqb r.a 0 && (eqb r.w 0 && eqb r.k 0)

unfoldable pub row_b : (ℕ → Row) → ℕ → Bool
row_b g i = cond (used (g i)) (candidate_b (g i).a (g i).w && (mark_b (g i).x (g i).k && after_b g i)) (empty_b (g i))

unfoldable pub front_b : List ℕ → Bool
front_b ws = eqb (length ws) front_words && all_b (row_b (row_at ws)) most_places
