-- Rows stored, moved up and halved, as functions on all rows, and how many places come before a candidate. Assumes nothing.
--
--     inserted at 2     row 0 ── row 1 ── new ── row 2 ── row 3 ..
use Rattle.std.specs.Prelude.{◌≡◌, Bool, cond, ◌&&◌, List, [], ◌∷◌, ℕ, suc, ◌+◌, ◌-◌, ◌*◌, ◌/◌, ◌%◌, ◌<◌, length, ltb, eqb}
use Rattle.front.specs.Place.{Place, key, most_places}
use Rattle.rows.specs.Row.{front_words, Row, row, row_at, decode, used}

-- the words have these rows
pub record Holds (ws : List ℕ) (g : ℕ → Row) : Type 0 where
  pub size : length ws ≡ front_words
  pub rows : (i : ℕ) → i < most_places → row_at ws i ≡ g i

abbrev pub replaced : (ℕ → Row) → ℕ → Row → ℕ → Row
replaced g at r j = cond (eqb j at) r (g j)

-- the rows after i are one further up
abbrev pub lifted : (ℕ → Row) → ℕ → ℕ → Row
lifted g i j = cond (ltb i j) (g (j - 1)) (g j)

abbrev pub inserted : (ℕ → Row) → ℕ → Row → ℕ → Row
inserted g at r j = cond (eqb j at) r (lifted g at j)

abbrev pub halved_row : Row → Row
halved_row r = row r.a r.w (r.x / 4 * 2 + r.x % 2) r.k

abbrev pub halved_to : (ℕ → Row) → ℕ → ℕ → Row
halved_to g i j = cond (ltb j i) (halved_row (g j)) (g j)

-- the row i comes before the candidate k
abbrev pub before : (ℕ → Row) → ℕ → ℕ → Bool
before g k i = used (g i) && ltb (key (decode (g i))) k

-- the places that come before k
abbrev pub rank : List Place → ℕ → ℕ
rank [] k = 0
rank (p ∷ ps) k = cond (ltb (key p) k) (suc (rank ps k)) 0
