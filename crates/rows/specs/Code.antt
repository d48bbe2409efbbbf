-- A row of the code as the row that it says, and words that have one. Assumes nothing.
use Rattle.std.specs.Prelude.{◌≡◌, List, ℕ, ◌<◌, length}
use Rattle.front.specs.Place.{most_places}
use Rattle.rows.specs.Row.{Row, row, front_words}
use Rattle.rows.specs.declared.Row as code

abbrev pub row_of : code.Row → Row
row_of r = row r.address r.who r.mark r.kept

-- the words are as many as a front's, and row i is one of theirs
abbrev pub HasRow : List ℕ → ℕ → Type 0
HasRow ws i = (length ws ≡ front_words) × (i < most_places)
