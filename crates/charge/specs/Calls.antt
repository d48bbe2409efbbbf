-- What is asked and promised of a candidate's place in a front's words, in terms of the front's places. Assumes nothing.
use Rattle.std.specs.Prelude.{◌≡◌, ◌≢◌, true, not, List, ℕ, ◌%◌, ◌<◌, eqb}
use Rattle.candidates.specs.Candidate.{place}
use Rattle.front.specs.Place.{Place, key, has, mark_at, most_places}
use Rattle.restraint.specs.Keeps.{Sound}
use Rattle.rows.specs.Row.{row_at, mark_of, decode, places_of, IsWords}
use Rattle.shelf.specs.Shift.{rank}

-- the words stand for these places
pub record Became (us : List ℕ) (ps : List Place) : Type 0 where
  pub words : IsWords us
  pub places : places_of us ≡ ps

-- the row of a place, with its last two words
pub record Standing (ws : List ℕ) (k at x y : ℕ) : Type 0 where
  pub low : at < most_places
  pub mark : (row_at ws at).x ≡ x
  pub kept : (row_at ws at).k ≡ y
  pub candidate : key (decode (row_at ws at)) ≡ k

-- a search's answer: where the candidate k stands, or would, and its mark
pub record Found (ws : List ℕ) (k at x y : ℕ) : Type 0 where
  pub rank : at ≡ rank (places_of ws) k
  pub told : has (places_of ws) k ≡ not (eqb x 0)
  pub mark : mark_at (places_of ws) k ≡ mark_of x y
  pub stands : x ≢ 0 → Standing ws k at x y

-- a candidate that may have a place
pub record Charges (ws : List ℕ) (a l f at x y : ℕ) : Type 0 where
  pub words : IsWords ws
  pub sound : Sound 32 a l 1 f
  pub found : Found ws (place a l f) at x y

-- one that is held back, with what is to be kept
pub record Keeps (ws : List ℕ) (a l h f p at x y : ℕ) : Type 0 where
  pub words : IsWords ws
  pub sound : Sound 32 a l h f
  pub byte : p < 256
  pub found : Found ws (place a l f) at x y
  pub back : eqb (x % 2) 1 ≡ true
