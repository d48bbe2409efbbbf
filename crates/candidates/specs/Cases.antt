-- The shape of a worked case that is a feed: what a cleared table that runs it answers and counts, and what it then writes out.
-- Assumes nothing.
use Rattle.std.specs.Prelude.{List, [], ◌∷◌, ℕ, length}
use Rattle.routes.specs.Family.{Family, width}
use Rattle.routes.specs.Room.{need}
use Rattle.candidates.specs.Candidate.{Candidate}
use Rattle.candidates.specs.Winners.{winners}
use Rattle.candidates.specs.Runs.{Ran, run}

-- the case of a number, on a table of `room` arrays, with `free` reply bytes
pub record Case : Type 0 where
  pub number : ℕ
  pub room : ℕ
  pub free : ℕ
  pub sent : List ℕ
  pub stop : ℕ
  pub consumed : ℕ
  pub replies : List ℕ
  pub accepted : ℕ
  pub refused : ℕ
  pub routes : ℕ
  pub arrays : ℕ
  pub out : List ℕ

module _ (F : Family) (writes : List Candidate → List ℕ) where
  -- the row with what the definitions give
  abbrev by : Case → Ran → Case
  by c r =
      record {
        number = c.number;
        room = c.room;
        free = c.free;
        sent = c.sent;
        stop = r.stop;
        consumed = r.end.consumed;
        replies = r.end.replies;
        accepted = r.end.accepted;
        refused = r.end.refused;
        routes = length r.end.list;
        arrays = need (width F) (winners r.end.list);
        out = writes r.end.list;
      }

  abbrev pub gots : List Case → List Case
  gots [] = []
  gots (c ∷ cs) = by c (run F c.room [] c.sent c.free) ∷ gots cs

abbrev pub numbers : List Case → List ℕ
numbers [] = []
numbers (c ∷ cs) = c.number ∷ numbers cs
