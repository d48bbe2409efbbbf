-- The words while they are built: the tables of the lengths below m stand, and that of length m is filled from the last record to
-- the first, the routes of that length first and then the markers. Assumes nothing.
use Rattle.std.specs.Prelude.{◌≡◌, Bool, true, false, List, [], ◌++◌, ℕ, zero, suc, ◌+◌, ◌-◌, ◌*◌, ◌/◌, ◌^◌, ◌≤◌, ◌<◌, min}
use Rattle.std.specs.Prelude.{length, get_or, set, eqb}
use Rattle.routes.specs.Route.{Route}
use Rattle.routes.specs.Room.{distinct}
use Rattle.lengths.specs.Way.{Look, miss, hit, outside, turns_at}
use Rattle.listing.specs.Heads.{picks}
use Rattle.lengths.specs.Marks.{entries, best_at}
use Rattle.candidates.specs.Candidate.{IsList}
use Rattle.candidates.specs.Winners.{prefixes}
use Rattle.listing.specs.Listed.{records_in, candidates_from, candidates_in, list_of}
use Rattle.lengths.specs.Layout.{header_words, key_of, places_of, look}
use Rattle.lengths.specs.Hash.{Room, Free, Puts, Holds}
use Rattle.lengths.specs.Laid.{Table}

-- only the words from lo to hi - 1 may differ
pub record Kept (ws us : List ℕ) (lo hi : ℕ) : Type 0 where
  pub long : length us ≡ length ws
  pub below : (i : ℕ) → i < lo → get_or us i 0 ≡ get_or ws i 0
  pub above : (i : ℕ) → hi ≤ i → get_or us i 0 ≡ get_or ws i 0

-- the default route, and the tables of the lengths below m, which end by o
pub record Standing (rs : List Route) (ws : List ℕ) (o m : ℕ) : Type 0 where
  pub default : get_or ws 0 0 ≡ best_at rs 0 0
  pub tables : (l : ℕ) → 1 ≤ l → l < m → Table rs ws o l

-- ---- the two passes

-- the routes of length m, or those that have a marker there
abbrev pub chosen : Bool → ℕ → ℕ → Bool
chosen false m l = eqb l m
chosen true m l = turns_at m l

-- the prefixes from record i on
abbrev pub tail : List ℕ → ℕ → List Route
tail bs i = prefixes (candidates_from bs (records_in bs - i) i)

-- what the table holds before a pass
abbrev pub base : Bool → List ℕ → ℕ → List ℕ
base false bs m = []
base true bs m = picks (chosen false m) m (tail bs 0) ++ []

-- what it holds once the records from i on are entered
abbrev pub sofar : Bool → List ℕ → ℕ → ℕ → List ℕ
sofar k bs m i = picks (chosen k m) m (tail bs i) ++ base k bs m

-- for how many entries a table is made that is to hold so many: a word cannot tell 2^32, which length 32 alone can have, and
-- four places for each of one less are enough
abbrev pub size_for : ℕ → ℕ
size_for count = min count 4294967295

-- a table of n entries at word o
pub record Filling (k : Bool) (bs ws : List ℕ) (i m o n : ℕ) : Type 0 where
  pub list : IsList 32 (candidates_in bs)
  pub few : 1 ≤ m
  pub most : m ≤ 32
  pub upto : i ≤ records_in bs
  pub low : header_words ≤ o
  pub fits : o + 8 * n ≤ length ws
  pub small : n < 2 ^ 32
  pub size : n ≡ size_for (distinct (entries m (list_of bs)))
  pub built : Standing (list_of bs) ws o m
  pub holds : Holds (places_of ws m o (4 * n)) (4 * n) (best_at (list_of bs) m) (sofar k bs m i)

pub record Filled (k : Bool) (bs ws us : List ℕ) (i m o n : ℕ) : Type 0 where
  pub filling : Filling k bs us i m o n
  pub kept : Kept ws us o (o + 8 * n)

-- ---- one entry

-- the table of n entries at word o lies inside the words, and one of its places is free
pub record Space (ws : List ℕ) (o m n : ℕ) : Type 0 where
  pub fits : o + 8 * n ≤ length ws
  pub small : n < 2 ^ 32
  pub room : Room (places_of ws m o (4 * n)) (4 * n)

-- the words with an entry put at place j of the p at word o
unfoldable pub put_at : List ℕ → ℕ → ℕ → ℕ → ℕ → ℕ → List ℕ
put_at ws o p j v b = set (set ws (o + j) (key_of v)) (o + j + p) b

-- put at the first free place of its way
pub record Put (ws us : List ℕ) (o m n v b : ℕ) : Type 0 where
  pub at : ℕ
  pub free : Free (places_of ws m o (4 * n)) (4 * n) v at
  pub puts : Puts (places_of ws m o (4 * n)) (places_of us m o (4 * n)) (4 * n) at v b
  pub kept : Kept ws us o (o + 8 * n)

abbrev pub is_miss : Look → Bool
is_miss miss = true
is_miss (hit b) = false
is_miss outside = false

-- ---- the best match of a marker

abbrev pub or_below : Look → ℕ → ℕ
or_below miss x = x
or_below (hit b) x = b
or_below outside x = x

-- of the first bits of v, which has m: what the longest length up to l has that has an entry, or the default
unfoldable pub below : List ℕ → ℕ → ℕ → ℕ → ℕ
below ws m v zero = get_or ws 0 0
below ws m v (suc l) = or_below (look ws (suc l) (v / 2 ^ (m - suc l))) (below ws m v l)
