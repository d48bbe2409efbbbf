-- Which bytes are one whole written-out list, of any room, and which list that is: the winners of the candidates that the records
-- announce. All records are of one kind. Assumes nothing.
--
--     1 address 4 length 1 hop 2 | .. | 0                              of kind 1, which means feed 1, preference 0
--     4 address 4 length 1 hop 2 feed 1 preference 1 | .. | 0          of kind 4
use Rattle.std.specs.Prelude.{Bool, true, false, cond, not, ◌&&◌, ◌||◌, List, [], ◌∷◌, ℕ, zero, suc, ◌+◌, ◌-◌, ◌*◌, ◌/◌, ◌%◌}
use Rattle.std.specs.Prelude.{length, get_or, ltb, eqb}
use Rattle.routes.specs.Family.{v4, announcing, announcing_for, kind_of as kind_in}
use Rattle.routes.specs.Route.{Route, route, too_long, stray, bad_hop}
use Rattle.numbers.specs.Digits.{two_at, four_at}
use Rattle.logic.specs.Every.{all_b}
use Rattle.candidates.specs.Candidate.{Candidate, candidate, bad_feed, key}
use Rattle.candidates.specs.Winners.{winners}

-- ---- the records

-- the first byte says that they are of kind 4; otherwise they are to be of kind 1
abbrev pub fours : List ℕ → Bool
fours bs = eqb (get_or bs 0 0) (kind_in v4 announcing_for)

abbrev pub kind_of : Bool → ℕ
kind_of true = kind_in v4 announcing_for
kind_of false = kind_in v4 announcing

-- the bytes of a record
abbrev pub size_of : Bool → ℕ
size_of true = 10
size_of false = 8

-- where record i begins
abbrev pub begin : List ℕ → ℕ → ℕ
begin bs i = size_of (fours bs) * i

unfoldable pub records_in : List ℕ → ℕ
records_in bs = length bs / size_of (fours bs)

-- ---- their candidates, and the list

-- the candidate of a record that begins at byte x
abbrev pub candidate_of : Bool → List ℕ → ℕ → Candidate
candidate_of four bs x =
    candidate (four_at bs (x + 1)) (get_or bs (x + 5) 0) (cond four (get_or bs (x + 8) 0) 1) (cond four (get_or bs (x + 9) 0) 0)
    (two_at bs (x + 6))

abbrev pub candidate_at : List ℕ → ℕ → Candidate
candidate_at bs i = candidate_of (fours bs) bs (begin bs i)

-- those of n records from record i on
unfoldable pub candidates_from : List ℕ → ℕ → ℕ → List Candidate
candidates_from bs zero i = []
candidates_from bs (suc n) i = candidate_at bs i ∷ candidates_from bs n (suc i)

abbrev pub candidates_in : List ℕ → List Candidate
candidates_in bs = candidates_from bs (records_in bs) 0

abbrev pub list_of : List ℕ → List Route
list_of bs = winners (candidates_in bs)

-- ---- whether they are right

-- document 01's route, by the tests that refuse what is none
abbrev pub route_b : Route → Bool
route_b r = not (too_long 32 r.len) && (not (stray 32 r.addr r.len) && not (bad_hop r.hop))

-- a feed has announced a route
abbrev pub candidate_b : Candidate → Bool
candidate_b c = route_b (route c.addr c.len c.hop) && not (bad_feed c.feed)

-- record i is of the list's kind, announces a route, and comes after the one before
abbrev pub record_b : List ℕ → ℕ → Bool
record_b bs i = eqb (get_or bs (begin bs i) 0) (kind_of (fours bs))
    && (candidate_b (candidate_at bs i) && (eqb i 0 || ltb (key (candidate_at bs (i - 1))) (key (candidate_at bs i))))

-- records in order, then one byte 0 and nothing after it
unfoldable pub whole_b : List ℕ → Bool
whole_b bs = eqb (length bs % size_of (fours bs)) 1
    && (eqb (get_or bs (begin bs (records_in bs)) 0) 0 && all_b (record_b bs) (records_in bs))

pub data Listed : Type 0 where
  unlisted : Listed
  listed : List Route → Listed

-- whole bytes; how many arrays a table would need for their list is no matter here
unfoldable pub listed_in : List ℕ → Listed
listed_in bs = cond (whole_b bs) (listed (list_of bs)) unlisted
