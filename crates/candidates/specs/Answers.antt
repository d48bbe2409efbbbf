-- What a table of A arrays that holds candidates answers to a record, and the list afterwards. Refusals stand as a nest, in the
-- order 3, 4, 5, 10, then 7 or 8. Assumes nothing.
--
--     announce, withdraw       the reply has the candidate's own hop, and cells where the hop that wins at the prefix changes
--     lookup                   longest match and block of the winners
use Rattle.std.specs.Prelude.{Bool, cond, List, [], ◌∷◌, ℕ, ◌+◌, ◌*◌, eqb}
use Rattle.routes.specs.Route.{route, too_long, stray, bad_hop}
use Rattle.routes.specs.Match.{longest}
use Rattle.routes.specs.Block.{block}
use Rattle.routes.specs.Cells.{cells}
use Rattle.routes.specs.Answers.{Reply, done, found, none, refused, refuse, is_done, lacking, matched}
use Rattle.candidates.specs.Keyed.{put, cut}
use Rattle.candidates.specs.Candidate.{Candidate, candidate, bad_feed, place, key, held}
use Rattle.candidates.specs.Winners.{winning, winners}

-- ---- what is sent

pub data Update : Type 0 where
  announce : (address length hop feed preference : ℕ) → Update
  withdraw : (address length feed : ℕ) → Update

pub data Record : Type 0 where
  update : Update → Record
  lookup : (address : ℕ) → Record

-- ---- updates

-- what is wrong with the update itself, or else r
abbrev pub faulty : ℕ → Update → Reply → Reply
faulty W (announce a l h f p) r =
    refuse 3 (too_long W l) (refuse 4 (stray W a l) (refuse 5 (bad_hop h) (refuse 10 (bad_feed f) r)))
faulty W (withdraw a l f) r = refuse 3 (too_long W l) (refuse 4 (stray W a l) (refuse 10 (bad_feed f) r))

-- it is well-formed, and its feed number is one of 1 to 4
abbrev pub sound : ℕ → Update → Bool
sound W u = is_done (faulty W u (done 0 0))

-- the candidate that it names, without preference and hop
abbrev pub target : Update → Candidate
target (announce a l h f p) = candidate a l f 0 0
target (withdraw a l f) = candidate a l f 0 0

-- the list that an accepted update leaves. A second announcement of a candidate replaces the first, its preference too
abbrev pub changed : Update → List Candidate → List Candidate
changed (announce a l h f p) cs = put key (candidate a l f p h) cs
changed (withdraw a l f) cs = cut key (place a l f) cs

-- the cells that a change from cs to ds at a prefix reports: none where the winning hop there is the same
abbrev pub reloaded : ℕ → List Candidate → List Candidate → ℕ → ℕ → ℕ
reloaded W cs ds a l =
    cond (eqb (winning cs (a * 256 + l)) (winning ds (a * 256 + l))) 0
    (cells W (route a l 0) (winners cs))

-- what the list says to an update that is not faulty. Room is asked of the winners, as document 01 does: a prefix that has a
-- candidate never lacks it
abbrev pub verdict : ℕ → ℕ → List Candidate → Update → Reply
verdict W A cs (announce a l h f p) =
    refuse 8 (lacking W A (winners cs) a l h)
    (done h (reloaded W cs (changed (announce a l h f p) cs) a l))
verdict W A cs (withdraw a l f) =
    refuse 7 (eqb (held cs a l f) 0)
    (done (held cs a l f) (reloaded W cs (changed (withdraw a l f) cs) a l))

unfoldable pub answer : ℕ → ℕ → List Candidate → Update → Reply
answer W A cs u = faulty W u (verdict W A cs u)

-- changed exactly where the answer is done
abbrev pub after : ℕ → ℕ → List Candidate → Update → List Candidate
after W A cs u = cond (is_done (answer W A cs u)) (changed u cs) cs

-- ---- numbers of cells excepted

abbrev pub plain : Reply → Reply
plain (done h c) = done h 0
plain (found h l q) = found h l q
plain (none q) = none q
plain (refused n) = refused n

abbrev pub plains : List Reply → List Reply
plains [] = []
plains (r ∷ rs) = plain r ∷ plains rs

-- ---- records

-- the longest match and the block of an address
abbrev pub looked_up : ℕ → List Candidate → ℕ → Reply
looked_up W cs a = matched (longest W a (winners cs)) (block W (winners cs) a)

abbrev pub reply : ℕ → ℕ → List Candidate → Record → Reply
reply W A cs (update u) = answer W A cs u
reply W A cs (lookup a) = looked_up W cs a

abbrev pub next : ℕ → ℕ → List Candidate → Record → List Candidate
next W A cs (update u) = after W A cs u
next W A cs (lookup a) = cs

-- updates alone, as records
abbrev pub records : List Update → List Record
records [] = []
records (u ∷ us) = update u ∷ records us

-- one after the other
abbrev pub replies : ℕ → ℕ → List Candidate → List Record → List Reply
replies W A cs [] = []
replies W A cs (r ∷ xs) = reply W A cs r ∷ replies W A (next W A cs r) xs

abbrev pub leaves : ℕ → ℕ → List Candidate → List Record → List Candidate
leaves W A cs [] = cs
leaves W A cs (r ∷ xs) = leaves W A (next W A cs r) xs
