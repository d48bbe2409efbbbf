-- What the calls for the shortest list answer and leave, by what the words are seen to be and by nothing of the layout. The
-- refusals stand in the order 1, 2, 23, 24, 9. Assumes nothing.
use Rattle.std.specs.Prelude.{Bool, true, false, cond, List, [], ◌++◌, ℕ, ◌+◌, ◌*◌, eqb, ltb, length, drop}
use Rattle.routes.specs.Route.{Route, held}
use Rattle.routes.specs.Seen.{Answer, gives, refuses}
use Rattle.candidates.specs.Winners.{winners}
use Rattle.candidates.specs.Bytes.{written_plainly}
use Rattle.candidates.specs.Seen.{Seen, misfit, foreign, table}
use Rattle.shortest.specs.Shortest.{upto}
use Rattle.shortest.specs.Chosen.{shortest}

-- of an IPv4 list with hops up to 32
abbrev pub shortest4 : List Route → List Route
shortest4 rs = shortest 32 32 rs

-- the bytes of n routes and the end
abbrev pub bytes_for : ℕ → ℕ
bytes_for n = 8 * n + 1

-- of a list, into a buffer of `room` bytes: 23 without a default route, 24 for a hop over 32, 9 without the room
abbrev pub short_for : List Route → ℕ → Answer (List Route)
short_for rs room =
    cond (eqb (held rs 0 0) 0) (refuses 23)
    (cond (upto 32 rs)
    (cond (ltb room (bytes_for (length (shortest4 rs)))) (refuses 9) (gives (shortest4 rs)))
    (refuses 24))

-- of any words; `less` is true for a scratch that is shorter than they are
abbrev pub short_on : Seen → Bool → ℕ → Answer (List Route)
short_on s true room = refuses 1
short_on misfit false room = refuses 1
short_on foreign false room = refuses 2
short_on (table A cs) false room = short_for (winners cs) room

-- the number of bytes
abbrev pub bytes_in : Answer (List Route) → Answer ℕ
bytes_in (gives rs) = gives (bytes_for (length rs))
bytes_in (refuses n) = refuses n

-- the buffer b after it: kind 1 records and the end at the front, the other bytes as they were; all of them on a refusal
abbrev pub left_in : Answer (List Route) → List ℕ → List ℕ
left_in (gives rs) b = written_plainly rs ++ drop (bytes_for (length rs)) b
left_in (refuses n) b = b

-- the scratch is used after success and after 9, and is as it was after all other refusals
abbrev pub used : Answer (List Route) → Bool
used (gives rs) = true
used (refuses n) = eqb n 9
