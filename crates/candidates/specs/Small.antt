-- Document 01's small cases: P1 to P12 are one table of rows, decided by computation, and so are further cases. All is sent by
-- kinds 1 to 3, so of feed 1 with preference 0. Assumes nothing.
use Rattle.std.specs.Prelude.{◌≡◌, refl, List, [], ◌∷◌, ℕ}
use Rattle.std.specs.Int.Count.{count_leading_zeros}
use Rattle.routes.specs.Room.{need, need_to}
use Rattle.routes.specs.Cells.{cells, shown}
use Rattle.routes.specs.Answers.{Reply, done, found, none, refused}
use Rattle.routes.specs.Small.{ip}
use Rattle.candidates.specs.Candidate.{Candidate}
use Rattle.candidates.specs.Winners.{winners}
use Rattle.candidates.specs.Answers.{Update, announce, withdraw, Record, records, reply, next, leaves, answer}
use Rattle.candidates.specs.Bytes.{announces, withdraws, looks, means}

-- a cleared table of `room` arrays took the updates `before`; the call is answered so, and the list then needs the arrays. The
-- number is document 01's, 0 for a further case
pub record Case : Type 0 where
  pub number : ℕ
  pub room : ℕ
  pub before : List Update
  pub call : Record
  pub gives : Reply
  pub arrays : ℕ

-- a row of P i, and a further one
abbrev p : ℕ → ℕ → List Update → Record → Reply → ℕ → Case
p i a us r y n = record { number = i; room = a; before = us; call = r; gives = y; arrays = n }

abbrev row : ℕ → List Update → Record → Reply → ℕ → Case
row a us r y n = p 0 a us r y n

-- the list that the row's updates leave, and the one after its call
abbrev pub list_before : Case → List Candidate
list_before c = leaves 32 c.room [] (records c.before)

abbrev pub list_after : Case → List Candidate
list_after c = next 32 c.room (list_before c) c.call

-- the row with what the definitions give
abbrev pub got : Case → Case
got c =
    p c.number c.room c.before c.call
    (reply 32 c.room (list_before c) c.call)
    (need 32 (winners (list_after c)))

abbrev pub gots : List Case → List Case
gots [] = []
gots (c ∷ cs) = got c ∷ gots cs

abbrev numbers : List Case → List ℕ
numbers [] = []
numbers (c ∷ cs) = c.number ∷ numbers cs

-- ---- what is sent

-- the call, by its kind
abbrev put : ℕ → ℕ → ℕ → Record
put a l h = means (announces a l h)

abbrev drop : ℕ → ℕ → Record
drop a l = means (withdraws a l)

abbrev ask : ℕ → Record
ask a = means (looks a)

-- the updates before it, alike
abbrev add : ℕ → ℕ → ℕ → Update
add a l h = announce a l h 1 0

abbrev sub : ℕ → ℕ → Update
sub a l = withdraw a l 1

-- ---- the rows

-- P1 to P12
abbrev pub small : List Case
small =
    p 1 1 [] (ask (ip 0 0 0 0)) (none 0) 1
    ∷ p 2 1 [] (put (ip 0 0 0 0) 0 5) (done 5 256) 1
    ∷ p 2 1 (add (ip 0 0 0 0) 0 5 ∷ []) (ask (ip 255 255 255 255)) (found 5 0 0) 1
    ∷ p 3 1 [] (put (ip 128 0 0 0) 1 5) (done 5 128) 1
    ∷ p 4 1 (add (ip 10 0 0 0) 8 5 ∷ []) (put (ip 10 0 0 0) 7 6) (done 6 1) 1
    ∷ p 5 1 (add (ip 10 0 0 0) 8 5 ∷ add (ip 11 0 0 0) 8 5 ∷ []) (put (ip 10 0 0 0) 7 6) (done 6 0) 1
    ∷ p 6 4 [] (put (ip 10 1 1 128) 25 5) (done 5 128) 4
    ∷ p 7 4 (add (ip 10 1 1 128) 25 5 ∷ []) (put (ip 10 1 4 0) 22 5) (done 5 4) 4
    ∷ p 8 4 [] (put (ip 255 255 255 255) 32 5) (done 5 1) 4
    ∷ p 9 4 (add (ip 10 1 4 0) 22 5 ∷ []) (put (ip 10 1 0 0) 20 6) (done 6 12) 3
    ∷ p 10 1 [] (put (ip 10 0 0 0) 33 0) (refused 3) 1
    ∷ p 11 1 [] (put (ip 10 0 0 1) 24 0) (refused 4) 1
    ∷ p 12 1 [] (put (ip 10 0 0 0) 8 5) (done 5 1) 1
    ∷ p 12 1 (add (ip 10 0 0 0) 8 5 ∷ []) (put (ip 10 0 0 0) 9 5) (refused 8) 1
    ∷ []

-- each row is as the definitions give it, and none of P1 to P12 is left out
pub small_cases : (gots small ≡ small)
    × (numbers small ≡ 1 ∷ 2 ∷ 2 ∷ 3 ∷ 4 ∷ 5 ∷ 6 ∷ 7 ∷ 8 ∷ 9 ∷ 10 ∷ 11 ∷ 12 ∷ 12 ∷ [])
unfolding answer cells shown need_to count_leading_zeros
small_cases = (refl, refl)

-- the second announcement lacks an array, until the first is withdrawn
abbrev freed : List Update
freed = add (ip 10 1 1 128) 25 5 ∷ add (ip 10 1 2 0) 25 6 ∷ sub (ip 10 1 1 128) 25 ∷ []

-- a route, a longer one below it, and the first again with another hop
abbrev replaced : List Update
replaced = add (ip 10 1 0 0) 20 5 ∷ add (ip 10 1 4 0) 22 6 ∷ add (ip 10 1 0 0) 20 7 ∷ []

-- room freed is usable at once, bad input is refused in order, and the traps of the trade
abbrev pub further : List Case
further =
    row 4 (add (ip 10 1 1 128) 25 5 ∷ []) (put (ip 10 1 2 0) 25 6) (refused 8) 4
    ∷ row 4 freed (put (ip 10 1 2 0) 25 6) (done 6 128) 4
    -- hops 0 and 65,536, and 5 before what the list says
    ∷ row 1 [] (put (ip 10 0 0 0) 8 0) (refused 5) 1
    ∷ row 1 [] (put (ip 10 0 0 0) 8 65536) (refused 5) 1
    ∷ row 1 [] (put (ip 10 0 0 0) 8 65535) (done 65535 1) 1
    ∷ row 1 (add (ip 10 0 0 0) 8 5 ∷ []) (put (ip 10 0 0 0) 8 65536) (refused 5) 1
    -- a second announcement replaces: its cells with another hop, none with the same, and room even where every array is used
    ∷ row 1 (add (ip 10 0 0 0) 8 5 ∷ []) (put (ip 10 0 0 0) 8 6) (done 6 1) 1
    ∷ row 1 (add (ip 10 0 0 0) 8 5 ∷ []) (put (ip 10 0 0 0) 8 5) (done 5 0) 1
    ∷ row 3 (add (ip 10 1 0 0) 20 5 ∷ add (ip 10 1 4 0) 22 6 ∷ []) (put (ip 10 1 0 0) 20 7) (done 7 12) 3
    ∷ row 3 replaced (ask (ip 10 1 5 9)) (found 6 22 22) 3
    ∷ row 3 replaced (ask (ip 10 1 8 9)) (found 7 20 21) 3
    ∷ row 3 (add (ip 10 1 0 0) 20 5 ∷ add (ip 10 1 0 0) 20 7 ∷ []) (drop (ip 10 1 0 0) 20) (done 7 16) 1
    -- 7
    ∷ row 1 (add (ip 10 0 0 0) 8 5 ∷ []) (drop (ip 10 0 0 0) 7) (refused 7) 1
    -- a withdrawal with a length of 33, and with a bit after the length
    ∷ row 1 [] (drop (ip 10 0 0 0) 33) (refused 3) 1
    ∷ row 1 [] (drop (ip 10 0 0 0) 4) (refused 4) 1
    -- two routes that start at the same cell are two
    ∷ row 4 (add (ip 10 1 4 0) 22 5 ∷ add (ip 10 1 4 0) 23 6 ∷ []) (ask (ip 10 1 6 1)) (found 5 22 23) 3
    ∷ row 4 (add (ip 10 1 4 0) 22 5 ∷ add (ip 10 1 4 0) 23 6 ∷ []) (ask (ip 10 1 5 1)) (found 6 23 23) 3
    ∷ row 4 (add (ip 10 1 4 0) 22 5 ∷ add (ip 10 1 4 0) 23 6 ∷ []) (drop (ip 10 1 4 0) 22) (done 5 2) 3
    -- a shorter route announced later does not hide a longer one, and counts no cell of another array
    ∷ row 4 (add (ip 10 1 0 0) 16 5 ∷ add (ip 10 0 0 0) 8 6 ∷ []) (ask (ip 10 1 2 3)) (found 5 16 16) 2
    ∷ row 4 (add (ip 0 0 0 0) 22 5 ∷ add (ip 0 0 0 0) 30 7 ∷ []) (drop (ip 0 0 0 0) 22) (done 5 4) 4
    ∷ []

pub further-cases : gots further ≡ further
unfolding answer cells shown need_to count_leading_zeros
further-cases = refl
