-- What any lent words are seen to be as a front, and what each call through it then answers and leaves: by this view and that of
-- the table's words, and by nothing of a layout. The order of refusals is 1, 3, 4, 5, 10, 2, 7, 8. Assumes nothing.
use Rattle.std.specs.Prelude.{List, [], ◌++◌, ℕ, length, drop}
use Rattle.routes.specs.Answers.{Reply, refused}
use Rattle.routes.specs.Seen.{Answer, gives, refuses}
use Rattle.candidates.specs.Answers.{Update, faulty}
use Rattle.candidates.specs.Seen.{Seen, misfit, foreign, table}
use Rattle.front.specs.Place.{Place, backs}
use Rattle.front.specs.Front.{Event, Both, both, updated, tick_places, tick_list, replies}
use Rattle.front.specs.Runs.{Ran, run, events_of}

-- words that are no front, by length or content; a front with its places
pub data FrontSeen : Type 0 where
  alien : FrontSeen
  front : List Place → FrontSeen

-- ---- updates

module _ (W : ℕ) where
  abbrev pub damped_on : FrontSeen → Seen → Update → Reply
  damped_on f misfit u = refused 1
  damped_on f foreign u = faulty W u (refused 2)
  damped_on alien (table A cs) u = faulty W u (refused 2)
  damped_on (front ps) (table A cs) u = (updated W A cs ps u).reply

  -- the table's words then, and the front's
  abbrev pub behind_on : FrontSeen → Seen → Update → Seen
  behind_on f misfit u = misfit
  behind_on f foreign u = foreign
  behind_on alien (table A cs) u = table A cs
  behind_on (front ps) (table A cs) u = table A (updated W A cs ps u).left.list

  abbrev pub places_on : FrontSeen → Seen → Update → FrontSeen
  places_on f misfit u = f
  places_on f foreign u = f
  places_on alien (table A cs) u = alien
  places_on (front ps) (table A cs) u = front (updated W A cs ps u).left.places

  -- ---- a tick

  abbrev pub behind_tick : FrontSeen → Seen → Seen
  behind_tick f misfit = misfit
  behind_tick f foreign = foreign
  behind_tick alien (table A cs) = table A cs
  behind_tick (front ps) (table A cs) = table A (tick_list W A cs ps)

  abbrev pub places_tick : FrontSeen → Seen → FrontSeen
  places_tick f misfit = f
  places_tick f foreign = f
  places_tick alien (table A cs) = alien
  places_tick (front ps) (table A cs) = front (tick_places W A cs ps)

-- ---- the check: how many places there are, and how many candidates are held back

pub record Held : Type 0 where
  pub places : ℕ
  pub back : ℕ

abbrev pub held_in : List Place → Held
held_in ps = record { places = length ps; back = backs ps }

abbrev pub check_front : FrontSeen → Answer Held
check_front alien = refuses 2
check_front (front ps) = gives (held_in ps)

-- a tick's answer: as the check, after it
abbrev pub tick_on : ℕ → FrontSeen → Seen → Answer Held
tick_on W f misfit = refuses 1
tick_on W f foreign = refuses 2
tick_on W alien (table A cs) = refuses 2
tick_on W (front ps) (table A cs) = gives (held_in (tick_places W A cs ps))

-- ---- the run of a feed, on a lent reply of bytes b

-- a front and a table: how many arrays there are, the list and the places
pub record Stand : Type 0 where
  pub arrays : ℕ
  pub both : Both

abbrev pub stand : FrontSeen → Seen → Answer Stand
stand f misfit = refuses 1
stand f foreign = refuses 2
stand alien (table A cs) = refuses 2
stand (front ps) (table A cs) = gives (record { arrays = A; both = both cs ps })

abbrev pub run_on : Answer Stand → List ℕ → List ℕ → Answer Ran
run_on (gives t) feed b = gives (run t.arrays t.both feed (length b))
run_on (refuses n) feed b = refuses n

-- the table's words then, and the front's; refused, they are as they were
abbrev pub ran_behind : Answer Stand → Seen → List ℕ → List ℕ → Seen
ran_behind (gives t) s feed b = table t.arrays (run t.arrays t.both feed (length b)).end.both.list
ran_behind (refuses n) s feed b = s

abbrev pub ran_places : Answer Stand → FrontSeen → List ℕ → List ℕ → FrontSeen
ran_places (gives t) f feed b = front (run t.arrays t.both feed (length b)).end.both.places
ran_places (refuses n) f feed b = f

-- the replies in front, the bytes past them untouched
abbrev pub replied_on : Answer Stand → List ℕ → List ℕ → List ℕ
replied_on (gives t) feed b =
    (run t.arrays t.both feed (length b)).end.replies
    ++ drop (length (run t.arrays t.both feed (length b)).end.replies) b
replied_on (refuses n) feed b = b

-- what it takes, and the answers to that
abbrev pub events_on : Answer Stand → List ℕ → List ℕ → List Event
events_on (gives t) feed b = events_of t.arrays t.both feed (length b)
events_on (refuses n) feed b = []

abbrev pub answers_on : Answer Stand → List ℕ → List ℕ → List Reply
answers_on (gives t) feed b = replies 32 t.arrays t.both (events_of t.arrays t.both feed (length b))
answers_on (refuses n) feed b = []
