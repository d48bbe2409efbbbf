-- What holds after any run through a front, of any bytes and any room for replies: the laws of what comes one after the other, of
-- the records and ticks that the run takes. Assumes nothing.
use Rattle.std.specs.Prelude.{◌≡◌, ◌≢◌, true, false, List, [], ℕ, ◌≤◌}
use Rattle.numbers.specs.Number.{AreBytes}
use Rattle.candidates.specs.Keyed.{Every}
use Rattle.candidates.specs.Candidate.{Candidate}
use Rattle.candidates.specs.Answers.{Update, answer, after}
use Rattle.rivals.specs.Updates.{at}
use Rattle.front.specs.Place.{has, mark_at, IsFront, most_penalty}
use Rattle.front.specs.Front.{Event, Both, both, updated, leaves}
use Rattle.front.specs.Runs.{run, events_of}
use Rattle.restraint.specs.Keeps.{AllTyped, front_keeps, penalty_low}
use Rattle.restraint.specs.Ticks.{AllSpare, AllCalm, ticks_in, AllRoomFor, AllRoom, Free}
use Rattle.restraint.specs.Absent.{Lacks, InOrder, held_back_absent}
use Rattle.restraint.specs.Taken.{run_came}
use Rattle.restraint.specs.Fed.{all_typed, run_fits}

module _ (A : ℕ) (feed : List ℕ) (room : ℕ) where
  -- the list and the places that a run leaves
  abbrev pub left_by : Both → Both
  left_by b = (run A b feed room).end.both

  abbrev pub events : Both → List Event
  events b = events_of A b feed room

  pub left_as : (b : Both) → left_by b ≡ leaves 32 A b (events b)
  left_as b = (run_came A b feed room).both

  pub typed : AreBytes feed → (b : Both) → AllTyped 32 (events b)
  typed ok b = all_typed (events b) (run_fits feed ok A b room)

  -- a front stays one
  pub run_keeps : AreBytes feed → (b : Both) → IsFront 32 b.places → IsFront 32 (left_by b).places
  run_keeps ok b i = rw (left_as b) (front_keeps 32 A b (events b) (typed ok b) i)

  -- no penalty passes 12,000
  pub run-low : AreBytes feed → (b : Both) → IsFront 32 b.places → (k : ℕ) → (mark_at (left_by b).places k).penalty ≤ most_penalty
  run-low ok b i k = penalty_low 32 (left_by b).places k (run_keeps ok b i)
