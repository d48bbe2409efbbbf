-- What holds after any run through a front, of any bytes and any room for replies: the laws of what comes one after the other, of
-- the records and ticks that the run takes. Assumes nothing.
use Rattle.std.specs.Prelude.{◌≡◌, ◌≢◌, true, false, List, [], ℕ, ◌≤◌}
use Rattle.numbers.specs.Number.{AreBytes}
use Rattle.candidates.specs.Keyed.{Every}
use Rattle.candidates.specs.Candidate.{Candidate}
use Rattle.candidates.specs.Answers.{Update, answer, after}
use Rattle.rivals.specs.Updates.{at}
use Rattle.front.specs.Place.{has, mark_at, IsFront, most_penalty}
use Rattle.front.specs.Front.{Event, Both, both, updated, leaves}
use Rattle.front.specs.Runs.{run, events_of}
use Rattle.restraint.specs.Keeps.{AllTyped, front_keeps, penalty_low}
use Rattle.restraint.specs.Ticks.{AllSpare, AllCalm, ticks_in, AllRoomFor, AllRoom, Free}
use Rattle.restraint.proofs.Ticks.{five_ticks, all_free}
use Rattle.restraint.proofs.Alone.{undamped}
use Rattle.restraint.specs.Absent.{Lacks, InOrder, held_back_absent}
use Rattle.restraint.proofs.Installed.{kept_installed}
use Rattle.restraint.specs.Taken.{run_came}
use Rattle.restraint.specs.Fed.{all_typed, run_fits}
use Rattle.restraint.specs.Ended.{left_as, typed}

module _ (A : ℕ) (feed : List ℕ) (room : ℕ) where
  abbrev left_by : Both → Both
  left_by b = (run A b feed room).end.both

  abbrev events : Both → List Event
  events b = events_of A b feed room

  -- through a front that starts cleared, a candidate that is held back is not in the table
  pub run-absent : AreBytes feed → (cs : List Candidate) → InOrder cs → (k : ℕ)
      → (mark_at (left_by (both cs [])).places k).back ≡ true → Lacks (left_by (both cs [])).list k
  run-absent ok cs i k = rw ((left_as A feed room) (both cs []))
      (held_back_absent 32 A cs (events (both cs [])) k i ((typed A feed room) ok (both cs [])))

  -- a run that does not withdraw a candidate, has room for it and takes five ticks: the candidate is not held back then and
  -- nothing is kept of it, from any front
  pub run-five : (k : ℕ) (b : Both) → IsFront 32 b.places → AllSpare k (events b)
      → AllRoomFor 32 A k b (events b)
      → 5 ≤ ticks_in (events b)
      → ((mark_at (left_by b).places k).back ≡ false) × ((mark_at (left_by b).places k).kept ≡ 0)
  run-five k b i c r n = rw ((left_as A feed room) b) (five_ticks 32 A k b (events b) i c r n)

  -- and what was kept of it is in the table
  pub run-installs : AreBytes feed → (k : ℕ) (b : Both) → IsFront 32 b.places → InOrder b.list
      → AllSpare k (events b) → AllRoomFor 32 A k b (events b) → 5 ≤ ticks_in (events b)
      → (mark_at b.places k).kept ≢ 0 → ¬ Lacks (left_by b).list k
  run-installs ok k b i o c r n m = rw ((left_as A feed room) b)
      (kept_installed 32 A k b (events b) i o ((typed A feed room) ok b) c r n m)

  -- with no withdrawal at all, none is held back and nothing is kept
  pub run_all_free : (b : Both) → IsFront 32 b.places → AllCalm (events b) → AllRoom 32 A b (events b)
      → 5 ≤ ticks_in (events b) → Every Free (left_by b).places
  run_all_free b i c r n = rw ((left_as A feed room) b) (all_free 32 A b (events b) i c r n)

  -- a candidate without a place that the run does not withdraw is answered after it as by the table alone
  pub run_undamped : (b : Both) (u : Update) → has b.places (at u) ≡ false → AllSpare (at u) (events b)
      → ((updated 32 A (left_by b).list (left_by b).places u).reply ≡ answer 32 A
      (left_by b).list u)
      × ((updated 32 A (left_by b).list (left_by b).places u).left.list ≡ after 32 A
      (left_by b).list u)
  run_undamped b u h s = rw ((left_as A feed room) b) (undamped 32 A b (events b) u h s)
