-- What a run through a front does to the table is what a feed without ticks does to it, run on the table alone: the records
-- passed on and, for a tick, what it installs, each as an announcement or withdrawal for its feed. Assumes nothing.
--
--     feed       01.. 02.. 09 03..               through the front, to the places and the table
--     fed        04.. 05.. 04.. 04.. 03..        without it, to the table: kind 9 is gone, what it installs stands there
use Rattle.std.specs.Prelude.{◌≡◌, refl, List, [], ◌∷◌, ◌++◌, length, take, drop}
use Rattle.std.proofs.Common.{sym, ap, ap₂, ◌∙◌, arith, length-take, get_or-take, get_or-drop, pow_mono}
use Prim.Native.Nat.{ℕ, zero, suc, ◌+◌, ◌*◌, ◌^◌, ◌≤◌, ◌<◌}
use Rattle.std.proofs.Math.ListN.{get_or-eq_default}
use Rattle.logic.specs.Cases.{bool, less, same}
use Rattle.numbers.specs.Digits.{two_at}
use Rattle.numbers.specs.Number.{AreBytes, number_at, number_lt}
use Rattle.routes.specs.Family.{v4, Role, ending, announcing, withdrawing, looking, announcing_for, withdrawing_for, unknown}
use Rattle.candidates.specs.Keyed.{Every}
use Rattle.candidates.specs.Candidate.{Candidate}
use Rattle.candidates.specs.Answers.{announce, withdraw, Record, update, lookup, sound}
use Rattle.candidates.specs.Answers as table
use Rattle.candidates.specs.Bytes.{Sent, looks, announces_for, withdraws_for, means, meanings, all_bytes, Fits, AllFit}
use Rattle.candidates.specs.Runs.{sent_at, role_at, Ran as Outcome}
use Rattle.candidates.specs.Runs as plain
use Rattle.encoded.proofs.Encoded.{run-records}
use Rattle.front.specs.Place.{Place, IsPlace, IsFront}
use Rattle.front.specs.Front.{Event, asks, tick, Both, halve, again, installs, each, taken}
use Rattle.front.specs.Runs.{State, ticks_at, event_at, halts, turn, fresh, run, events_from, events_of}
use Rattle.restraint.specs.Keeps.{Typed, AllTyped, event_keeps}
use Rattle.restraint.specs.Through.{held_back, installed, given, through}
use Rattle.restraint.proofs.Through.{as_fed}
use Rattle.restraint.specs.Taken.{run_came}
use Rattle.restraint.specs.Fed.{sents, fed, fit_both, AllFitIn, typed_of, run_fits, given_fit, fed-leaves, behind}

module _ (A : ℕ) where
  through_fit : (b : Both) (es : List Event) → IsFront 32 b.places → AllFitIn es → AllFit v4 (sents (through 32 A b es))
  through_fit b [] i w = tt
  through_fit b (e ∷ es) i w =
      fit_both (given 32 A b e) (through 32 A (taken 32 A b e).left es) ((given_fit A) b e i w.0)
      (through_fit (taken 32 A b e).left es (event_keeps 32 A b e (typed_of e w.0) i) w.1)

-- with reply bytes enough for that feed: five for each record
pub as_without : (A : ℕ) (b : Both) (feed : List ℕ) (room wide : ℕ) → AreBytes feed → IsFront 32 b.places
    → 5 * length (behind A b feed room) ≤ wide
    → (run A b feed room).end.both.list ≡ (plain.run v4 A b.list (fed (behind A b feed room)) wide).end.list
as_without A b feed room wide ok i h =
    ap (λ (x : Both). x.list) (run_came A b feed room).both
    ∙ as_fed 32 A b (events_of A b feed room)
    ∙ sym (fed-leaves A b.list (behind A b feed room) wide
    (through_fit A b (events_of A b feed room) i (run_fits feed ok A b room)) h)
