-- What the front leaves to the table: a candidate that was never withdrawn is answered as by the table alone, and what comes
-- without a withdrawal through a cleared front is answered as without a front. Assumes nothing.
use Rattle.std.specs.Prelude.{◌≡◌, refl, ◌≢◌, false, ◌||◌, List, [], ◌∷◌, ℕ, length, ltb, eqb}
use Rattle.std.proofs.Common.{sym, ap, ◌∙◌, true≢false}
use Rattle.logic.specs.Cases.{bool, same}
use Rattle.routes.specs.Answers.{Reply, done, refused, is_done}
use Rattle.candidates.specs.Keyed.{put}
use Rattle.candidates.specs.Candidate.{Candidate, place}
use Rattle.candidates.specs.Answers.{Update, announce, withdraw, update, lookup, sound, answer, after, looked_up}
use Rattle.rivals.specs.Updates.{at}
use Rattle.front.specs.Place.{Mark, Place, placed, key, marked, has, mark_at, kept_of, kept_hop, most_places}
use Rattle.restraint.specs.Places.{choice, has_not, put_has}
use Rattle.front.specs.Front.{Event, asks, tick, Both, both, Step, step, charged, charge, keeping, kept, passed, dropped}
use Rattle.front.specs.Front.{removed, damped, updated, spent, taken, leaves, replies}
use Rattle.restraint.specs.Passes.{rest, list_past, one_pass, passes}
use Rattle.restraint.specs.Ticks.{AllSpare, AllCalm}
use Rattle.restraint.specs.Alone.{no_place, as_alone}

module _ (W A : ℕ) where
  -- at any moment, whatever else came
  pub undamped : (b : Both) (es : List Event) (u : Update) → has b.places (at u) ≡ false → AllSpare (at u) es
      → ((updated W A (leaves W A b es).list (leaves W A b es).places u).reply ≡ answer W A (leaves W A b es).list u)
      × ((updated W A (leaves W A b es).list (leaves W A b es).places u).left.list ≡ after W A (leaves W A b es).list u)
  undamped b es u e c = (as_alone W A) (leaves W A b es).list (leaves W A b es).places u ((no_place W A) (at u) b es c e)
