-- What the front does to the table is what a feed without ticks does to it: the records that it passes on, and for a tick what it
-- installs. So demands 2 and 3 read of the table behind it. Assumes nothing.
use Rattle.std.specs.Prelude.{◌≡◌, refl, Bool, cond, List, [], ◌∷◌, ◌++◌, ℕ, eqb}
use Rattle.std.proofs.Common.{sym, ap, ◌∙◌}
use Rattle.logic.specs.Cases.{bool}
use Rattle.candidates.specs.Candidate.{Candidate, place}
use Rattle.candidates.specs.Answers.{Update, announce, withdraw, Record, update, lookup, sound, after, next}
use Rattle.candidates.specs.Answers as table
use Rattle.front.specs.Place.{Place, mark_at}
use Rattle.front.specs.Front.{Event, asks, tick, Both, updated, halve, again, installs, tried_list, each, taken, leaves}
use Rattle.front.specs.Front.{tries_list}
use Rattle.restraint.specs.Through.{given, through, leaves-both, event_given}

module _ (W A : ℕ) where
  pub as_fed : (b : Both) (es : List Event) → (leaves W A b es).list ≡ table.leaves W A b.list ((through W A) b es)
  as_fed b [] = refl
  as_fed b (e ∷ es) =
      as_fed (taken W A b e).left es
      ∙ ap (λ (cs : List Candidate). table.leaves W A cs ((through W A) (taken W A b e).left es)) ((event_given W A) b e)
      ∙ sym ((leaves-both W A) b.list ((given W A) b e) ((through W A) (taken W A b e).left es))
