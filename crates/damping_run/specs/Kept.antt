-- What a run through a front leaves of the words that it is lent: a lookup and a refused record leave every word of both. Assumes
-- nothing.
use Rattle.std.specs.Prelude.{◌≡◌, refl, true, List, ℕ}
use Rattle.std.proofs.lemmas.Bool.{false≢true}
use Rattle.routes.specs.Answers.{Reply, is_refused}
use Rattle.candidates.specs.Answers.{lookup}
use Rattle.front.specs.Front.{Event, asks}
use Rattle.damping_run.specs.Series.{Asked, updated, looked, ticked}

pub refused_kept : {fs ws gs vs : List ℕ} {e : Event} {y : Reply} → Asked fs ws e y gs vs → is_refused y ≡ true
    → (gs ≡ fs) × (vs ≡ ws)
refused_kept (updated r p) z = p.kept z
refused_kept (looked r p) z = (refl, refl)
refused_kept (ticked p) z = absurd (false≢true z)

pub looked-kept : {fs ws gs vs : List ℕ} {a : ℕ} {y : Reply} → Asked fs ws (asks (lookup a)) y gs vs → (gs ≡ fs) × (vs ≡ ws)
looked-kept (looked r p) = (refl, refl)
