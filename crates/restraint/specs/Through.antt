-- What the front does to the table is what a feed without ticks does to it: the records that it passes on, and for a tick what it
-- installs. So demands 2 and 3 read of the table behind it. Assumes nothing.
use Rattle.std.specs.Prelude.{◌≡◌, refl, Bool, cond, List, [], ◌∷◌, ◌++◌, ℕ, eqb}
use Rattle.std.proofs.Common.{sym, ap, ◌∙◌}
use Rattle.logic.specs.Cases.{bool}
use Rattle.candidates.specs.Candidate.{Candidate, place}
use Rattle.candidates.specs.Answers.{Update, announce, withdraw, Record, update, lookup, sound, after, next}
use Rattle.candidates.specs.Answers as table
use Rattle.front.specs.Place.{Place, mark_at}
use Rattle.front.specs.Front.{Event, asks, tick, Both, updated, halve, again, installs, tried_list, each, taken, leaves}
use Rattle.front.specs.Front.{tries_list}

module _ (W A : ℕ) where
  -- an update is passed on unless its candidate is held back
  abbrev pub held_back : List Place → Update → Bool
  held_back ps (announce a l h f p) = (mark_at ps (place a l f)).back
  held_back ps (withdraw a l f) = (mark_at ps (place a l f)).back

  abbrev pub passed_on : List Place → Update → List Record
  passed_on ps u = cond (sound W u) (cond (held_back ps u) [] (update u ∷ [])) (update u ∷ [])

  -- what a tick installs of the places whose penalties are halved
  abbrev pub installed : List Candidate → List Place → List Record
  installed cs [] = []
  installed cs (p ∷ ps) =
      cond (installs W A cs p) (update (again p) ∷ installed (tried_list W A cs p) ps) (installed (tried_list W A cs p) ps)

  -- what the table gets
  abbrev pub given : Both → Event → List Record
  given b (asks (update u)) = passed_on b.places u
  given b (asks (lookup a)) = lookup a ∷ []
  given b tick = installed b.list (each halve b.places)

  abbrev pub through : Both → List Event → List Record
  through b [] = []
  through b (e ∷ es) = given b e ++ through (taken W A b e).left es

  -- ---- the table's list then

  pub leaves-both : (cs : List Candidate) (xs ys : List Record)
      → table.leaves W A cs (xs ++ ys) ≡ table.leaves W A (table.leaves W A cs xs) ys
  leaves-both cs [] ys = refl
  leaves-both cs (x ∷ xs) ys = leaves-both (next W A cs x) xs ys

  update_given : (cs : List Candidate) (ps : List Place) (u : Update)
      → (updated W A cs ps u).left.list ≡ table.leaves W A cs (passed_on ps u)
  update_given cs ps (announce a l h f p) =
      bool (sound W (announce a l h f p))
      (λ s. bool (mark_at ps (place a l f)).back (λ b. rw (s, b)) (λ b. rw (s, b)))
      (λ s. rw s)
  update_given cs ps (withdraw a l f) =
      bool (sound W (withdraw a l f))
      (λ s. bool (mark_at ps (place a l f)).back
      (λ b. bool (eqb (mark_at ps (place a l f)).kept 0) (λ k. rw (s, b, k)) (λ k. rw (s, b, k)))
      (λ b. rw (s, b)))
      (λ s. rw s)

  tick_given : (cs : List Candidate) (ps : List Place) → tries_list W A cs ps ≡ table.leaves W A cs (installed cs ps)
  tick_given cs [] = refl
  tick_given cs (p ∷ ps) =
      bool (installs W A cs p)
      (λ e. rw e (tick_given (after W A cs (again p)) ps))
      (λ e. rw e (tick_given cs ps))

  pub event_given : (b : Both) (e : Event) → (taken W A b e).left.list ≡ table.leaves W A b.list (given b e)
  event_given b (asks (update u)) = update_given b.list b.places u
  event_given b (asks (lookup a)) = refl
  event_given b tick = tick_given b.list (each halve b.places)
