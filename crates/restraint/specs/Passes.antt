-- A tick in one pass: places do not see each other, so each may be halved, tried, let go and freed before the next is looked at.
-- Assumes nothing.
use Rattle.std.specs.Prelude.{◌≡◌, refl, cond, List, [], ◌∷◌, ℕ}
use Rattle.logic.specs.Cases.{bool}
use Rattle.candidates.specs.Candidate.{Candidate}
use Rattle.front.specs.Place.{Mark, Place, marked}
use Rattle.front.specs.Front.{released, spent, halve, tried, tried_list}
use Rattle.front.specs.Front.{tick_places, tick_list}

module _ (W A : ℕ) where
  -- what a tick leaves of a place that it does not free, and of the list
  abbrev pub rest : List Candidate → Place → Mark
  rest cs p = released (tried W A cs (halve p)).mark

  abbrev pub list_past : List Candidate → Place → List Candidate
  list_past cs p = tried_list W A cs (halve p)

  abbrev pub one_pass : List Candidate → List Place → List Place
  one_pass cs [] = []
  one_pass cs (p ∷ ps) =
      cond (spent (rest cs p)) (one_pass (list_past cs p) ps) (marked p (rest cs p) ∷ one_pass (list_past cs p) ps)

  abbrev pub one_list : List Candidate → List Place → List Candidate
  one_list cs [] = cs
  one_list cs (p ∷ ps) = one_list (list_past cs p) ps

  pub passes : (cs : List Candidate) (ps : List Place) → tick_places W A cs ps ≡ one_pass cs ps
  passes cs [] = refl
  passes cs (p ∷ ps) =
      bool (spent (rest cs p)) (λ e. rw (e, passes (list_past cs p) ps)) (λ e. rw (e, passes (list_past cs p) ps))

  pub passes_list : (cs : List Candidate) (ps : List Place) → tick_list W A cs ps ≡ one_list cs ps
  passes_list cs [] = refl
  passes_list cs (p ∷ ps) = passes_list (list_past cs p) ps
