-- A record that is passed on gets the table's own reply. Assumes nothing.
use Rattle.std.specs.Prelude.{◌≡◌, refl, List, [], ◌∷◌, ℕ, length}
use Rattle.std.proofs.Common.{ap, arith}
use Rattle.logic.specs.Cases.{bool}
use Rattle.candidates.specs.Candidate.{place}
use Rattle.candidates.specs.Answers.{announce, withdraw, Record, update, lookup, sound}
use Rattle.candidates.specs.Answers as table
use Rattle.front.specs.Place.{mark_at}
use Rattle.front.specs.Front.{asks, Both, taken}
use Rattle.restraint.specs.Through.{given}

not_given : {P : Type 0} (x : Record) → ◌≡◌ {A = List Record} [] (x ∷ []) → P
not_given x e = absurd (let z : ◌≡◌ {A = ℕ} 0 1 = ap length e in omega arith)

module _ (W A : ℕ) where
  pub passed_answered : (b : Both) (x : Record) → given W A b (asks x) ≡ x ∷ []
      → (taken W A b (asks x)).reply ≡ table.reply W A b.list x
  passed_answered b (lookup a) e = refl
  passed_answered b (update (announce a l h f p)) e =
      bool (sound W (announce a l h f p))
      (λ s. bool (mark_at b.places (place a l f)).back (λ k. not_given _ (rw (s, k) at e)) (λ k. rw (s, k)))
      (λ s. rw s)
  passed_answered b (update (withdraw a l f)) e =
      bool (sound W (withdraw a l f))
      (λ s. bool (mark_at b.places (place a l f)).back (λ k. not_given _ (rw (s, k) at e)) (λ k. rw (s, k)))
      (λ s. rw s)
