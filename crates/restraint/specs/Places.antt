-- The laws of places, beyond those that every list has that increases by a key. Assumes nothing.
use Rattle.std.specs.Prelude.{◌≡◌, refl, ◌≢◌, ◌⊎◌, Bool, true, false, cond, List, [], ◌∷◌, ℕ, suc, ◌≤◌, ◌<◌, length}
use Rattle.std.proofs.Common.{sym, ap, ◌∙◌, inl, inr, arith}
use Rattle.std.proofs.lemmas.Bool.{false≢true}
use Rattle.std.proofs.Math.Option.{Option, none, some}
use Rattle.logic.specs.Cases.{tri, same}
use Rattle.candidates.specs.Keyed.{Ordered, find, put, Every}
use Rattle.rivals.specs.Maps.{find-below, find_skip, put_other}
use Rattle.front.specs.Place.{Mark, blank, Place, key, mark_in, mark_at, is_there, has}

-- a property of a choice is one of each part, where the choice is taken
pub choice : {A : Type 0} (P : A → Type 0) (b : Bool) (x y : A) → (b ≡ true → P x) → (b ≡ false → P y) → P (cond b x y)
choice P true x y f g = f refl
choice P false x y f g = g refl

-- ---- the mark of a candidate is that of a place, or blank

pub mark_case : (P : Place → Type 0) (Q : Mark → Type 0) → ((p : Place) → P p → Q p.mark) → (ps : List Place) (k : ℕ)
    → Every P ps → Q (mark_at ps k) ⊎ (mark_at ps k ≡ blank)
mark_case P Q f [] k a = inr refl
mark_case P Q f (p ∷ ps) k a =
    same (key p) k (λ e d. rw d (inl (f p a.0))) (λ n d. rw d (mark_case P Q f ps k a.1))

pub mark-below : (lo k : ℕ) (ps : List Place) → Ordered key lo ps → k < lo → mark_at ps k ≡ blank
mark-below lo k ps f h = ap mark_in (find-below key lo k ps f h)

pub not_there : (x : Option Place) → is_there x ≡ false → mark_in x ≡ blank
not_there none e = refl
not_there (some p) e = absurd (false≢true (sym e))

pub has_not : (ps : List Place) (k : ℕ) → has ps k ≡ false → mark_at ps k ≡ blank
has_not ps k e = not_there (find key ps k) e

-- ---- the number of places after a put

pub put_more : (p : Place) (ps : List Place) → length (put key p ps) ≤ suc (length ps)
put_more p [] = omega arith
put_more p (q ∷ ps) =
    tri (key p) (key q)
    (λ l e. rw e (omega arith))
    (λ h e d. rw (e, d) (omega arith))
    (λ l e d. rw (e, d) (omega (arith, put_more p ps)))

pub put_in_place : (lo : ℕ) (p : Place) (ps : List Place) → Ordered key lo ps → has ps (key p) ≡ true
    → length (put key p ps) ≡ length ps
put_in_place lo p [] f e = absurd (false≢true e)
put_in_place lo p (q ∷ ps) f w =
    tri (key p) (key q)
    (λ l e. absurd (false≢true (sym (ap is_there (find-below key (key q) (key p) (q ∷ ps) (omega arith, f.1) l)) ∙ w)))
    (λ h e d. rw (e, d))
    (λ l e d. rw (e, d) (ap suc (put_in_place (suc (key q)) p ps f.1
    (sym (ap is_there (find_skip key q ps (key p) (omega arith))) ∙ w))))

-- a put elsewhere
pub put_has : (p : Place) (ps : List Place) (k : ℕ) → key p ≢ k → has (put key p ps) k ≡ has ps k
put_has p ps k n = ap is_there (put_other key p ps k n)
