-- What the front leaves to the table: a candidate that was never withdrawn is answered as by the table alone, and what comes
-- without a withdrawal through a cleared front is answered as without a front. Assumes nothing.
use Rattle.std.specs.Prelude.{◌≡◌, refl, ◌≢◌, false, ◌||◌, List, [], ◌∷◌, ℕ, length, ltb, eqb}
use Rattle.std.proofs.Common.{sym, ap, ◌∙◌, true≢false}
use Rattle.logic.specs.Cases.{bool, same}
use Rattle.routes.specs.Answers.{Reply, done, refused, is_done}
use Rattle.candidates.specs.Keyed.{put}
use Rattle.candidates.specs.Candidate.{Candidate, place}
use Rattle.candidates.specs.Answers.{Update, announce, withdraw, update, lookup, sound, answer, after, looked_up}
use Rattle.rivals.specs.Updates.{at}
use Rattle.front.specs.Place.{Mark, Place, placed, key, marked, has, mark_at, kept_of, kept_hop, most_places}
use Rattle.restraint.specs.Places.{choice, has_not, put_has}
use Rattle.front.specs.Front.{Event, asks, tick, Both, both, Step, step, charged, charge, keeping, kept, passed, dropped}
use Rattle.front.specs.Front.{removed, damped, updated, spent, taken, leaves, replies}
use Rattle.restraint.specs.Passes.{rest, list_past, one_pass, passes}
use Rattle.restraint.specs.Ticks.{AllSpare, AllCalm}

-- ---- it gets no place

charge-has : (a l f k : ℕ) (ps : List Place) → place a l f ≢ k → has (charge a l f ps) k ≡ has ps k
charge-has a l f k ps n =
    choice (λ (x : List Place). has x k ≡ has ps k) (has ps (place a l f) || ltb (length ps) most_places)
    (put key (placed a l f (charged (mark_at ps (place a l f)))) ps) ps
    (λ _. put_has (placed a l f (charged (mark_at ps (place a l f)))) ps k n) (λ _. refl)

pub no_back : (ps : List Place) (k : ℕ) → has ps k ≡ false → (mark_at ps k).back ≡ false
no_back ps k e = ap (λ (m : Mark). m.back) (has_not ps k e)

-- the first of the places is another's
pub has-tail : (p : Place) (ps : List Place) (k : ℕ) → has (p ∷ ps) k ≡ false → (eqb (key p) k ≡ false) × (has ps k ≡ false)
has-tail p ps k e = same (key p) k (λ q d. absurd (true≢false (rw d at e))) (λ n d. (d, rw d at e))

module _ (W A : ℕ) where
  pass_has : (k : ℕ) (cs : List Candidate) (ps : List Place) → has ps k ≡ false → has (one_pass W A cs ps) k ≡ false
  pass_has k cs [] e = refl
  pass_has k cs (p ∷ ps) e =
      let on : has (one_pass W A (list_past W A cs p) ps) k ≡ false = pass_has k (list_past W A cs p) ps (has-tail p ps k e).1 in
      choice (λ (x : List Place). has x k ≡ false) (spent (rest W A cs p)) (one_pass W A (list_past W A cs p) ps)
      (marked p (rest W A cs p) ∷ one_pass W A (list_past W A cs p) ps)
      (λ _. on) (λ _. rw (has-tail p ps k e).0 on)

  announce_has : (cs : List Candidate) (ps : List Place) (a l h f p k : ℕ) → has ps k ≡ false
      → has (updated W A cs ps (announce a l h f p)).left.places k ≡ false
  announce_has cs ps a l h f p k e =
      choice (λ (t : Step). has t.left.places k ≡ false) (sound W (announce a l h f p))
      (damped W A cs ps (announce a l h f p)) (passed W A cs ps (announce a l h f p))
      (λ _.
      choice (λ (t : Step). has t.left.places k ≡ false) (mark_at ps (place a l f)).back
      (kept W A cs ps a l h f p) (passed W A cs ps (announce a l h f p))
      (λ b.
      same (place a l f) k
      (λ q _. absurd (true≢false (sym b ∙ no_back ps (place a l f) (rw q e))))
      (λ n _. put_has (placed a l f (keeping (mark_at ps (place a l f)) (kept_of p h))) ps k n ∙ e))
      (λ b. e))
      (λ _. e)

  withdraw_has : (cs : List Candidate) (ps : List Place) (a l f k : ℕ) → place a l f ≢ k
      → has (updated W A cs ps (withdraw a l f)).left.places k ≡ has ps k
  withdraw_has cs ps a l f k n =
      let c : has (charge a l f ps) k ≡ has ps k = charge-has a l f k ps n in
      choice (λ (t : Step). has t.left.places k ≡ has ps k) (sound W (withdraw a l f))
      (damped W A cs ps (withdraw a l f)) (passed W A cs ps (withdraw a l f))
      (λ _.
      choice (λ (t : Step). has t.left.places k ≡ has ps k) (mark_at ps (place a l f)).back
      (dropped W A cs ps a l f (mark_at ps (place a l f)).kept) (removed W A cs ps a l f)
      (λ b.
      choice (λ (t : Step). has t.left.places k ≡ has ps k) (eqb (mark_at ps (place a l f)).kept 0)
      (step (refused 7) cs ps) (step (done (kept_hop (mark_at ps (place a l f)).kept) 0) cs (charge a l f ps))
      (λ _. refl) (λ _. c))
      (λ b.
      choice (λ (x : List Place). has x k ≡ has ps k) (is_done (answer W A cs (withdraw a l f))) (charge a l f ps) ps
      (λ _. c) (λ _. refl)))
      (λ _. refl)

  pub no_place : (k : ℕ) (b : Both) (es : List Event) → AllSpare k es → has b.places k ≡ false
      → has (leaves W A b es).places k ≡ false
  no_place k b [] c e = e
  no_place k b (asks (update (announce a l h f p)) ∷ es) c e =
      no_place k (taken W A b (asks (update (announce a l h f p)))).left es c.1
      (announce_has b.list b.places a l h f p k e)
  no_place k b (asks (update (withdraw a l f)) ∷ es) c e =
      no_place k (taken W A b (asks (update (withdraw a l f)))).left es c.1
      (withdraw_has b.list b.places a l f k c.0 ∙ e)
  no_place k b (asks (lookup a) ∷ es) c e = no_place k (taken W A b (asks (lookup a))).left es c.1 e
  no_place k b (tick ∷ es) c e =
      no_place k (taken W A b tick).left es c.1
      (rw (passes W A b.list b.places) (pass_has k b.list b.places e))

  -- ---- and so the table answers for it

  pub as_alone : (cs : List Candidate) (ps : List Place) (u : Update) → has ps (at u) ≡ false
      → ((updated W A cs ps u).reply ≡ answer W A cs u) × ((updated W A cs ps u).left.list ≡ after W A cs u)
  as_alone cs ps (announce a l h f p) e =
      bool (sound W (announce a l h f p)) (λ s. rw (s, no_back ps (place a l f) e) (refl, refl)) (λ s. rw s (refl, refl))
  as_alone cs ps (withdraw a l f) e =
      bool (sound W (withdraw a l f)) (λ s. rw (s, no_back ps (place a l f) e) (refl, refl)) (λ s. rw s (refl, refl))

  -- ---- a front that nothing is withdrawn through is as none

  -- the table's own answers; a tick does nothing
  abbrev pub alone_reply : List Candidate → Event → Reply
  alone_reply cs (asks (update u)) = answer W A cs u
  alone_reply cs (asks (lookup a)) = looked_up W cs a
  alone_reply cs tick = done 0 0

  abbrev pub alone_next : List Candidate → Event → List Candidate
  alone_next cs (asks (update u)) = after W A cs u
  alone_next cs (asks (lookup a)) = cs
  alone_next cs tick = cs

  abbrev pub alone_replies : List Candidate → List Event → List Reply
  alone_replies cs [] = []
  alone_replies cs (e ∷ es) = alone_reply cs e ∷ alone_replies (alone_next cs e) es

  clear_step : (cs : List Candidate) (a l h f p : ℕ)
      → updated W A cs [] (announce a l h f p) ≡ passed W A cs [] (announce a l h f p)
  clear_step cs a l h f p = bool (sound W (announce a l h f p)) (λ s. rw s) (λ s. rw s)

  pub transparent : (cs : List Candidate) (es : List Event) → AllCalm es → replies W A (both cs []) es ≡ alone_replies cs es
  transparent cs [] c = refl
  transparent cs (asks (update (announce a l h f p)) ∷ es) c =
      rw (clear_step cs a l h f p)
      (ap (λ (x : List Reply). answer W A cs (announce a l h f p) ∷ x)
      (transparent (after W A cs (announce a l h f p)) es c.1))
  transparent cs (asks (update (withdraw a l f)) ∷ es) c = absurd c.0
  transparent cs (asks (lookup a) ∷ es) c = ap (λ (x : List Reply). looked_up W cs a ∷ x) (transparent cs es c.1)
  transparent cs (tick ∷ es) c = ap (λ (x : List Reply). done 0 0 ∷ x) (transparent cs es c.1)
