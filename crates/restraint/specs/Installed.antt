-- What is kept of a candidate is not lost: while that is not withdrawn it stays kept, or the table holds the candidate. So with
-- five ticks and with room for it the table holds it, whatever becomes of others. Assumes nothing.
use Rattle.std.specs.Prelude.{◌≡◌, refl, ◌≢◌, ◌⊎◌, Bool, true, false, ◌&&◌, ◌||◌, List, [], ◌∷◌, ℕ, suc, ◌≤◌, length, ltb, eqb}
use Rattle.std.proofs.Common.{sym, ap, ◌∙◌, inl, inr, ⊎_elim, arith, ne_eqb}
use Rattle.std.proofs.Math.Option.{some, none-ne-some}
use Rattle.logic.specs.Cases.{bool, same}
use Rattle.logic.specs.Bools.{and_to}
use Rattle.routes.specs.Answers.{done, refused, is_done}
use Rattle.candidates.specs.Keyed.{Ordered, find, put}
use Rattle.candidates.specs.Candidate.{Candidate, place}
use Rattle.candidates.specs.Candidate as candidate
use Rattle.candidates.specs.Answers.{Update, announce, withdraw, update, lookup, sound, answer, after}
use Rattle.rivals.specs.Maps.{put_same, put_other}
use Rattle.rivals.specs.Updates.{at, after_other, after_same}
use Rattle.front.specs.Place.{Mark, mark, Place, placed, key, marked, mark_in, mark_at, has, IsFront, kept_of, kept_hop}
use Rattle.front.specs.Place.{kept_preference, most_places, free_below}
use Rattle.restraint.specs.Places.{choice}
use Rattle.front.specs.Front.{Event, asks, tick, Both, Step, step, charged, charge, keeping, kept, passed, dropped, removed}
use Rattle.front.specs.Front.{damped, updated, halved, released, spent, halve, again, due, installs, taken, leaves}
use Rattle.restraint.specs.Passes.{rest, list_past, one_pass, one_list, passes, passes_list}
use Rattle.restraint.specs.Keeps.{AllTyped, event_keeps, announce_sound}
use Rattle.restraint.specs.Ticks.{Spares, AllSpare, AllRoomFor, ticks_in}
use Rattle.restraint.specs.Absent.{Lacks, InOrder, tried_ordered, tried_other, one_other, event_ordered}

-- something is kept of the candidate k, or the table holds it
abbrev pub Here : List Candidate → List Place → ℕ → Type 0
Here cs ps k = ((mark_at ps k).kept ≢ 0) ⊎ ¬ Lacks cs k

-- both the same at k
same_here : (cs ds : List Candidate) (ps qs : List Place) (k : ℕ) → find candidate.key ds k ≡ find candidate.key cs k
    → find key qs k ≡ find key ps k → Here cs ps k → Here ds qs k
same_here cs ds ps qs k e d h = rw (e, d) h

released-kept : (m : Mark) → (released m).kept ≡ m.kept
released-kept m =
    choice (λ (x : Mark). x.kept ≡ m.kept) (ltb m.penalty free_below && eqb m.kept 0)
    (mark m.penalty false m.kept) m (λ _. refl) (λ _. refl)

-- what is kept has a place
unspent-kept : (m : Mark) → m.kept ≢ 0 → spent m ≡ false
unspent-kept m n = rw (ne_eqb m.kept 0 n) (and_none (eqb m.penalty 0))
  where
    and_none : (b : Bool) → (b && false) ≡ false
    and_none true = refl
    and_none false = refl

module _ (W A : ℕ) where
  -- ---- an announcement

  -- one that the table gets leaves what it holds there
  passed_held : (cs : List Candidate) (u : Update) (a l h f p : ℕ) → u ≡ announce a l h f p → InOrder cs
      → ¬ Lacks cs (at u) → ¬ Lacks (after W A cs u) (at u)
  passed_held cs u a l h f p e i n z =
      bool (is_done (answer W A cs u))
      (λ d. none-ne-some (candidate.candidate a l f p h)
      (sym z ∙ after_same W A cs u i ∙ rw (d, e)))
      (λ d. n (sym (after_same W A cs u i ∙ rw d) ∙ z))

  abbrev HereIn : ℕ → Step → Type 0
  HereIn k t = Here t.left.list t.left.places k

  module _ (cs : List Candidate) (ps : List Place) (a l h f p : ℕ) (i : InOrder cs) where
    abbrev now : Place
    now = placed a l f (keeping (mark_at ps (place a l f)) (kept_of p h))

    -- passed on
    on : (k : ℕ) → Here cs ps k → Here (after W A cs (announce a l h f p)) ps k
    on k w =
        same (place a l f) k
        (λ q _. rw (← q) (
        ⊎_elim (λ (n : (mark_at ps (place a l f)).kept ≢ 0). inl n)
        (λ (n : ¬ Lacks cs (place a l f)). inr (passed_held cs (announce a l h f p) a l h f p refl i n))
        (rw q w)))
        (λ n _. same_here cs (after W A cs (announce a l h f p)) ps ps k (after_other W A cs (announce a l h f p) k n) refl w)

    -- kept
    mine : sound W (announce a l h f p) ≡ true → (mark_at (put key now ps) (place a l f)).kept ≢ 0
    mine s z =
        let g = announce_sound W a l h f p s in
        let e : kept_of p h ≡ 0 = sym (ap (λ x. (mark_in x).kept) (put_same key now ps)) ∙ z in
        omega (arith, g.some)

    stored : (k : ℕ) → sound W (announce a l h f p) ≡ true → Here cs ps k → Here cs (put key now ps) k
    stored k s w =
        same (place a l f) k
        (λ q _. rw (← q) (inl (mine s)))
        (λ n _. same_here cs cs ps (put key now ps) k refl (put_other key now ps k n) w)

    pub announce_here : (k : ℕ) → Here cs ps k → HereIn k (updated W A cs ps (announce a l h f p))
    announce_here k w =
        choice (HereIn k) (sound W (announce a l h f p)) (damped W A cs ps (announce a l h f p))
        (passed W A cs ps (announce a l h f p))
        (λ s.
        choice (HereIn k) (mark_at ps (place a l f)).back (kept W A cs ps a l h f p) (passed W A cs ps (announce a l h f p))
        (λ _. stored k s w) (λ _. on k w))
        (λ _. on k w)

  -- ---- a withdrawal of another

  module _ (cs : List Candidate) (ps : List Place) (a l f k : ℕ) (n : place a l f ≢ k) where
    charge_other : find key (charge a l f ps) k ≡ find key ps k
    charge_other =
        choice (λ (x : List Place). find key x k ≡ find key ps k) (has ps (place a l f) || ltb (length ps) most_places)
        (put key (placed a l f (charged (mark_at ps (place a l f)))) ps) ps
        (λ _. put_other key (placed a l f (charged (mark_at ps (place a l f)))) ps k n) (λ _. refl)

    withdraw_here : Here cs ps k → HereIn k (updated W A cs ps (withdraw a l f))
    withdraw_here w =
        let gone : find candidate.key (after W A cs (withdraw a l f)) k ≡ find candidate.key cs k =
        after_other W A cs (withdraw a l f) k n in
        choice (HereIn k) (sound W (withdraw a l f)) (damped W A cs ps (withdraw a l f)) (passed W A cs ps (withdraw a l f))
        (λ _.
        choice (HereIn k) (mark_at ps (place a l f)).back (dropped W A cs ps a l f (mark_at ps (place a l f)).kept)
        (removed W A cs ps a l f)
        (λ _.
        choice (HereIn k) (eqb (mark_at ps (place a l f)).kept 0) (step (refused 7) cs ps)
        (step (done (kept_hop (mark_at ps (place a l f)).kept) 0) cs (charge a l f ps))
        (λ _. w) (λ _. same_here cs cs ps (charge a l f ps) k refl charge_other w))
        (λ _.
        choice (λ (x : List Place). Here (after W A cs (withdraw a l f)) x k) (is_done (answer W A cs (withdraw a l f)))
        (charge a l f ps) ps
        (λ _. same_here cs (after W A cs (withdraw a l f)) ps (charge a l f ps) k gone charge_other w)
        (λ _. same_here cs (after W A cs (withdraw a l f)) ps ps k gone refl w)))
        (λ _. same_here cs (after W A cs (withdraw a l f)) ps ps k gone refl w)

  -- ---- a tick

  -- a place in its turn: it is installed, or what is kept stays kept
  turn_here : (cs : List Candidate) (p : Place) → InOrder cs → (p.mark.kept ≢ 0) ⊎ ¬ Lacks cs (key p)
      → ((rest W A cs p).kept ≢ 0) ⊎ ¬ Lacks (list_past W A cs p) (key p)
  turn_here cs p i w =
      bool (installs W A cs (halve p))
      (λ b. (let d : is_done (answer W A cs (again p)) ≡ true =
      (and_to (due (halve p)) (is_done (answer W A cs (again p))) b).1 in
      let c = candidate.candidate p.addr p.len p.feed (kept_preference p.mark.kept) (kept_hop p.mark.kept) in
      rw b (inr (λ z. none-ne-some c (sym z ∙ after_same W A cs (again p) i ∙ rw d)))))
      (λ b. rw b (
      ⊎_elim (λ (n : p.mark.kept ≢ 0). inl (λ z. n (sym (released-kept (halved p.mark)) ∙ z)))
      (λ (n : ¬ Lacks cs (key p)). inr n) w))

  pass_here : (lo k : ℕ) (cs : List Candidate) (ps : List Place) → Ordered key lo ps → InOrder cs → Here cs ps k
      → Here (one_list W A cs ps) (one_pass W A cs ps) k
  pass_here lo k cs [] f i w = w
  pass_here lo k cs (p ∷ ps) f i w =
      same (key p) k
      (λ q d.
      ⊎_elim
      (λ (n : (rest W A cs p).kept ≢ 0). rw (unspent-kept (rest W A cs p) n, d) (inl n))
      (λ (n : ¬ Lacks (list_past W A cs p) (key p)).
      inr (λ z. n (rw q (sym (one_other W A (suc (key p)) (list_past W A cs p) ps f.1 k (omega arith)) ∙ z))))
      (turn_here cs p i (rw q (rw d at w))))
      (λ n d.
      (let on : Here (one_list W A (list_past W A cs p) ps) (one_pass W A (list_past W A cs p) ps) k =
      pass_here (suc (key p)) k (list_past W A cs p) ps f.1 (tried_ordered W A cs (halve p) i)
      (same_here cs (list_past W A cs p) ps ps k (tried_other W A cs (halve p) k n) refl (rw d at w)) in
      choice (λ (x : List Place). Here (one_list W A (list_past W A cs p) ps) x k) (spent (rest W A cs p))
      (one_pass W A (list_past W A cs p) ps) (marked p (rest W A cs p) ∷ one_pass W A (list_past W A cs p) ps)
      (λ _. on) (λ _. rw d on)))

  -- ---- one after the other

  pub event_here : (k : ℕ) (b : Both) (e : Event) → Spares k e → IsFront W b.places → InOrder b.list
      → Here b.list b.places k → HereIn k (taken W A b e)
  event_here k b (asks (update (announce a l h f p))) c g i w = announce_here b.list b.places a l h f p i k w
  event_here k b (asks (update (withdraw a l f))) c g i w = withdraw_here b.list b.places a l f k c w
  event_here k b (asks (lookup a)) c g i w = w
  event_here k b tick c g i w =
      rw (passes W A b.list b.places, passes_list W A b.list b.places)
      (pass_here 0 k b.list b.places g.sorted i w)
