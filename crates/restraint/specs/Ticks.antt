-- A candidate that is not withdrawn again is let go within five ticks if there is room for it, from any front and whatever
-- becomes of others: no update but its own withdrawals raises its penalty, and each tick halves it. Assumes nothing.
--
--     12000 ── 6000 ── 3000 ── 1500 ── 750 ── 375
use Rattle.std.specs.Prelude.{◌≡◌, refl, ◌≢◌, true, false, ◌&&◌, ◌||◌, List, [], ◌∷◌, ℕ, zero, suc, ◌/◌, ◌≤◌, ◌<◌, length, ltb}
use Rattle.std.specs.Prelude.{eqb}
use Rattle.std.proofs.Common.{sym, ◌∙◌, true≢false, arith, lt-ltb, eq-eqb}
use Rattle.logic.specs.Cases.{bool, same}
use Rattle.routes.specs.Answers.{done, refused, is_done}
use Rattle.candidates.specs.Keyed.{put, Every}
use Rattle.candidates.specs.Candidate.{Candidate, place}
use Rattle.candidates.specs.Answers.{Update, announce, withdraw, update, lookup, sound, answer}
use Rattle.rivals.specs.Maps.{every_put, every_map}
use Rattle.front.specs.Place.{Mark, mark, blank, Place, placed, key, marked, has, mark_at, backs, IsPlace, IsFront, kept_of}
use Rattle.front.specs.Place.{kept_hop, most_places, most_penalty, free_below}
use Rattle.restraint.specs.Places.{choice}
use Rattle.front.specs.Front.{Event, asks, tick, Both, Step, step, charged, charge, keeping, kept, passed, dropped, removed}
use Rattle.front.specs.Front.{damped, updated, halved, released, spent, halve, again, due, installs, tried, tick_places, taken}
use Rattle.front.specs.Front.{leaves}
use Rattle.restraint.specs.Passes.{rest, list_past, one_pass, passes}

-- ---- no withdrawal of a candidate, and room for it

-- no withdrawal of the candidate k
abbrev pub Spares : ℕ → Event → Type 0
Spares k (asks (update (announce a l h f p))) = Unit {0}
Spares k (asks (update (withdraw a l f))) = place a l f ≢ k
Spares k (asks (lookup a)) = Unit {0}
Spares k tick = Unit {0}

abbrev pub AllSpare : ℕ → List Event → Type 0
AllSpare k [] = Unit {0}
AllSpare k (e ∷ es) = Spares k e × AllSpare k es

-- no withdrawal at all
abbrev pub Calm : Event → Type 0
Calm (asks (update (announce a l h f p))) = Unit {0}
Calm (asks (update (withdraw a l f))) = ⊥
Calm (asks (lookup a)) = Unit {0}
Calm tick = Unit {0}

abbrev pub AllCalm : List Event → Type 0
AllCalm [] = Unit {0}
AllCalm (e ∷ es) = Calm e × AllCalm es

calm_one : (k : ℕ) (e : Event) → Calm e → Spares k e
calm_one k (asks (update (announce a l h f p))) c = tt
calm_one k (asks (update (withdraw a l f))) c = absurd c
calm_one k (asks (lookup a)) c = tt
calm_one k tick c = tt

pub calm_spares : (k : ℕ) (es : List Event) → AllCalm es → AllSpare k es
calm_spares k [] c = tt
calm_spares k (e ∷ es) c = (calm_one k e c.0, calm_spares k es c.1)

abbrev pub ticks_in : List Event → ℕ
ticks_in [] = 0
ticks_in (asks r ∷ es) = ticks_in es
ticks_in (tick ∷ es) = suc (ticks_in es)

module _ (W A : ℕ) where
  -- a tick that tries the candidate k finds room for it, in its turn
  abbrev pub RoomFor : ℕ → List Candidate → List Place → Type 0
  RoomFor k cs [] = Unit {0}
  RoomFor k cs (p ∷ ps) =
      (key p ≡ k → due (halve p) ≡ true → is_done (answer W A cs (again p)) ≡ true) × RoomFor k (list_past W A cs p) ps

  abbrev pub RoomAt : ℕ → Both → Event → Type 0
  RoomAt k b (asks r) = Unit {0}
  RoomAt k b tick = RoomFor k b.list b.places

  abbrev pub AllRoomFor : ℕ → Both → List Event → Type 0
  AllRoomFor k b [] = Unit {0}
  AllRoomFor k b (e ∷ es) = RoomAt k b e × AllRoomFor k (taken W A b e).left es

  -- each tick finds room for each that it tries
  abbrev pub AllRoom : Both → List Event → Type 0
  AllRoom b es = (k : ℕ) → AllRoomFor k b es

-- ---- penalties fall

-- of the candidate k the penalty is at most n
pub record Under (k n : ℕ) (p : Place) : Type 0 where
  pub under : key p ≡ k → p.mark.penalty ≤ n

-- not held back, and nothing kept
pub record Free (p : Place) : Type 0 where
  pub go : p.mark.back ≡ false
  pub empty : p.mark.kept ≡ 0

-- if it is the candidate k
pub record FreeAt (k : ℕ) (p : Place) : Type 0 where
  pub free : key p ≡ k → Free p

abbrev pub halves : ℕ → ℕ → ℕ
halves zero n = n
halves (suc t) n = halves t (n / 2)

released_penalty : (m : Mark) → (released m).penalty ≡ m.penalty
released_penalty m =
    choice (λ (x : Mark). x.penalty ≡ m.penalty) (ltb m.penalty free_below && eqb m.kept 0)
    (mark m.penalty false m.kept) m (λ _. refl) (λ _. refl)

released_free : (m : Mark) → m.penalty < free_below → m.kept ≡ 0 → ((released m).back ≡ false) × ((released m).kept ≡ 0)
released_free m h e = rw (lt-ltb m.penalty free_below h, eq-eqb m.kept 0 e) (refl, e)

module _ (W A : ℕ) where
  tried_penalty : (cs : List Candidate) (p : Place) → (tried W A cs p).mark.penalty ≡ p.mark.penalty
  tried_penalty cs p =
      choice (λ (x : Mark). x.penalty ≡ p.mark.penalty) (installs W A cs p) (keeping p.mark 0) p.mark
      (λ _. refl) (λ _. refl)

  pub rest_penalty : (cs : List Candidate) (p : Place) → (rest W A cs p).penalty ≡ p.mark.penalty / 2
  rest_penalty cs p = released_penalty (tried W A cs (halve p)).mark ∙ tried_penalty cs (halve p)

  pass_under : (k n : ℕ) (cs : List Candidate) (ps : List Place) → Every (Under k n) ps
      → Every (Under k (n / 2)) (one_pass W A cs ps)
  pass_under k n cs [] a = tt
  pass_under k n cs (p ∷ ps) a =
      let on : Every (Under k (n / 2)) (one_pass W A (list_past W A cs p) ps) = pass_under k n (list_past W A cs p) ps a.1 in
      bool (spent (rest W A cs p))
      (λ e. rw e on)
      (λ e. rw e (record { under = λ q. omega (arith, rest_penalty cs p, a.0.under q) }, on))

  -- ---- the tick that leaves it below 750

  tried_empty : (cs : List Candidate) (p : Place) → p.mark.penalty < free_below
      → (due p ≡ true → is_done (answer W A cs (again p)) ≡ true) → (tried W A cs p).mark.kept ≡ 0
  tried_empty cs p h r =
      same p.mark.kept 0
      (λ e d.
      choice (λ (x : Mark). x.kept ≡ 0) (installs W A cs p) (keeping p.mark 0) p.mark (λ _. refl) (λ _. e))
      (λ n d. let t : due p ≡ true = rw (lt-ltb p.mark.penalty free_below h, d) in rw (t, r t))

  rest_free : (cs : List Candidate) (p : Place) → p.mark.penalty / 2 < free_below
      → (due (halve p) ≡ true → is_done (answer W A cs (again p)) ≡ true) → Free (marked p (rest W A cs p))
  rest_free cs p h r =
      let w =
      released_free (tried W A cs (halve p)).mark (omega (arith, tried_penalty cs (halve p))) (tried_empty cs (halve p) h r) in
      record { go = w.0; empty = w.1 }

  pass_free : (k n : ℕ) (cs : List Candidate) (ps : List Place) → n / 2 < free_below → Every (Under k n) ps → RoomFor W A k cs ps
      → Every (FreeAt k) (one_pass W A cs ps)
  pass_free k n cs [] h a r = tt
  pass_free k n cs (p ∷ ps) h a r =
      let on : Every (FreeAt k) (one_pass W A (list_past W A cs p) ps) = pass_free k n (list_past W A cs p) ps h a.1 r.1 in
      bool (spent (rest W A cs p))
      (λ e. rw e on)
      (λ e. rw e (record { free = λ q. rest_free cs p (omega (arith, a.0.under q)) (r.0 q) }, on))

  -- ---- what is let go stays so

  rest_stays : (cs : List Candidate) (p : Place) → Free p → Free (marked p (rest W A cs p))
  rest_stays cs p f =
      let m = (tried W A cs (halve p)).mark in
      let k : (tried W A cs (halve p)).mark.kept ≡ 0 =
      choice (λ (x : Mark). x.kept ≡ 0) (installs W A cs (halve p)) (keeping (halved p.mark) 0) (halved p.mark)
      (λ _. refl) (λ _. f.empty) in
      let b : (tried W A cs (halve p)).mark.back ≡ false =
      choice (λ (x : Mark). x.back ≡ false) (installs W A cs (halve p)) (keeping (halved p.mark) 0) (halved p.mark)
      (λ _. f.go) (λ _. f.go) in
      record {
        go = choice (λ (x : Mark). x.back ≡ false) (ltb m.penalty free_below && eqb m.kept 0)
            (mark m.penalty false m.kept) m (λ _. refl) (λ _. b);
        empty = choice (λ (x : Mark). x.kept ≡ 0) (ltb m.penalty free_below && eqb m.kept 0)
            (mark m.penalty false m.kept) m (λ _. k) (λ _. k);
      }

  pass_stays : (k : ℕ) (cs : List Candidate) (ps : List Place) → Every (FreeAt k) ps → Every (FreeAt k) (one_pass W A cs ps)
  pass_stays k cs [] a = tt
  pass_stays k cs (p ∷ ps) a =
      bool (spent (rest W A cs p))
      (λ e. rw e (pass_stays k (list_past W A cs p) ps a.1))
      (λ e. rw e (record { free = λ q. rest_stays cs p (a.0.free q) }, pass_stays k (list_past W A cs p) ps a.1))

-- ---- updates, but a withdrawal of the candidate

-- what holds of its place holds of its mark
mark_at_lem : (k : ℕ) (P : Place → Type 0) (Q : Mark → Type 0) → ((p : Place) → key p ≡ k → P p → Q p.mark) → Q blank
    → (ps : List Place) → Every P ps → Q (mark_at ps k)
mark_at_lem k P Q f z [] a = z
mark_at_lem k P Q f z (p ∷ ps) a =
    same (key p) k (λ e d. rw d (f p e a.0)) (λ n d. rw d (mark_at_lem k P Q f z ps a.1))

pub mark_free : (ps : List Place) (k : ℕ) → Every (FreeAt k) ps → ((mark_at ps k).back ≡ false) × ((mark_at ps k).kept ≡ 0)
mark_free ps k a =
    mark_at_lem k (FreeAt k) (λ m. (m.back ≡ false) × (m.kept ≡ 0)) (λ p e u. ((u.free e).go, (u.free e).empty)) (refl, refl) ps a

module _ (k : ℕ) (P : Place → Type 0) (other : (p : Place) → key p ≢ k → P p) where
  charge_spares : (a l f : ℕ) (ps : List Place) → place a l f ≢ k → Every P ps → Every P (charge a l f ps)
  charge_spares a l f ps n u =
      choice (Every P) (has ps (place a l f) || ltb (length ps) most_places)
      (put key (placed a l f (charged (mark_at ps (place a l f)))) ps) ps
      (λ _. every_put key P (placed a l f (charged (mark_at ps (place a l f)))) ps (other _ n) u) (λ _. u)

  module _ (W A : ℕ) (cs : List Candidate) (ps : List Place) (u : Every P ps) where
    abbrev Has : Step → Type 0
    Has t = Every P t.left.places

    withdraw_spares : (a l f : ℕ) → place a l f ≢ k → Has (updated W A cs ps (withdraw a l f))
    withdraw_spares a l f n =
        let c : Every P (charge a l f ps) = charge_spares a l f ps n u in
        choice Has (sound W (withdraw a l f)) (damped W A cs ps (withdraw a l f)) (passed W A cs ps (withdraw a l f))
        (λ _.
        choice Has (mark_at ps (place a l f)).back (dropped W A cs ps a l f (mark_at ps (place a l f)).kept)
        (removed W A cs ps a l f)
        (λ _.
        choice Has (eqb (mark_at ps (place a l f)).kept 0) (step (refused 7) cs ps)
        (step (done (kept_hop (mark_at ps (place a l f)).kept) 0) cs (charge a l f ps))
        (λ _. u) (λ _. c))
        (λ _. choice (Every P) (is_done (answer W A cs (withdraw a l f))) (charge a l f ps) ps (λ _. c) (λ _. u)))
        (λ _. u)

    -- kept where the candidate is held back: then the mark is the one that it has with something else kept
    announce_spares : (a l h f p : ℕ) → ((place a l f ≡ k) → (mark_at ps k).back ≡ true
        → P (placed a l f (keeping (mark_at ps k) (kept_of p h)))) → Has (updated W A cs ps (announce a l h f p))
    announce_spares a l h f p mine =
        choice Has (sound W (announce a l h f p)) (damped W A cs ps (announce a l h f p)) (passed W A cs ps (announce a l h f p))
        (λ _.
        choice Has (mark_at ps (place a l f)).back (kept W A cs ps a l h f p) (passed W A cs ps (announce a l h f p))
        (λ b. every_put key P (placed a l f (keeping (mark_at ps (place a l f)) (kept_of p h))) ps
        (same (place a l f) k (λ e _. rw e (mine e (rw e at b))) (λ n _. other _ n)) u)
        (λ _. u))
        (λ _. u)

module _ (W A k : ℕ) (b : Both) where
  -- no update but its withdrawal raises the penalty
  pub spared_under : (n : ℕ) (u : Update) → Spares k (asks (update u)) → Every (Under k n) b.places
      → Every (Under k n) (updated W A b.list b.places u).left.places
  spared_under n (announce a l h f p) s u =
      announce_spares k (Under k n) (λ p d. record { under = λ e. absurd (d e) }) W A b.list b.places u a l h f p
      (λ _ _. record {
        under = λ _. mark_at_lem k (Under k n) (λ m. m.penalty ≤ n) (λ p e v. v.under e) (omega arith) b.places u;
      })
  spared_under n (withdraw a l f) s u =
      withdraw_spares k (Under k n) (λ p d. record { under = λ e. absurd (d e) }) W A b.list b.places u a l f s

  -- or holds back what was let go
  pub spared_free : (u : Update) → Spares k (asks (update u)) → Every (FreeAt k) b.places
      → Every (FreeAt k) (updated W A b.list b.places u).left.places
  spared_free (announce a l h f p) s u =
      announce_spares k (FreeAt k) (λ p d. record { free = λ e. absurd (d e) }) W A b.list b.places u a l h f p
      (λ _ c. absurd (true≢false (sym c ∙ (mark_free b.places k u).0)))
  spared_free (withdraw a l f) s u =
      withdraw_spares k (FreeAt k) (λ p d. record { free = λ e. absurd (d e) }) W A b.list b.places u a l f s

-- ---- one after the other

module _ (W A : ℕ) where
  pub tick_under : (k n : ℕ) (cs : List Candidate) (ps : List Place) → Every (Under k n) ps
      → Every (Under k (n / 2)) (tick_places W A cs ps)
  tick_under k n cs ps a = rw (passes W A cs ps) (pass_under W A k n cs ps a)

  pub tick_free : (k n : ℕ) (cs : List Candidate) (ps : List Place) → n / 2 < free_below → Every (Under k n) ps
      → RoomFor W A k cs ps
      → Every (FreeAt k) (tick_places W A cs ps)
  tick_free k n cs ps h a r = rw (passes W A cs ps) (pass_free W A k n cs ps h a r)

  pub tick_stays : (k : ℕ) (cs : List Candidate) (ps : List Place) → Every (FreeAt k) ps
      → Every (FreeAt k) (tick_places W A cs ps)
  tick_stays k cs ps a = rw (passes W A cs ps) (pass_stays W A k cs ps a)

pub none_back : (ps : List Place) → Every Free ps → backs ps ≡ 0
none_back [] a = refl
none_back (p ∷ ps) a = rw a.0.go (none_back ps a.1)

-- four are not always enough: 12,000 comes to 750, which is not below 750
pub not_four : halves 4 most_penalty ≡ free_below
not_four = refl
