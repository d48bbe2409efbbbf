-- What is a front stays one, by whatever comes; no penalty passes 12,000. Assumes nothing.
use Rattle.std.specs.Prelude.{◌≡◌, refl, ◌≢◌, Bool, true, false, cond, not, ◌||◌, List, [], ◌∷◌, ℕ, suc, ◌-◌, ◌/◌, ◌%◌, ◌^◌, ◌≤◌}
use Rattle.std.specs.Prelude.{◌<◌, length, ltb, eqb}
use Rattle.std.proofs.Common.{sym, ap, ◌∙◌, ⊎_elim, true≢false, le_refl, arith, ltb-true, ltb-false, eqb-true}
use Rattle.std.proofs.lemmas.Bool.{false≢true, eqb-false}
use Rattle.logic.specs.Cases.{bool, less, same}
use Rattle.logic.specs.Bools.{and_to, not_false, or_false}
use Rattle.routes.specs.Answers.{done, refused, is_done}
use Rattle.candidates.specs.Keyed.{Ordered, put, Every}
use Rattle.candidates.specs.Candidate.{Candidate, place}
use Rattle.candidates.specs.Answers.{Update, announce, withdraw, update, lookup, sound, answer}
use Rattle.rivals.specs.Maps.{weaken, put_ordered, every_put}
use Rattle.rivals.specs.Updates.{Passes, announce_passes, withdraw_passes, sound-target}
use Rattle.front.specs.Place.{Mark, mark, blank, Place, placed, key, marked, has, mark_at, Kept, IsMark, IsPlace, IsFront}
use Rattle.front.specs.Place.{kept_of, kept_hop, most_penalty, most_places, held_over, free_below}
use Rattle.restraint.specs.Places.{choice, mark_case, put_more, put_in_place, has_not}
use Rattle.front.specs.Front.{Event, asks, tick, Both, Step, step, raised, charged, charge, keeping, kept, passed, dropped}
use Rattle.front.specs.Front.{removed, damped, updated, halved, released, spent, halve, let_go, again, due, installs, tried_list}
use Rattle.front.specs.Front.{each, unspent, tries, tick_places, taken, leaves}

-- ---- marks

pub or_right : (b c : Bool) → (b || c) ≡ false → c ≡ false
or_right true c e = absurd (true≢false e)
or_right false c e = e

pub kept_none : Kept 0
kept_none = record { hop = λ h. absurd (omega arith); small = omega arith }

pub charged_is : (m : Mark) → IsMark (charged m)
charged_is m =
    record {
      low = omega arith;
      some = λ e. omega arith;
      calm = λ e. ltb-false held_over (raised m.penalty) (or_right m.back (ltb held_over (raised m.penalty)) e);
      empty = λ e. refl;
      full = λ e k. omega arith;
      sound = kept_none;
    }

pub keeping_is : (m : Mark) (k : ℕ) → IsMark m → m.back ≡ true → 1 ≤ k → Kept k → IsMark (keeping m k)
keeping_is m k o b h s =
    record {
      low = o.low;
      some = λ e. absurd (true≢false (sym b ∙ e));
      calm = λ e. absurd (true≢false (sym b ∙ e));
      empty = λ e. absurd (true≢false (sym b ∙ e));
      full = λ e z. absurd (omega arith);
      sound = s;
    }

let_go_lem : (n : ℕ) → n < free_below → 1 ≤ n → IsMark (mark n false 0)
let_go_lem n h g =
    record {
      low = omega arith;
      some = λ e. g;
      calm = λ e. omega arith;
      empty = λ e. refl;
      full = λ e z. absurd (false≢true e);
      sound = kept_none;
    }

abbrev rest_of : Bool → Mark → Mark
rest_of b m = released (cond b (keeping (halved m) 0) (halved m))

-- a place that is below 750 with nothing kept is let go, or free
rest_low : (n : ℕ) (b : Bool) → n < free_below → spent (mark n b 0) ≡ false → IsMark (mark n false 0)
rest_low n b h e = same n 0 (λ q d. absurd (true≢false (sym (rw d) ∙ e))) (λ q d. let_go_lem n h (omega arith))

rest_is : (b : Bool) (m : Mark) → (b ≡ true → m.penalty / 2 < free_below) → IsMark m → spent (rest_of b m) ≡ false
    → IsMark (rest_of b m)
rest_is true m l o e =
    less (m.penalty / 2) free_below
    (λ h d. rw d (rest_low (m.penalty / 2) false h (rw d at e)))
    (λ h d. absurd (omega (arith, l refl)))
rest_is false m l o e =
    less (m.penalty / 2) free_below
    (λ h d.
    same m.kept 0
    (λ q z. rw (d, z) (rw q (rest_low (m.penalty / 2) false h (rw q at (rw (d, z) at e)))))
    (λ q z. rw (d, z) (record {
      low = omega (arith, o.low);
      some = λ w. absurd (q (o.empty w));
      calm = λ w. omega (arith, o.calm w);
      empty = o.empty;
      full = λ w u. absurd (q u);
      sound = o.sound;
    })))
    (λ h d. rw d (record {
      low = omega (arith, o.low);
      some = λ w. omega arith;
      calm = λ w. omega (arith, o.calm w);
      empty = o.empty;
      full = λ w u. h;
      sound = o.sound;
    }))

-- ---- a tick

-- its last two passes
abbrev settled : List Place → List Place
settled ps = unspent (each let_go ps)

module _ (W A : ℕ) where
  pub installs-low : (cs : List Candidate) (p : Place) → installs W A cs p ≡ true → p.mark.penalty < free_below
  installs-low cs p e =
      ltb-true p.mark.penalty free_below
      (and_to (ltb p.mark.penalty free_below) (not (eqb p.mark.kept 0))
      (and_to (due p) (is_done (answer W A cs (again p))) e).0).0

-- each of the places was tried, whatever the table: it is as it was, or what it kept below 750 is gone
pub record TriedOne (p q : Place) : Type 0 where
  pub gone : Bool
  pub low : gone ≡ true → p.mark.penalty < free_below
  pub left : q ≡ marked p (cond gone (keeping p.mark 0) p.mark)

abbrev pub Tried : List Place → List Place → Type 0
Tried [] [] = Unit {0}
Tried [] (q ∷ qs) = ⊥
Tried (p ∷ ps) [] = ⊥
Tried (p ∷ ps) (q ∷ qs) = TriedOne p q × Tried ps qs

abbrev rests : Place → Bool → Place
rests p b = marked p (rest_of b p.mark)

settled_first : (p : Place) (qs : List Place) (b : Bool) (q : Place)
    → q ≡ marked (halve p) (cond b (keeping (halved p.mark) 0) (halved p.mark))
    → settled (q ∷ qs) ≡ cond (spent (rest_of b p.mark)) (settled qs) (rests p b ∷ settled qs)
settled_first p qs b q e = rw e

module _ (W : ℕ) where
  rest_place : (p : Place) (b : Bool) → (b ≡ true → p.mark.penalty / 2 < free_below) → IsPlace W p
      → spent (rest_of b p.mark) ≡ false → IsPlace W (rests p b)
  rest_place p b l r e =
      record {
        fits = r.fits;
        inside = r.inside;
        clean = r.clean;
        first = r.first;
        last = r.last;
        right = rest_is b p.mark l r.right e;
      }

  settled_ordered : (lo : ℕ) (ps qs : List Place) → Ordered key lo ps → Tried (each halve ps) qs → Ordered key lo (settled qs)
  settled_ordered lo [] [] f t = tt
  settled_ordered lo [] (q ∷ qs) f t = absurd t
  settled_ordered lo (p ∷ ps) [] f t = absurd t
  settled_ordered lo (p ∷ ps) (q ∷ qs) f t =
      let on = settled_ordered (suc (key p)) ps qs f.1 t.1 in
      rw (settled_first p qs t.0.gone q t.0.left)
      (bool (spent (rest_of t.0.gone p.mark))
      (λ e. rw e (weaken key (settled qs) (omega arith) on))
      (λ e. rw e (f.0, on)))

  settled_places : (ps qs : List Place) → Every (IsPlace W) ps → Tried (each halve ps) qs → Every (IsPlace W) (settled qs)
  settled_places [] [] a t = tt
  settled_places [] (q ∷ qs) a t = absurd t
  settled_places (p ∷ ps) [] a t = absurd t
  settled_places (p ∷ ps) (q ∷ qs) a t =
      rw (settled_first p qs t.0.gone q t.0.left)
      (bool (spent (rest_of t.0.gone p.mark))
      (λ e. rw e (settled_places ps qs a.1 t.1))
      (λ e. rw e (rest_place p t.0.gone t.0.low a.0 e, settled_places ps qs a.1 t.1)))

  settled_few : (ps qs : List Place) → Tried (each halve ps) qs → length (settled qs) ≤ length ps
  settled_few [] [] t = le_refl 0
  settled_few [] (q ∷ qs) t = absurd t
  settled_few (p ∷ ps) [] t = absurd t
  settled_few (p ∷ ps) (q ∷ qs) t =
      rw (settled_first p qs t.0.gone q t.0.left)
      (bool (spent (rest_of t.0.gone p.mark))
      (λ e. rw e (omega (arith, settled_few ps qs t.1)))
      (λ e. rw e (omega (arith, settled_few ps qs t.1))))

  pub settled_keeps : (ps qs : List Place) → IsFront W ps → Tried (each halve ps) qs → IsFront W (settled qs)
  settled_keeps ps qs i t =
      record {
        sorted = settled_ordered 0 ps qs i.sorted t;
        places = settled_places ps qs i.places t;
        few = omega (arith, settled_few ps qs t, i.few);
      }

module _ (W A : ℕ) where
  pub tries-tried : (cs : List Candidate) (ps : List Place) → Tried ps (tries W A cs ps)
  tries-tried cs [] = tt
  tries-tried cs (p ∷ ps) =
      (record { gone = installs W A cs p; low = installs-low W A cs p; left = refl }, tries-tried (tried_list W A cs p) ps)

  pub tick_keeps : (cs : List Candidate) (ps : List Place) → IsFront W ps → IsFront W (tick_places W A cs ps)
  tick_keeps cs ps i = settled_keeps W ps (tries W A cs (each halve ps)) i (tries-tried cs (each halve ps))

-- ---- updates

-- what an update without a fault is
pub record Sound (W a l h f : ℕ) : Type 0 where
  pub fits : l ≤ W
  pub clean : a % 2 ^ (W - l) ≡ 0
  pub some : 1 ≤ h
  pub low : h ≤ 65535
  pub first : 1 ≤ f
  pub last : f ≤ 4

clean_of : (W a l f : ℕ) → Passes W l a f → a % 2 ^ (W - l) ≡ 0
clean_of W a l f x = eqb-true (a % 2 ^ (W - l)) 0 (not_false (eqb (a % 2 ^ (W - l)) 0) x.clean)

pub announce_sound : (W a l h f p : ℕ) → sound W (announce a l h f p) ≡ true → Sound W a l h f
announce_sound W a l h f p e =
    let x = announce_passes W a l h f p e in
    let t = sound-target W (announce a l h f p) e in
    let z : h ≢ 0 = eqb-false h 0 (or_false (eqb h 0) (ltb 65535 h) x.1) in
    record {
      fits = t.0;
      clean = clean_of W a l f x.0;
      some = omega arith;
      low = ltb-false 65535 h (or_right (eqb h 0) (ltb 65535 h) x.1);
      first = t.1;
      last = t.2;
    }

pub withdraw_sound : (W a l f : ℕ) → sound W (withdraw a l f) ≡ true → Sound W a l 1 f
withdraw_sound W a l f e =
    let t = sound-target W (withdraw a l f) e in
    record {
      fits = t.0;
      clean = clean_of W a l f (withdraw_passes W a l f e);
      some = omega arith;
      low = omega arith;
      first = t.1;
      last = t.2;
    }

-- the numbers of what is sent, as their types have them
abbrev pub Typed : ℕ → Event → Type 0
Typed W (asks (update (announce a l h f p))) = (a < 2 ^ W) × (p < 256)
Typed W (asks (update (withdraw a l f))) = a < 2 ^ W
Typed W (asks (lookup a)) = Unit {0}
Typed W tick = Unit {0}

abbrev pub AllTyped : ℕ → List Event → Type 0
AllTyped W [] = Unit {0}
AllTyped W (e ∷ es) = Typed W e × AllTyped W es

kept_what : (p h : ℕ) → p < 256 → 1 ≤ h → h ≤ 65535 → Kept (kept_of p h)
kept_what p h b s l =
    let e : kept_of p h % 65536 ≡ h = omega arith in
    record { hop = λ _. rw e s; small = omega arith }

pub back_is : (W : ℕ) (ps : List Place) (k : ℕ) → IsFront W ps → (mark_at ps k).back ≡ true → IsMark (mark_at ps k)
back_is W ps k q b =
    ⊎_elim (λ (o : IsMark (mark_at ps k)). o)
    (λ (e : mark_at ps k ≡ blank). absurd (false≢true (sym (ap (λ (m : Mark). m.back) e) ∙ b)))
    (mark_case (IsPlace W) IsMark (λ r w. w.right) ps k q.places)

pub back_has : (ps : List Place) (k : ℕ) → (mark_at ps k).back ≡ true → has ps k ≡ true
back_has ps k b =
    bool (has ps k) (λ e. e) (λ e. absurd (false≢true (sym (ap (λ (m : Mark). m.back) (has_not ps k e)) ∙ b)))

module _ (W a l h f : ℕ) (g : Sound W a l h f) (i : a < 2 ^ W) (ps : List Place) (q : IsFront W ps) where
  -- a mark put at the candidate
  put_keeps : (m : Mark) → IsMark m → length (put key (placed a l f m) ps) ≤ most_places → IsFront W (put key (placed a l f m) ps)
  put_keeps m o n =
      record {
        sorted = put_ordered key 0 (placed a l f m) ps (omega arith) q.sorted;
        places = every_put key (IsPlace W) (placed a l f m) ps (record {
          fits = g.fits;
          inside = i;
          clean = g.clean;
          first = g.first;
          last = g.last;
          right = o;
        }) q.places;
        few = n;
      }

  pub charge_keeps : IsFront W (charge a l f ps)
  charge_keeps =
      let o : IsMark (charged (mark_at ps (place a l f))) = charged_is (mark_at ps (place a l f)) in
      bool (has ps (place a l f))
      (λ e. rw e (put_keeps (charged (mark_at ps (place a l f))) o
      (rw (put_in_place 0 (placed a l f (charged (mark_at ps (place a l f)))) ps q.sorted e) q.few)))
      (λ e. rw e (less (length ps) most_places
      (λ w d. rw d (put_keeps (charged (mark_at ps (place a l f))) o
      (omega (arith, put_more (placed a l f (charged (mark_at ps (place a l f)))) ps))))
      (λ w d. rw d q)))

  pub kept_keeps : (p : ℕ) → p < 256 → (mark_at ps (place a l f)).back ≡ true
      → IsFront W (put key (placed a l f (keeping (mark_at ps (place a l f)) (kept_of p h))) ps)
  kept_keeps p v b =
      put_keeps (keeping (mark_at ps (place a l f)) (kept_of p h))
      (keeping_is (mark_at ps (place a l f)) (kept_of p h) (back_is W ps (place a l f) q b) b (omega (arith, g.some))
      (kept_what p h v g.some g.low))
      (rw (put_in_place 0 (placed a l f (keeping (mark_at ps (place a l f)) (kept_of p h))) ps q.sorted
      (back_has ps (place a l f) b)) q.few)

-- ---- whatever comes

module _ (W A : ℕ) where
  abbrev Keeps : Step → Type 0
  Keeps t = IsFront W t.left.places

  pub update_keeps : (cs : List Candidate) (ps : List Place) (u : Update) → Typed W (asks (update u)) → IsFront W ps
      → IsFront W (updated W A cs ps u).left.places
  update_keeps cs ps (announce a l h f p) i q =
      choice Keeps (sound W (announce a l h f p)) (damped W A cs ps (announce a l h f p)) (passed W A cs ps (announce a l h f p))
      (λ s.
      choice Keeps (mark_at ps (place a l f)).back (kept W A cs ps a l h f p) (passed W A cs ps (announce a l h f p))
      (λ b. kept_keeps W a l h f (announce_sound W a l h f p s) i.0 ps q p i.1 b)
      (λ b. q))
      (λ s. q)
  update_keeps cs ps (withdraw a l f) i q =
      choice Keeps (sound W (withdraw a l f)) (damped W A cs ps (withdraw a l f)) (passed W A cs ps (withdraw a l f))
      (λ s.
      (let charges : IsFront W (charge a l f ps) = charge_keeps W a l 1 f (withdraw_sound W a l f s) i ps q in
      choice Keeps (mark_at ps (place a l f)).back (dropped W A cs ps a l f (mark_at ps (place a l f)).kept)
      (removed W A cs ps a l f)
      (λ b.
      choice Keeps (eqb (mark_at ps (place a l f)).kept 0) (step (refused 7) cs ps)
      (step (done (kept_hop (mark_at ps (place a l f)).kept) 0) cs (charge a l f ps))
      (λ k. q) (λ k. charges))
      (λ b. choice (IsFront W) (is_done (answer W A cs (withdraw a l f))) (charge a l f ps) ps (λ d. charges) (λ d. q))))
      (λ s. q)

  pub event_keeps : (b : Both) (e : Event) → Typed W e → IsFront W b.places → IsFront W (taken W A b e).left.places
  event_keeps b (asks (update u)) i q = update_keeps b.list b.places u i q
  event_keeps b (asks (lookup a)) i q = q
  event_keeps b tick i q = tick_keeps W A b.list b.places q

  pub front_keeps : (b : Both) (es : List Event) → AllTyped W es → IsFront W b.places → IsFront W (leaves W A b es).places
  front_keeps b [] i q = q
  front_keeps b (e ∷ es) i q = front_keeps (taken W A b e).left es i.1 (event_keeps b e i.0 q)

-- a cleared front is one
pub cleared : (W : ℕ) → IsFront W []
cleared W = record { sorted = tt; places = tt; few = omega arith }

-- no penalty passes 12,000
pub penalty_low : (W : ℕ) (ps : List Place) (k : ℕ) → IsFront W ps → (mark_at ps k).penalty ≤ most_penalty
penalty_low W ps k q =
    ⊎_elim (λ (o : IsMark (mark_at ps k)). o.low) (λ (e : mark_at ps k ≡ blank). rw e (omega arith))
    (mark_case (IsPlace W) IsMark (λ r w. w.right) ps k q.places)
