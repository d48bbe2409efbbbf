-- Through a front that starts cleared, a candidate that is held back is not in the table. Assumes nothing.
use Rattle.std.specs.Prelude.{◌≡◌, refl, ◌≢◌, Bool, true, false, ◌&&◌, ◌||◌, List, [], ◌∷◌, ℕ, suc, ◌/◌, ◌<◌, length, ltb, eqb}
use Rattle.std.proofs.Common.{sym, ap, ◌∙◌, true≢false, le_refl, arith, lt-ltb}
use Rattle.std.proofs.lemmas.Bool.{false≢true}
use Rattle.std.proofs.Math.Option.{none}
use Rattle.logic.specs.Cases.{bool, same}
use Rattle.routes.specs.Answers.{done, refused, is_done}
use Rattle.candidates.specs.Keyed.{Ordered, find, put, Every}
use Rattle.candidates.specs.Candidate.{Candidate, place}
use Rattle.candidates.specs.Candidate as candidate
use Rattle.candidates.specs.Answers.{Update, announce, withdraw, update, lookup, sound, answer, after}
use Rattle.rivals.specs.Maps.{every_put}
use Rattle.rivals.specs.Updates.{at, after_other, after_same, after_ordered, unsound_after}
use Rattle.front.specs.Place.{Mark, mark, Place, placed, key, marked, has, mark_at, IsFront, kept_of, kept_hop, most_places}
use Rattle.front.specs.Place.{free_below}
use Rattle.restraint.specs.Places.{choice, mark-below}
use Rattle.front.specs.Front.{Event, asks, tick, Both, both, Step, step, charged, charge, keeping, kept, passed, dropped}
use Rattle.front.specs.Front.{removed, damped, updated, halved, released, spent, halve, again, installs, tried_list}
use Rattle.front.specs.Front.{taken, leaves}
use Rattle.restraint.specs.Passes.{rest, list_past, one_pass, one_list, passes, passes_list}
use Rattle.restraint.specs.Keeps.{installs-low, AllTyped, event_keeps, cleared}

-- the table does not hold the candidate k
abbrev pub Lacks : List Candidate → ℕ → Type 0
Lacks cs k = find candidate.key cs k ≡ none

abbrev pub InOrder : List Candidate → Type 0
InOrder cs = Ordered candidate.key 0 cs

-- if it is held back it is not in the table
pub record Out (cs : List Candidate) (p : Place) : Type 0 where
  pub out : p.mark.back ≡ true → Lacks cs (key p)

released_back : (m : Mark) → (released m).back ≡ true → m.back ≡ true
released_back m =
    choice (λ (x : Mark). x.back ≡ true → m.back ≡ true) (ltb m.penalty free_below && eqb m.kept 0)
    (mark m.penalty false m.kept) m
    (λ _ e. absurd (false≢true e)) (λ _ e. e)

released-low : (n : ℕ) (b : Bool) → n < free_below → (released (mark n b 0)).back ≡ false
released-low n b h = rw (lt-ltb n free_below h)

out_at : (cs : List Candidate) (ps : List Place) (k : ℕ) → Every (Out cs) ps → (mark_at ps k).back ≡ true → Lacks cs k
out_at cs [] k a e = absurd (false≢true e)
out_at cs (p ∷ ps) k a e =
    same (key p) k (λ q d. rw (← q) (a.0.out (rw d at e))) (λ n d. out_at cs ps k a.1 (rw d at e))

-- two lists hold the same but at k
abbrev pub AlikeBut : ℕ → List Candidate → List Candidate → Type 0
AlikeBut k cs ds = (j : ℕ) → k ≢ j → find candidate.key ds j ≡ find candidate.key cs j

-- a step of the table at a candidate that is not held back
moves : (cs ds : List Candidate) (k lo : ℕ) → AlikeBut k cs ds → (ps : List Place) → Ordered key lo ps
    → (mark_at ps k).back ≡ false → Every (Out cs) ps → Every (Out ds) ps
moves cs ds k lo h [] f e a = tt
moves cs ds k lo h (p ∷ ps) f e a =
    same (key p) k
    (λ q d. (
      record { out = λ b. absurd (true≢false (sym b ∙ (rw d at e))) },
      moves cs ds k (suc (key p)) h ps f.1
          (ap (λ (m : Mark). m.back) (mark-below (suc (key p)) k ps f.1 (omega arith))) a.1,
    ))
    (λ n d. (
      record { out = λ b. h (key p) (λ q. n (sym q)) ∙ a.0.out b },
      moves cs ds k (suc (key p)) h ps f.1 (rw d at e) a.1,
    ))

module _ (W A : ℕ) where
  -- ---- a tick

  pub tried_ordered : (cs : List Candidate) (p : Place) → InOrder cs → InOrder (tried_list W A cs p)
  tried_ordered cs p i =
      choice InOrder (installs W A cs p) (after W A cs (again p)) cs (λ _. after_ordered W A cs (again p) i) (λ _. i)

  pub tried_other : (cs : List Candidate) (p : Place) → AlikeBut (key p) cs (tried_list W A cs p)
  tried_other cs p j n =
      choice (λ (ds : List Candidate). find candidate.key ds j ≡ find candidate.key cs j) (installs W A cs p)
      (after W A cs (again p)) cs (λ _. after_other W A cs (again p) j n) (λ _. refl)

  pub one_ordered : (cs : List Candidate) (ps : List Place) → InOrder cs → InOrder (one_list W A cs ps)
  one_ordered cs [] i = i
  one_ordered cs (p ∷ ps) i = one_ordered (list_past W A cs p) ps (tried_ordered cs (halve p) i)

  pub one_other : (lo : ℕ) (cs : List Candidate) (ps : List Place) → Ordered key lo ps → (j : ℕ) → j < lo
      → find candidate.key (one_list W A cs ps) j ≡ find candidate.key cs j
  one_other lo cs [] f j h = refl
  one_other lo cs (p ∷ ps) f j h =
      one_other (suc (key p)) (list_past W A cs p) ps f.1 j (omega arith) ∙ tried_other cs (halve p) j (omega arith)

  -- one that is still held back after its turn was so before, and was not installed
  rest_out : (cs : List Candidate) (p : Place) → Out cs p → (rest W A cs p).back ≡ true → Lacks (list_past W A cs p) (key p)
  rest_out cs p o e =
      bool (installs W A cs (halve p))
      (λ b. absurd (false≢true (sym (released-low (p.mark.penalty / 2) p.mark.back (installs-low W A cs (halve p) b))
      ∙ (rw b at e))))
      (λ b. rw b (o.out (released_back (halved p.mark) (rw b at e))))

  pass_out : (lo : ℕ) (cs : List Candidate) (ps : List Place) → Ordered key lo ps → Every (Out cs) ps
      → Every (Out (one_list W A cs ps)) (one_pass W A cs ps)
  pass_out lo cs [] f a = tt
  pass_out lo cs (p ∷ ps) f a =
      let on : Every (Out (one_list W A (list_past W A cs p) ps)) (one_pass W A (list_past W A cs p) ps) =
      pass_out (suc (key p)) (list_past W A cs p) ps f.1
      (moves cs (list_past W A cs p) (key p) (suc (key p)) (tried_other cs (halve p)) ps f.1
      (ap (λ (m : Mark). m.back) (mark-below (suc (key p)) (key p) ps f.1 (le_refl (suc (key p))))) a.1) in
      choice (Every (Out (one_list W A (list_past W A cs p) ps))) (spent (rest W A cs p))
      (one_pass W A (list_past W A cs p) ps) (marked p (rest W A cs p) ∷ one_pass W A (list_past W A cs p) ps)
      (λ _. on)
      (λ _. (
        record {
          out = λ b.
              one_other (suc (key p)) (list_past W A cs p) ps f.1 (key p) (le_refl (suc (key p))) ∙ rest_out cs p a.0 b;
        },
        on,
      ))

  -- ---- updates

  charge_out : (cs : List Candidate) (a l f : ℕ) (ps : List Place) → Lacks cs (place a l f) → Every (Out cs) ps
      → Every (Out cs) (charge a l f ps)
  charge_out cs a l f ps h q =
      choice (Every (Out cs)) (has ps (place a l f) || ltb (length ps) most_places)
      (put key (placed a l f (charged (mark_at ps (place a l f)))) ps) ps
      (λ _. every_put key (Out cs) (placed a l f (charged (mark_at ps (place a l f)))) ps (record { out = λ _. h }) q)
      (λ _. q)

  abbrev AllOut : Step → Type 0
  AllOut t = Every (Out t.left.list) t.left.places

  -- what passes to the table where the candidate is not held back
  passed_out : (cs : List Candidate) (ps : List Place) (u : Update) → Ordered key 0 ps → Every (Out cs) ps
      → (mark_at ps (at u)).back ≡ false → Every (Out (after W A cs u)) ps
  passed_out cs ps u o q b = moves cs (after W A cs u) (at u) 0 (λ j n. after_other W A cs u j n) ps o b q

  pub gone : (cs : List Candidate) (a l f : ℕ) → InOrder cs → is_done (answer W A cs (withdraw a l f)) ≡ true
      → Lacks (after W A cs (withdraw a l f)) (place a l f)
  gone cs a l f i d = after_same W A cs (withdraw a l f) i ∙ rw d

  pub update_out : (cs : List Candidate) (ps : List Place) (u : Update) → Ordered key 0 ps → InOrder cs → Every (Out cs) ps
      → AllOut (updated W A cs ps u)
  update_out cs ps (announce a l h f p) o i q =
      choice AllOut (sound W (announce a l h f p)) (damped W A cs ps (announce a l h f p)) (passed W A cs ps (announce a l h f p))
      (λ _.
      choice AllOut (mark_at ps (place a l f)).back (kept W A cs ps a l h f p) (passed W A cs ps (announce a l h f p))
      (λ b. every_put key (Out cs) (placed a l f (keeping (mark_at ps (place a l f)) (kept_of p h))) ps
      (record { out = λ _. out_at cs ps (place a l f) q b }) q)
      (λ b. passed_out cs ps (announce a l h f p) o q b))
      (λ s. rw (unsound_after W A cs (announce a l h f p) s) q)
  update_out cs ps (withdraw a l f) o i q =
      choice AllOut (sound W (withdraw a l f)) (damped W A cs ps (withdraw a l f)) (passed W A cs ps (withdraw a l f))
      (λ _.
      choice AllOut (mark_at ps (place a l f)).back (dropped W A cs ps a l f (mark_at ps (place a l f)).kept)
      (removed W A cs ps a l f)
      (λ b.
      choice AllOut (eqb (mark_at ps (place a l f)).kept 0) (step (refused 7) cs ps)
      (step (done (kept_hop (mark_at ps (place a l f)).kept) 0) cs (charge a l f ps))
      (λ _. q) (λ _. charge_out cs a l f ps (out_at cs ps (place a l f) q b) q))
      (λ b.
      (let m : Every (Out (after W A cs (withdraw a l f))) ps = passed_out cs ps (withdraw a l f) o q b in
      choice (Every (Out (after W A cs (withdraw a l f)))) (is_done (answer W A cs (withdraw a l f))) (charge a l f ps) ps
      (λ d. charge_out (after W A cs (withdraw a l f)) a l f ps (gone cs a l f i d) m) (λ _. m))))
      (λ s. rw (unsound_after W A cs (withdraw a l f) s) q)

  -- ---- whatever comes

  abbrev ListInOrder : Step → Type 0
  ListInOrder t = InOrder t.left.list

  pub update_ordered : (cs : List Candidate) (ps : List Place) (u : Update) → InOrder cs → ListInOrder (updated W A cs ps u)
  update_ordered cs ps (announce a l h f p) i =
      let on : InOrder (after W A cs (announce a l h f p)) = after_ordered W A cs (announce a l h f p) i in
      choice ListInOrder (sound W (announce a l h f p)) (damped W A cs ps (announce a l h f p))
      (passed W A cs ps (announce a l h f p))
      (λ _.
      choice ListInOrder (mark_at ps (place a l f)).back (kept W A cs ps a l h f p) (passed W A cs ps (announce a l h f p))
      (λ _. i) (λ _. on))
      (λ _. on)
  update_ordered cs ps (withdraw a l f) i =
      let on : InOrder (after W A cs (withdraw a l f)) = after_ordered W A cs (withdraw a l f) i in
      choice ListInOrder (sound W (withdraw a l f)) (damped W A cs ps (withdraw a l f)) (passed W A cs ps (withdraw a l f))
      (λ _.
      choice ListInOrder (mark_at ps (place a l f)).back (dropped W A cs ps a l f (mark_at ps (place a l f)).kept)
      (removed W A cs ps a l f)
      (λ _.
      choice ListInOrder (eqb (mark_at ps (place a l f)).kept 0) (step (refused 7) cs ps)
      (step (done (kept_hop (mark_at ps (place a l f)).kept) 0) cs (charge a l f ps))
      (λ _. i) (λ _. i))
      (λ _. on))
      (λ _. on)

  pub event_ordered : (b : Both) (e : Event) → InOrder b.list → ListInOrder (taken W A b e)
  event_ordered b (asks (update u)) i = update_ordered b.list b.places u i
  event_ordered b (asks (lookup a)) i = i
  event_ordered b tick i = rw (passes_list W A b.list b.places) (one_ordered b.list b.places i)

  event_out : (b : Both) (e : Event) → IsFront W b.places → InOrder b.list → Every (Out b.list) b.places
      → AllOut (taken W A b e)
  event_out b (asks (update u)) g i q = update_out b.list b.places u g.sorted i q
  event_out b (asks (lookup a)) g i q = q
  event_out b tick g i q =
      rw (passes W A b.list b.places, passes_list W A b.list b.places)
      (pass_out 0 b.list b.places g.sorted q)

  pub front_out : (b : Both) (es : List Event) → AllTyped W es → IsFront W b.places → InOrder b.list
      → Every (Out b.list) b.places → Every (Out (leaves W A b es).list) (leaves W A b es).places
  front_out b [] c g i q = q
  front_out b (e ∷ es) c g i q =
      front_out (taken W A b e).left es c.1 (event_keeps W A b e c.0 g) (event_ordered b e i) (event_out b e g i q)

  -- through a front that starts cleared, whatever the table holds then
  pub held_back_absent : (cs : List Candidate) (es : List Event) (k : ℕ) → InOrder cs → AllTyped W es
      → (mark_at (leaves W A (both cs []) es).places k).back ≡ true → Lacks (leaves W A (both cs []) es).list k
  held_back_absent cs es k i c b =
      out_at (leaves W A (both cs []) es).list (leaves W A (both cs []) es).places k
      (front_out (both cs []) es c (cleared W) i tt) b
