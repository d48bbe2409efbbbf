-- One update at a time: what it does to the candidates held, and on what its answer hangs. Assumes nothing.
use Rattle.std.specs.Prelude.{◌≡◌, ◌≢◌, Bool, cond, ◌||◌, List, ℕ, ◌+◌, ◌-◌, ◌*◌, ◌%◌, ◌^◌, ◌≤◌, ◌<◌, eqb, ltb}
use Rattle.std.proofs.Math.Path.{refl, ap}
use Rattle.std.proofs.Common.{sym, ◌∙◌, true≢false, arith}
use Rattle.std.proofs.Math.Bool.{true, false}
use Rattle.std.proofs.Math.Option.{Option, none, some}
use borrow.Author.Tests.{ltb-false, eqb-true, eqb-false, le-ltb, eq-eqb, ne_eqb}
use Rattle.routes.specs.Route.{route, too_long, stray, bad_hop, insert, hop_at}
use Rattle.routes.specs.Room.{need}
use Rattle.routes.specs.Answers.{Reply, done, refused, refuse, is_done, lacking}
use Rattle.routes.specs.Answers as answers
use Rattle.logic.specs.Cases.{bool}
use Rattle.logic.specs.Bools.{not_false, or_false}
use Rattle.laws.specs.Replies.{passed}
use Rattle.candidates.specs.Keyed.{Ordered, find, put, Every}
use Rattle.candidates.specs.Candidate.{Candidate, candidate, bad_feed, place, key, hop_of, held, IsCandidate, IsList}
use Rattle.candidates.specs.Winners.{winning, winners}
use Rattle.candidates.specs.Answers.{Update, announce, withdraw, faulty, sound, target, verdict, answer, after, plain}
use Rattle.rivals.specs.Maps.{put_ordered, cut_ordered, every_put, every_cut, put_same, put_other, cut_same, cut_other}
use Rattle.rivals.specs.Maps.{put-held}
use Rattle.rivals.specs.Won.{Good, found_won, winners_hop}
use Rattle.rivals.specs.Need.{asked}

abbrev pub at : Update → ℕ
at u = key (target u)

-- the candidate there once it is accepted
abbrev pub newly : Update → Option Candidate
newly (announce a l h f p) = some (candidate a l f p h)
newly (withdraw a l f) = none

-- ---- tests

pub plain_done : (r : Reply) → is_done (plain r) ≡ is_done r
plain_done (done h c) = refl
plain_done (answers.found h l q) = refl
plain_done (answers.none q) = refl
plain_done (refused n) = refl

pub same_done : (x y : Reply) → plain x ≡ plain y → is_done x ≡ is_done y
same_done x y e = sym (plain_done x) ∙ ap is_done e ∙ plain_done y

-- the right of an or that is false
right_false : (b c : Bool) → (b || c) ≡ false → c ≡ false
right_false true c e = absurd (true≢false e)
right_false false c e = e

module _ (W : ℕ) where
  -- the tests that a sound update passed
  pub record Passes (l a f : ℕ) : Type 0 where
    pub short : too_long W l ≡ false
    pub clean : stray W a l ≡ false
    pub feed : bad_feed f ≡ false

  within : (l a f : ℕ) → Passes l a f → (l ≤ W) × (1 ≤ f) × (f ≤ 4)
  within l a f x =
      let z : f ≢ 0 = eqb-false f 0 (or_false _ _ x.feed) in
      let t : f ≤ 4 = ltb-false 4 f (right_false (eqb f 0) (ltb 4 f) x.feed) in
      (ltb-false W l x.short, omega arith, t)

  pub announce_passes : (a l h f p : ℕ) → sound W (announce a l h f p) ≡ true → Passes l a f × (bad_hop h ≡ false)
  announce_passes a l h f p e =
      let x = passed 3 (too_long W l) _ e in
      let y = passed 4 (stray W a l) _ x.1 in
      let z = passed 5 (bad_hop h) _ y.1 in
      (record { short = x.0; clean = y.0; feed = (passed 10 (bad_feed f) _ z.1).0 }, z.0)

  pub withdraw_passes : (a l f : ℕ) → sound W (withdraw a l f) ≡ true → Passes l a f
  withdraw_passes a l f e =
      let x = passed 3 (too_long W l) _ e in
      let y = passed 4 (stray W a l) _ x.1 in
      record { short = x.0; clean = y.0; feed = (passed 10 (bad_feed f) _ y.1).0 }

  -- a sound update is answered by the list, any other by itself
  pub faulty-sound : (u : Update) (r : Reply) → sound W u ≡ true → faulty W u r ≡ r
  faulty-sound (announce a l h f p) r e = let x = announce_passes a l h f p e in rw (x.0.short, x.0.clean, x.1, x.0.feed)
  faulty-sound (withdraw a l f) r e = let x = withdraw_passes a l f e in rw (x.short, x.clean, x.feed)

  pub faulty_other : (u : Update) (r s : Reply) → sound W u ≡ false → faulty W u r ≡ faulty W u s
  faulty_other (announce a l h f p) r s e =
      bool (too_long W l) (λ x. rw x) (λ x.
      bool (stray W a l) (λ y. rw (x, y)) (λ y.
      bool (bad_hop h) (λ z. rw (x, y, z)) (λ z.
      bool (bad_feed f) (λ t. rw (x, y, z, t)) (λ t. absurd (true≢false (rw (x, y, z, t) at e))))))
  faulty_other (withdraw a l f) r s e =
      bool (too_long W l) (λ x. rw x) (λ x.
      bool (stray W a l) (λ y. rw (x, y)) (λ y.
      bool (bad_feed f) (λ t. rw (x, y, t)) (λ t. absurd (true≢false (rw (x, y, t) at e)))))

  pub done_sound : (A : ℕ) (cs : List Candidate) (u : Update) → is_done (answer W A cs u) ≡ true → sound W u ≡ true
  unfolding answer
  done_sound A cs u e =
      bool (sound W u) (λ t. t) (λ t. ap is_done (faulty_other u (done 0 0) (verdict W A cs u) t) ∙ e)

  -- the candidate that a sound update names
  pub sound-target : (u : Update) → sound W u ≡ true → ((target u).len ≤ W) × (1 ≤ (target u).feed) × ((target u).feed ≤ 4)
  sound-target (announce a l h f p) e = within l a f (announce_passes a l h f p e).0
  sound-target (withdraw a l f) e = within l a f (withdraw_passes a l f e)

  -- ---- the list after an update

  pub after_other : (A : ℕ) (cs : List Candidate) (u : Update) (k : ℕ) → at u ≢ k → find key (after W A cs u) k ≡ find key cs k
  after_other A cs (announce a l h f p) k n =
      bool (is_done (answer W A cs (announce a l h f p))) (λ e. rw e (put_other key (candidate a l f p h) cs k n)) (λ e. rw e)
  after_other A cs (withdraw a l f) k n =
      bool (is_done (answer W A cs (withdraw a l f))) (λ e. rw e (cut_other key (place a l f) k cs (λ z. n (sym z)))) (λ e. rw e)

  pub after_same : (A : ℕ) (cs : List Candidate) (u : Update) → Ordered key 0 cs
      → find key (after W A cs u) (at u) ≡ cond (is_done (answer W A cs u)) (newly u) (find key cs (at u))
  after_same A cs (announce a l h f p) o =
      bool (is_done (answer W A cs (announce a l h f p))) (λ e. rw e (put_same key (candidate a l f p h) cs)) (λ e. rw e)
  after_same A cs (withdraw a l f) o =
      bool (is_done (answer W A cs (withdraw a l f))) (λ e. rw e (cut_same key 0 (place a l f) cs o)) (λ e. rw e)

  pub after_ordered : (A : ℕ) (cs : List Candidate) (u : Update) → Ordered key 0 cs → Ordered key 0 (after W A cs u)
  after_ordered A cs (announce a l h f p) o =
      bool (is_done (answer W A cs (announce a l h f p)))
      (λ e. rw e (put_ordered key 0 (candidate a l f p h) cs (omega arith) o))
      (λ e. rw e o)
  after_ordered A cs (withdraw a l f) o =
      bool (is_done (answer W A cs (withdraw a l f))) (λ e. rw e (cut_ordered key 0 (place a l f) cs o)) (λ e. rw e o)

  -- an unsound update is answered alike by every list
  pub unsound_answer : (A : ℕ) (cs ds : List Candidate) (u : Update) → sound W u ≡ false → answer W A cs u ≡ answer W A ds u
  unfolding answer
  unsound_answer A cs ds u n = faulty_other u (verdict W A cs u) (verdict W A ds u) n

  -- and changes nothing
  pub unsound_after : (A : ℕ) (cs : List Candidate) (u : Update) → sound W u ≡ false → after W A cs u ≡ cs
  unsound_after A cs u n =
      bool (is_done (answer W A cs u)) (λ e. absurd (true≢false (sym (done_sound A cs u e) ∙ n))) (λ e. rw e)

  -- ---- answers, cells excepted

  refuse-plain : (n : ℕ) (b : Bool) (r : Reply) → plain (refuse n b r) ≡ refuse n b (plain r)
  refuse-plain n true r = refl
  refuse-plain n false r = refl

  faulty-plain : (u : Update) (r : Reply) → plain (faulty W u r) ≡ faulty W u (plain r)
  faulty-plain u r =
      bool (sound W u)
      (λ e. rw (faulty-sound u r e, faulty-sound u (plain r) e))
      (λ e. ap plain (faulty_other u r (refused 0) e) ∙ unsound u e ∙ faulty_other u (refused 0) (plain r) e)
    where
      unsound : (u : Update) → sound W u ≡ false → plain (faulty W u (refused 0)) ≡ faulty W u (refused 0)
      unsound (announce a l h f p) e =
          bool (too_long W l) (λ x. rw x) (λ x.
          bool (stray W a l) (λ y. rw (x, y)) (λ y.
          bool (bad_hop h) (λ z. rw (x, y, z)) (λ z.
          bool (bad_feed f) (λ t. rw (x, y, z, t)) (λ t. rw (x, y, z, t)))))
      unsound (withdraw a l f) e =
          bool (too_long W l) (λ x. rw x) (λ x.
          bool (stray W a l) (λ y. rw (x, y)) (λ y.
          bool (bad_feed f) (λ t. rw (x, y, t)) (λ t. rw (x, y, t))))

  -- what the hop x held says to a sound update, cells and room excepted
  abbrev by : ℕ → Update → Reply
  by x (announce a l h f p) = done h 0
  by x (withdraw a l f) = refuse 7 (eqb x 0) (done x 0)

  abbrev pub plainly : ℕ → Update → Reply
  plainly x u = faulty W u (by x u)

  pub unsound_plain : (x y : ℕ) (u : Update) → sound W u ≡ false → plainly x u ≡ plainly y u
  unsound_plain x y u e = faulty_other u (by x u) (by y u) e

  -- the hop of the candidate that an update names
  abbrev pub held_for : List Candidate → Update → ℕ
  held_for cs u = hop_of (find key cs (at u))

  -- there is room for an update
  abbrev pub Roomy : ℕ → List Candidate → Update → Type 0
  Roomy A cs (announce a l h f p) = sound W (announce a l h f p) ≡ true → need W (winners (put key (candidate a l f p h) cs)) ≤ A
  Roomy A cs (withdraw a l f) = Unit {0}

  -- lengths below 256 keep keys apart
  module _ (w : W < 256) where
    pub sound_good : (a l h f p : ℕ) → sound W (announce a l h f p) ≡ true → Good (candidate a l f p h)
    sound_good a l h f p e =
        let x = announce_passes a l h f p e in
        let y = within l a f x.0 in
        let z : h ≢ 0 = eqb-false h 0 (or_false _ _ x.1) in
        record { pos = omega arith; short = omega (arith, y.0); few = omega (arith, y.2) }

    pub after_good : (A : ℕ) (cs : List Candidate) (u : Update) → Every Good cs → Every Good (after W A cs u)
    after_good A cs (announce a l h f p) q =
        bool (is_done (answer W A cs (announce a l h f p)))
        (λ e. rw e (every_put key Good (candidate a l f p h) cs
        (sound_good a l h f p (done_sound A cs (announce a l h f p) e)) q))
        (λ e. rw e q)
    after_good A cs (withdraw a l f) q =
        bool (is_done (answer W A cs (withdraw a l f))) (λ e. rw e (every_cut key Good (place a l f) cs q)) (λ e. rw e q)

    -- where there is room, the answer hangs on the candidate's own hop alone
    pub answer-plain : (A : ℕ) (cs : List Candidate) (u : Update) → Every Good cs → Roomy A cs u
        → plain (answer W A cs u) ≡ plainly (held_for cs u) u
    unfolding answer
    answer-plain A cs (announce a l h f p) q r =
        faulty-plain (announce a l h f p) (verdict W A cs (announce a l h f p))
        ∙ bool (sound W (announce a l h f p))
        (λ e. ap (faulty W (announce a l h f p)) (
        let g = sound_good a l h f p e in
        let m : need W (insert (route a l h) (winners cs)) ≤ A = rw (asked W (candidate a l f p h) cs h g.pos g q) (r e) in
        refuse-plain 8 (lacking W A (winners cs) a l h) _
        ∙ rw (le-ltb A (need W (insert (route a l h) (winners cs))) m)
        (bool (eqb (hop_at (winners cs) (a * 256 + l)) 0) (λ b. rw b) (λ b. rw b))))
        (λ e. faulty_other (announce a l h f p) _ _ e)
    answer-plain A cs (withdraw a l f) q r =
        faulty-plain (withdraw a l f) (verdict W A cs (withdraw a l f))
        ∙ ap (faulty W (withdraw a l f)) (refuse-plain 7 (eqb (held cs a l f) 0) _)

  -- an equal candidate announced again changes nothing, and reports no cells
  pub still : (A : ℕ) (cs : List Candidate) (a l h f p : ℕ) → Ordered key 0 cs
      → find key cs (place a l f) ≡ some (candidate a l f p h)
      → after W A cs (announce a l h f p) ≡ cs
  still A cs a l h f p o e =
      bool (is_done (answer W A cs (announce a l h f p))) (λ d. rw d (put-held key (candidate a l f p h) cs o e)) (λ d. rw d)

  -- and is accepted with no cells to reload
  pub still_answer : (A : ℕ) (cs : List Candidate) (a l h f p : ℕ) → Ordered key 0 cs → Every Good cs
      → find key cs (place a l f) ≡ some (candidate a l f p h)
      → sound W (announce a l h f p) ≡ true → answer W A cs (announce a l h f p) ≡ done h 0
  unfolding answer
  still_answer A cs a l h f p o q e s =
      let y = within l a f (announce_passes a l h f p s).0 in
      let z : 0 < winning cs (a * 256 + l) = found_won cs a l f (candidate a l f p h) (omega (arith, y.2)) q e in
      faulty-sound (announce a l h f p) (verdict W A cs (announce a l h f p)) s
      ∙ rw (
        winners_hop cs (a * 256 + l),
        ne_eqb (winning cs (a * 256 + l)) 0 (λ t. omega arith),
        put-held key (candidate a l f p h) cs o e,
        eq-eqb (winning cs (a * 256 + l)) (winning cs (a * 256 + l)) refl,
      )

  -- ---- a list of candidates stays one

  -- what the types of a call say of its numbers
  abbrev pub Typed : Update → Type 0
  Typed (announce a l h f p) = (a < 2 ^ W) × (p < 256)
  Typed (withdraw a l f) = Unit {0}

  pub after_list : (A : ℕ) (cs : List Candidate) (u : Update) → Typed u → IsList W cs → IsList W (after W A cs u)
  after_list A cs (announce a l h f p) t i =
      record {
        sorted = after_ordered A cs (announce a l h f p) i.sorted;
        candidates = bool (is_done (answer W A cs (announce a l h f p)))
            (λ e. rw e (every_put key (IsCandidate W) (candidate a l f p h) cs
            (new (done_sound A cs (announce a l h f p) e)) i.candidates))
            (λ e. rw e i.candidates);
      }
    where
      new : sound W (announce a l h f p) ≡ true → IsCandidate W (candidate a l f p h)
      new s =
          let x = announce_passes a l h f p s in
          let y = within l a f x.0 in
          let z : h ≢ 0 = eqb-false h 0 (or_false _ _ x.1) in
          let c = eqb-true (a % 2 ^ (W - l)) 0 (not_false _ x.0.clean) in
          record {
            route = record {
              wf = record { fits = y.0; inside = t.0; clean = c; some = omega arith };
              low = ltb-false 65535 h (right_false (eqb h 0) (ltb 65535 h) x.1);
            };
            low = y.1;
            high = y.2;
            byte = t.1;
          }
  after_list A cs (withdraw a l f) t i =
      record {
        sorted = after_ordered A cs (withdraw a l f) i.sorted;
        candidates =
            bool (is_done (answer W A cs (withdraw a l f)))
            (λ e. rw e (every_cut key (IsCandidate W) (place a l f) cs i.candidates))
            (λ e. rw e i.candidates);
      }
