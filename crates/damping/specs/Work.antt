-- An update without a fault of its own, through a front before any words: what the front alone makes of a candidate that is held
-- back, and of any other, which is the table's. Assumes nothing.
--
--     held back    announced    kept in its place                          the table's words are neither read nor changed
--                  withdrawn    dropped and charged, 7 with nothing kept
--     any other                 the table's own call, on whatever words there are; a withdrawal that was done is charged
use Rattle.std.specs.Prelude.{◌≡◌, refl, ◌≢◌, Bool, true, false, cond, List, ℕ, ◌%◌, eqb}
use Rattle.std.proofs.Common.{sym, ap, ◌∙◌, true≢false, eq-eqb, ne_eqb}
use Rattle.std.proofs.lemmas.Bool.{false≢true}
use Rattle.logic.specs.Cases.{bool}
use Rattle.routes.specs.Answers.{Reply, done, found, none, refused, is_done, is_refused}
use Rattle.candidates.specs.Keyed.{put}
use Rattle.candidates.specs.Candidate.{place}
use Rattle.candidates.specs.Answers.{Update, announce, withdraw, sound}
use Rattle.words.specs.TableBut.{Table}
use Rattle.replies.specs.Said.{said_reply}
use Rattle.replies.specs.declared.Reply as code
use Rattle.replies.specs.declared.Reply.TheVariants.{Done, Refused}
use Rattle.update.specs.Locally.{HasUpdatedLocally}
use Rattle.front.specs.Place.{Mark, Place, placed, key, mark_at, kept_of, kept_hop}
use Rattle.front.specs.Front.{charge, keeping}
use Rattle.rows.specs.Row.{places_of, IsWords}
use Rattle.rows.specs.One.{one_words}
use Rattle.charge.specs.Calls.{Became, Found}

-- ---- what the front alone knows of an update

-- the mark of its candidate
abbrev pub mark_for : List Place → Update → Mark
mark_for ps (announce a l h f p) = mark_at ps (place a l f)
mark_for ps (withdraw a l f) = mark_at ps (place a l f)

abbrev pub held_back : List Place → Update → Bool
held_back ps u = (mark_for ps u).back

-- held back: the answer, and the places then
abbrev pub aside_reply : List Place → Update → Reply
aside_reply ps (announce a l h f p) = done h 0
aside_reply ps (withdraw a l f) =
    cond (eqb (mark_at ps (place a l f)).kept 0) (refused 7) (done (kept_hop (mark_at ps (place a l f)).kept) 0)

abbrev pub aside_places : List Place → Update → List Place
aside_places ps (announce a l h f p) = put key (placed a l f (keeping (mark_at ps (place a l f)) (kept_of p h))) ps
aside_places ps (withdraw a l f) = cond (eqb (mark_at ps (place a l f)).kept 0) ps (charge a l f ps)

-- any other: the places after the table's answer
abbrev pub charged_by : Reply → Update → List Place → List Place
charged_by y (announce a l h f p) ps = ps
charged_by y (withdraw a l f) ps = cond (is_done y) (charge a l f ps) ps

-- ---- the words fs of a front and ws became gs and vs, and the update was answered r

pub record Aside (fs ws gs vs : List ℕ) (u : Update) (r : code.Reply) : Type 0 where
  pub answer : said_reply r ≡ aside_reply (places_of fs) u
  pub places : Became gs (aside_places (places_of fs) u)
  pub behind : vs ≡ ws

pub record Passed (fs ws gs vs : List ℕ) (u : Update) (r : code.Reply) : Type 0 where
  pub call : HasUpdatedLocally 4 ws vs u r
  pub places : Became gs (charged_by (said_reply r) u (places_of fs))

pub record Damped (fs ws gs vs : List ℕ) (u : Update) (r : code.Reply) : Type 0 where
  pub aside : held_back (places_of fs) u ≡ true → Aside fs ws gs vs u r
  pub passed : held_back (places_of fs) u ≡ false → Passed fs ws gs vs u r

-- what is asked for before the work; who says that the words are a table has to know it
pub record Damps (fs ws : List ℕ) (u : Update) (known : Bool) : Type 0 where
  pub front : IsWords fs
  pub table : known ≡ true → Table 4 ws
  pub sound : sound 32 u ≡ true

-- ---- a refusal leaves both

pub not_both : (y : Reply) → is_done y ≡ true → is_refused y ≡ true → ⊥
not_both (done h c) d r = true≢false (sym r)
not_both (found h l q) d r = true≢false (sym r)
not_both (none q) d r = true≢false (sym r)
not_both (refused n) d r = true≢false (sym d)

-- the front's own answer is a refusal where nothing is kept, and the places stay
aside_kept : (ps : List Place) (u : Update) → is_refused (aside_reply ps u) ≡ true → aside_places ps u ≡ ps
aside_kept ps (announce a l h f p) z = absurd (false≢true z)
aside_kept ps (withdraw a l f) z =
    bool (eqb (mark_at ps (place a l f)).kept 0) (λ e. rw e) (λ e. absurd (false≢true (rw e at z)))

charged-kept : (y : Reply) (u : Update) (ps : List Place) → is_refused y ≡ true → charged_by y u ps ≡ ps
charged-kept y (announce a l h f p) ps z = refl
charged-kept y (withdraw a l f) ps z = bool (is_done y) (λ d. absurd (not_both y d z)) (λ d. rw d)

-- words of a front that stand for the same places are the same
pub became_same : (fs gs : List ℕ) → IsWords fs → Became gs (places_of fs) → gs ≡ fs
became_same fs gs w b = one_words gs fs b.words w b.places

module _ (fs ws gs vs : List ℕ) (u : Update) (r : code.Reply) (d : Damped fs ws gs vs u r) where
  pub damped_words : IsWords gs
  damped_words =
      bool (held_back (places_of fs) u) (λ b. (d.aside b).places.words) (λ b. (d.passed b).places.words)

  pub damped_kept : IsWords fs → is_refused (said_reply r) ≡ true → (gs ≡ fs) × (vs ≡ ws)
  damped_kept w z =
      bool (held_back (places_of fs) u)
      (λ b. (let x = d.aside b in
      let e : aside_places (places_of fs) u ≡ places_of fs = aside_kept (places_of fs) u (ap is_refused (sym x.answer) ∙ z) in
      (became_same fs gs w (rw e at x.places), x.behind)))
      (λ b. (let x = d.passed b in
      let e : charged_by (said_reply r) u (places_of fs) ≡ places_of fs = charged-kept (said_reply r) u (places_of fs) z in
      (became_same fs gs w (rw e at x.places), x.call.kept z)))

-- ---- each way through it, by the place that was found

module _ (fs ws : List ℕ) (w : IsWords fs) (a l f at x y : ℕ) (g : Found fs (place a l f) at x y) where
  back_is : (mark_at (places_of fs) (place a l f)).back ≡ eqb (x % 2) 1
  back_is = ap (λ (m : Mark). m.back) g.mark

  is_kept : (mark_at (places_of fs) (place a l f)).kept ≡ y
  is_kept = ap (λ (m : Mark). m.kept) g.mark

  back_on : x % 2 ≡ 1 → (mark_at (places_of fs) (place a l f)).back ≡ true
  back_on o = back_is ∙ eq-eqb (x % 2) 1 o

  back_off : x % 2 ≢ 1 → (mark_at (places_of fs) (place a l f)).back ≡ false
  back_off o = back_is ∙ ne_eqb (x % 2) 1 o

  only_aside : (gs vs : List ℕ) (u : Update) (r : code.Reply) → held_back (places_of fs) u ≡ true → Aside fs ws gs vs u r
      → Damped fs ws gs vs u r
  only_aside gs vs u r b p = record { aside = λ _. p; passed = λ e. absurd (true≢false (sym b ∙ e)) }

  only_passed : (gs vs : List ℕ) (u : Update) (r : code.Reply) → held_back (places_of fs) u ≡ false → Passed fs ws gs vs u r
      → Damped fs ws gs vs u r
  only_passed gs vs u r b p = record { aside = λ e. absurd (true≢false (sym e ∙ b)); passed = λ _. p }

  -- ---- announce

  module _ (h p : ℕ) where
    pub keeps : (gs : List ℕ) → x % 2 ≡ 1
        → Became gs (put key (placed a l f (keeping (mark_at (places_of fs) (place a l f)) (kept_of p h))) (places_of fs))
        → Damped fs ws gs ws (announce a l h f p) (Done h 0)
    keeps gs o b =
        only_aside gs ws (announce a l h f p) (Done h 0) (back_on o) (record { answer = refl; places = b; behind = refl })

    pub announces : (vs : List ℕ) (r : code.Reply) → x % 2 ≢ 1 → HasUpdatedLocally 4 ws vs (announce a l h f p) r
        → Damped fs ws fs vs (announce a l h f p) r
    announces vs r o c =
        only_passed fs vs (announce a l h f p) r (back_off o)
        (record { call = c; places = record { words = w; places = refl } })

  -- ---- withdraw

  abbrev v : Update
  v = withdraw a l f

  pub drops_nothing : x % 2 ≡ 1 → y ≡ 0 → Damped fs ws fs ws v (Refused 7)
  drops_nothing o z =
      let e : eqb (mark_at (places_of fs) (place a l f)).kept 0 ≡ true = eq-eqb _ 0 (is_kept ∙ z) in
      only_aside fs ws v (Refused 7) (back_on o)
      (record { answer = rw e; places = record { words = w; places = rw e }; behind = refl })

  pub drops : (gs : List ℕ) → x % 2 ≡ 1 → y ≢ 0 → Became gs (charge a l f (places_of fs))
      → Damped fs ws gs ws v (Done (y % 65536) 0)
  drops gs o n b =
      let e : eqb (mark_at (places_of fs) (place a l f)).kept 0 ≡ false = rw is_kept (ne_eqb y 0 n) in
      only_aside gs ws v (Done (y % 65536) 0) (back_on o)
      (record { answer = rw e (ap (λ (m : ℕ). done (m % 65536) 0) (sym is_kept)); places = rw e b; behind = refl })

  module _ (vs : List ℕ) (r : code.Reply) (o : x % 2 ≢ 1) (c : HasUpdatedLocally 4 ws vs v r) where
    pub charges : (gs : List ℕ) → is_done (said_reply r) ≡ true → Became gs (charge a l f (places_of fs)) → Damped fs ws gs vs v r
    charges gs d b = only_passed gs vs v r (back_off o) (record { call = c; places = rw d b })

    pub charges_not : is_done (said_reply r) ≡ false → Damped fs ws fs vs v r
    charges_not d =
        only_passed fs vs v r (back_off o)
        (record { call = c; places = rw d (record { words = w; places = refl }) })
