-- What the run's promise comes to: two outcomes that it allows agree, where the words were a front in every word of both. Assumes
-- nothing.
use Rattle.std.specs.Prelude.{◌≡◌, refl, List, [], ℕ, Err}
use Rattle.std.proofs.Common.{sym, ◌∙◌, arith}
use Rattle.routes.specs.Answers.{Reply}
use Rattle.words.specs.TableBut.{Table}
use Rattle.words.specs.View.{seen-cases}
use Rattle.refusals.specs.Number.{said_one}
use Rattle.refusals.specs.declared.Refusal.{Refusal}
use Rattle.feed.specs.Runs.{Ran}
use Rattle.front.specs.Front.{Event}
use Rattle.front.specs.Seen.{events_on, answers_on}
use Rattle.rows.specs.Row.{IsWords}
use Rattle.rows.specs.One.{one_words}
use Rattle.damping.specs.Behind.{installs_words}
use Rattle.damping.specs.Sharp as damping
use Rattle.damping.specs.Sharp.{Alike, front_one}
use Rattle.damping_run.specs.Series.{Asked, updated, looked, ticked, Series, nothing, more}
use Rattle.damping_run.specs.Answered.{Stands, answered}
use Rattle.damping_run.specs.Runs.{standing, HasRun}
use Rattle.damping_run.specs.Locally.{HasRunLocally}

-- ---- calls one after the other

asked_one : {fs ws gs vs hs us : List ℕ} {e : Event} {y z : Reply} → Stands fs ws → Asked fs ws e y gs vs → Asked fs ws e z hs us
    → (gs ≡ hs) × (vs ≡ us)
asked_one {fs} {ws} {gs} {vs} {hs} {us} t (updated {u} r p) (updated s q) =
    (let a = damping.sharp fs ws gs vs hs us u r s p q in (a.front t.front, a.behind))
asked_one t (looked r p) (looked s q) = (refl, refl)
asked_one {fs} {ws} {gs} {vs} {hs} {us} t (ticked p) (ticked q) = (
  one_words gs hs p.places.words q.places.words (p.places.places ∙ sym q.places.places),
  installs_words t.table p.behind ∙ sym (installs_words t.table q.behind),
)

pub series_one : {fs ws gs vs hs us : List ℕ} {es : List Event} {ys zs : List Reply} → Stands fs ws → Series fs ws es ys gs vs
    → Series fs ws es zs hs us → (gs ≡ hs) × (vs ≡ us)
series_one t nothing nothing = (refl, refl)
series_one {fs} {ws} t (more a x) (more b y) =
    (let o = asked_one t a b in series_one (answered fs ws t a).stands x (rw (sym o.0, sym o.1) at y))

series_none : {fs ws gs vs : List ℕ} → Series fs ws [] [] gs vs → (gs ≡ fs) × (vs ≡ ws)
series_none nothing = (refl, refl)

-- those of a run: the table's words are the same
pub runs_one : (fs ws feed b gs vs hs us : List ℕ) → IsWords fs
    → Series fs ws (events_on (standing fs ws) feed b) (answers_on (standing fs ws) feed b) gs vs
    → Series fs ws (events_on (standing fs ws) feed b) (answers_on (standing fs ws) feed b) hs us → vs ≡ us
runs_one fs ws feed b gs vs hs us w p q =
    seen-cases 4 ws (omega arith) (omega arith)
    (λ _ k. (series_none (rw k at p)).1 ∙ sym (series_none (rw k at q)).1)
    (λ _ _ k. (series_none (rw k at p)).1 ∙ sym (series_none (rw k at q)).1)
    (λ _ _ t _. (series_one (record { front = w; table = t }) p q).1)

-- ---- the run

-- one answer, the same reply bytes, the same list and places; where the words were a front, the same words of both; and, refused,
-- the same words of both
pub record Agree (fs gs vs c hs us d : List ℕ) (r s : Ran) : Type 0 where
  pub answer : r ≡ s
  pub replies : c ≡ d
  pub alike : Alike gs vs hs us
  pub front : IsWords fs → gs ≡ hs
  pub behind : IsWords fs → vs ≡ us
  pub words : (e : Refusal) → r ≡ Err e → (gs ≡ hs) × (vs ≡ us)

pub sharp : (fs ws feed b gs vs c : List ℕ) (r : Ran) (hs us d : List ℕ) (s : Ran)
    → HasRun fs ws feed b gs vs c r → HasRun fs ws feed b hs us d s → Agree fs gs vs c hs us d r s
sharp fs ws feed b gs vs c r hs us d s p q =
    let e : r ≡ s = said_one r s (p.answer ∙ sym q.answer) in
    record {
      answer = e;
      replies = p.replies ∙ sym q.replies;
      alike = record { list = p.list ∙ sym q.list; places = p.places ∙ sym q.places };
      front = λ w. front_one gs hs (p.front w) (q.front w) (p.places ∙ sym q.places);
      behind = λ w. runs_one fs ws feed b gs vs hs us w p.series q.series;
      words = λ n z.
          ((p.kept n z).0 ∙ sym (q.kept n (sym e ∙ z)).0, (p.kept n z).1 ∙ sym (q.kept n (sym e ∙ z)).1);
    }

-- on a table a local run and the one that tests all of it agree
pub local_sharp : (fs ws feed b gs vs c : List ℕ) (r : Ran) (hs us d : List ℕ) (s : Ran) → Table 4 ws
    → HasRunLocally fs ws feed b gs vs c r → HasRun fs ws feed b hs us d s → Agree fs gs vs c hs us d r s
local_sharp fs ws feed b gs vs c r hs us d s t p = sharp fs ws feed b gs vs c r hs us d s (p.table t)
