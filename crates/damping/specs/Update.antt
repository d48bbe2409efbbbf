-- What an update through a front promises, by what both memories are seen to be, and that the work keeps it on a table. Assumes
-- nothing.
use Rattle.std.specs.Prelude.{◌≡◌, ◌⊎◌, Bool, true, false, cond, List, ℕ, eqb}
use Rattle.std.proofs.Common.{sym, ap, ◌∙◌, inl, inr}
use Rattle.logic.specs.Cases.{bool}
use Rattle.routes.specs.Answers.{is_refused}
use Rattle.candidates.specs.Candidate.{Candidate, place}
use Rattle.candidates.specs.Answers.{Update, announce, withdraw, sound, answer, after}
use Rattle.candidates.specs.Seen.{table}
use Rattle.words.specs.Words.{array_count}
use Rattle.words.specs.Table.{list_of, seen}
use Rattle.words.specs.TableBut.{Table}
use Rattle.words.specs.View.{seen_table}
use Rattle.replies.specs.Said.{said_reply}
use Rattle.replies.specs.declared.Reply as code
use Rattle.update.specs.Update.{HasUpdated}
use Rattle.front.specs.Place.{Place, mark_at}
use Rattle.front.specs.Front.{Step, step, updated}
use Rattle.front.specs.Seen.{front, damped_on, behind_on, places_on}
use Rattle.rows.specs.Row.{places_of, IsWords}
use Rattle.damping.specs.View.{seen_front, seen_front_lem, seen_became}
use Rattle.damping.specs.Work.{held_back, aside_reply, aside_places, charged_by, Damped, damped_words, damped_kept}

-- the words fs of a front and ws of a table became gs and vs, and the update was answered r
pub record HasDamped (fs ws gs vs : List ℕ) (u : Update) (r : code.Reply) : Type 0 where
  pub answer : said_reply r ≡ damped_on 32 (seen_front fs) (seen 4 ws) u
  pub list : seen 4 vs ≡ behind_on 32 (seen_front fs) (seen 4 ws) u
  pub places : seen_front gs ≡ places_on 32 (seen_front fs) (seen 4 ws) u
  pub kept : is_refused (said_reply r) ≡ true → (gs ≡ fs) × (vs ≡ ws)
  pub front : IsWords fs → IsWords gs
  -- no word of the table is changed, or it is by the table's own call of the update
  pub behind : (vs ≡ ws) ⊎ HasUpdated 4 ws vs u r

first : {T : Type 0} (b : Bool) (x y : T) → b ≡ true → cond b x y ≡ x
first b x y e = rw e

second : {T : Type 0} (b : Bool) (x y : T) → b ≡ false → cond b x y ≡ y
second b x y e = rw e

-- ---- the steps of item 14, by what the front alone knows

module _ (W A : ℕ) (cs : List Candidate) (ps : List Place) where
  aside_step : (u : Update) → sound W u ≡ true → held_back ps u ≡ true
      → updated W A cs ps u ≡ step (aside_reply ps u) cs (aside_places ps u)
  aside_step (announce a l h f p) s b =
      first (sound W (announce a l h f p)) _ _ s ∙ first (mark_at ps (place a l f)).back _ _ b
  aside_step (withdraw a l f) s b =
      first (sound W (withdraw a l f)) _ _ s ∙ first (mark_at ps (place a l f)).back _ _ b
      ∙ bool (eqb (mark_at ps (place a l f)).kept 0) (λ e. rw e) (λ e. rw e)

  passed_step : (u : Update) → sound W u ≡ true → held_back ps u ≡ false
      → updated W A cs ps u ≡ step (answer W A cs u) (after W A cs u) (charged_by (answer W A cs u) u ps)
  passed_step (announce a l h f p) s b =
      first (sound W (announce a l h f p)) _ _ s ∙ second (mark_at ps (place a l f)).back _ _ b
  passed_step (withdraw a l f) s b =
      first (sound W (withdraw a l f)) _ _ s ∙ second (mark_at ps (place a l f)).back _ _ b

-- ---- a front and a table, by what they stand for

module _ (fs ws : List ℕ) (w : IsWords fs) (tb : Table 4 ws) where
  abbrev A : ℕ
  A = array_count ws

  abbrev cs : List Candidate
  cs = list_of 4 ws

  abbrev ps : List Place
  ps = places_of fs

  -- a step that answers, leaves the table's list and leaves the places
  stepped : (gs vs : List ℕ) (u : Update) (r : code.Reply) (s : Step) → updated 32 A cs ps u ≡ s
      → said_reply r ≡ s.reply → seen 4 vs ≡ table A s.left.list → seen_front gs ≡ front s.left.places
      → (is_refused (said_reply r) ≡ true → (gs ≡ fs) × (vs ≡ ws)) → IsWords gs → (vs ≡ ws) ⊎ HasUpdated 4 ws vs u r
      → HasDamped fs ws gs vs u r
  stepped gs vs u r s e a l p k g b =
      let t = seen_table 4 ws tb in
      record {
        answer = rw (seen_front_lem fs w, t) (a ∙ ap (λ (q : Step). q.reply) (sym e));
        list = rw (seen_front_lem fs w, t) (l ∙ ap (λ (q : Step). table A q.left.list) (sym e));
        places = rw (seen_front_lem fs w, t) (p ∙ ap (λ (q : Step). front q.left.places) (sym e));
        kept = k;
        front = λ _. g;
        behind = b;
      }

  -- the work
  pub damped_table : (gs vs : List ℕ) (u : Update) (r : code.Reply) → sound 32 u ≡ true → Damped fs ws gs vs u r
      → HasDamped fs ws gs vs u r
  damped_table gs vs u r s d =
      let k = damped_kept fs ws gs vs u r d w in
      let g = damped_words fs ws gs vs u r d in
      let t = seen_table 4 ws tb in
      bool (held_back ps u)
      (λ b. (let x = d.aside b in
      stepped gs vs u r (step (aside_reply ps u) cs (aside_places ps u)) (aside_step 32 A cs ps u s b) x.answer
      (ap (seen 4) x.behind ∙ t) (seen_became gs (aside_places ps u) x.places) k g (inl x.behind)))
      (λ b. (let x = d.passed b in
      let h : HasUpdated 4 ws vs u r = x.call.table tb in
      let y : said_reply r ≡ answer 32 A cs u = rw t at h.answer in
      stepped gs vs u r (step (answer 32 A cs u) (after 32 A cs u) (charged_by (answer 32 A cs u) u ps))
      (passed_step 32 A cs ps u s b) y (rw t at h.list)
      (seen_became gs (charged_by (said_reply r) u ps) x.places ∙ ap (λ z. front (charged_by z u ps)) y) k g (inr h)))
