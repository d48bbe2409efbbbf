-- What the C face promises of the calls that test what they touch, and no more: its numbers are those of the call below it, and
-- the words are as that call leaves them. On a table of the family that is what the calls that test all of it promise
-- (`update_whole`, `run_whole`). Assumes nothing.
use Rattle.std.specs.Prelude.{◌≡◌, List, ℕ, length, Ok}
use Rattle.std.proofs.Common.{sym, ap, ◌∙◌}
use Rattle.logic.specs.Cases.{bool}
use Rattle.routes.specs.Family.{Family, levels}
use Rattle.candidates.specs.Answers.{Update}
use Rattle.candidates.specs.Seen.{misfits}
use Rattle.replies.specs.Said.{said_reply}
use Rattle.replies.specs.declared.Reply.{Reply}
use Rattle.words.specs.TableBut.{Table}
use Rattle.words.specs.Table.{seen}
use Rattle.update.specs.Locally.{HasUpdatedLocally as Below}
use Rattle.feed.specs.Turns.{IsTable}
use Rattle.feed.specs.Runs.{Ran as Outcome, run_answer, HasRunLocally as Run}
use Rattle.answers.specs.Numbers.{updated, ran}
use Rattle.toggleash.specs.Face.{HasUpdated, HasRun}
use Rattle.toggleash.specs.Made.{made, ran_so}
use Rattle.answers.specs.declared.Updated.{Updated}
use Rattle.answers.specs.declared.Ran.{Ran as Fields}

pub record HasUpdatedLocally (F : Family) (ws vs : List ℕ) (u : Update) (r : Updated) : Type 0 where
  pub said : Reply
  pub answer : r ≡ updated (said_reply said)
  pub call : Below (levels F) ws vs u said

pub record HasRunLocally (F : Family) (ws feed b vs c : List ℕ) (r : Fields) : Type 0 where
  pub said : Outcome
  pub answer : r ≡ ran (run_answer said)
  pub call : Run F ws feed b vs c said

-- ---- on a table

pub update_whole : (F : Family) (ws vs : List ℕ) (u : Update) (r : Updated) → HasUpdatedLocally F ws vs u r → Table (levels F) ws
    → HasUpdated F ws vs u r
update_whole F ws vs u r p t = made F ws vs u p.said r (p.call.table t) p.answer

pub run_whole : (F : Family) (ws feed b vs c : List ℕ) (r : Fields) → HasRunLocally F ws feed b vs c r
    → IsTable (seen (levels F) ws) → HasRun F ws feed b vs c r
run_whole F ws feed b vs c r p t = ran_so F ws feed b vs c p.said r (p.call.table t) p.answer

-- a call and its local one give the same answer and leave the same words
pub update_same : (F : Family) (ws vs us : List ℕ) (u : Update) (r s : Updated) → Table (levels F) ws → HasUpdated F ws vs u r
    → HasUpdatedLocally F ws us u s → (s ≡ r) × (us ≡ vs)
update_same F ws vs us u r s t p q =
    ((update_whole F ws us u s q t).answer ∙ sym p.answer, q.call.words ∙ sym (p.words t))

pub run_same : (F : Family) (ws feed b vs c us d : List ℕ) (r s : Fields) → IsTable (seen (levels F) ws)
    → HasRun F ws feed b vs c r → HasRunLocally F ws feed b us d s → (s ≡ r) × (us ≡ vs) × (d ≡ c)
run_same F ws feed b vs c us d r s t p q =
    let w = run_whole F ws feed b us d s q t in
    (w.answer ∙ sym p.answer, w.words t ∙ sym (p.words t), w.replies ∙ sym p.replies)

-- ---- on any words: two calls that begin alike end alike

pub update_agrees : (F : Family) (ws vs us : List ℕ) (u : Update) (r s : Updated) → HasUpdatedLocally F ws vs u r
    → HasUpdatedLocally F ws us u s → (r ≡ s) × (vs ≡ us)
update_agrees F ws vs us u r s p q =
    (p.answer ∙ ap updated (p.call.answer ∙ sym q.call.answer) ∙ sym q.answer, p.call.words ∙ sym q.call.words)

pub run_agrees : (F : Family) (ws feed b vs c us d : List ℕ) (r s : Fields) → HasRunLocally F ws feed b vs c r
    → HasRunLocally F ws feed b us d s → (r ≡ s) × (vs ≡ us) × (c ≡ d)
run_agrees F ws feed b vs c us d r s p q =
    bool (misfits (length ws))
    (λ m. (let x = p.call.wrong m in
    let y = q.call.wrong m in (
      p.answer ∙ ap told (x.0 ∙ sym y.0) ∙ sym q.answer,
      x.1 ∙ sym y.1,
      x.2 ∙ sym y.2,
    )))
    (λ m. (let x = p.call.right m in
    let y = q.call.right m in (
      p.answer ∙ ap told (x.0 ∙ ap Ok (x.1.answer ∙ sym y.1.answer) ∙ sym y.0) ∙ sym q.answer,
      x.1.words ∙ sym y.1.words,
      x.1.replies ∙ sym y.1.replies,
    )))
  where
    told : Outcome → Fields
    told o = ran (run_answer o)
