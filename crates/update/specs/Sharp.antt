-- What an update promises leaves no choice: two outcomes that it allows agree in the answer, in what is seen, and, refused, in
-- every word. Assumes nothing.
use Rattle.std.specs.Prelude.{◌≡◌, true, List, ℕ}
use Rattle.std.proofs.Common.{sym, ◌∙◌}
use Rattle.routes.specs.Answers.{is_refused}
use Rattle.candidates.specs.Answers.{Update}
use Rattle.words.specs.Table.{seen}
use Rattle.replies.specs.Said.{said_reply, reply_one}
use Rattle.replies.specs.declared.Reply.{Reply}
use Rattle.update.specs.Update.{HasUpdated}

pub record Agree (L : ℕ) (vs us : List ℕ) (r s : Reply) : Type 0 where
  pub answer : r ≡ s
  pub seen : seen L vs ≡ seen L us
  pub words : is_refused (said_reply r) ≡ true → vs ≡ us

pub sharp : (L : ℕ) (ws vs us : List ℕ) (u : Update) (r s : Reply) → HasUpdated L ws vs u r → HasUpdated L ws us u s
    → Agree L vs us r s
sharp L ws vs us u r s p q =
    let e : r ≡ s = reply_one r s (p.answer ∙ sym q.answer) in
    record { answer = e; seen = p.list ∙ sym q.list; words = λ z. p.kept z ∙ sym (q.kept (rw e at z)) }
