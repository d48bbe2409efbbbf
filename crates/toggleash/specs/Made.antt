-- What the C face promises of an update and of a run, from what the call below it promises. Assumes nothing.
use Rattle.std.specs.Prelude.{◌≡◌, refl, List, ℕ, Ok, Err}
use Rattle.std.proofs.Common.{ap, ◌∙◌}
use Rattle.routes.specs.Family.{Family, levels}
use Rattle.routes.specs.Answers.{is_refused}
use Rattle.routes.specs.Seen.{refuses}
use Rattle.candidates.specs.Answers.{Update}
use Rattle.laws.specs.Given.{given_refused, refused_one}
use Rattle.replies.specs.Said.{said_reply}
use Rattle.replies.specs.declared.Reply.{Reply}
use Rattle.update.specs.Update.{HasUpdated as Made}
use Rattle.refusals.specs.declared.Refusal.{Refusal}
use Rattle.refusals.specs.Number.{number}
use Rattle.feed.specs.Runs.{Ran as Outcome, run_answer, reported, HasRun as Run}
use Rattle.answers.specs.Numbers.{updated, ran}
use Rattle.toggleash.specs.Face.{HasUpdated, HasRun}
use Rattle.answers.specs.declared.Updated.{Updated}
use Rattle.answers.specs.declared.Ran.{Ran as Fields}

pub made : (F : Family) (ws vs : List ℕ) (u : Update) (r : Reply) (x : Updated) → Made (levels F) ws vs u r
    → x ≡ updated (said_reply r) → HasUpdated F ws vs u x
made F ws vs u r x m e =
    record {
      answer = e ∙ ap updated m.answer;
      list = m.list;
      kept = λ n q. m.kept (ap is_refused (m.answer ∙ q));
      still = m.still;
      frame = m.frame;
      words = m.words;
    }

told_refused : (r : Outcome) (n : ℕ) (P : Type 0) → run_answer r ≡ refuses n → ((f : Refusal) → number f ≡ n → r ≡ Err f → P) → P
told_refused (Ok x) n P e k = absurd (given_refused e)
told_refused (Err f) n P e k = k f (refused_one e) refl

pub ran_so : (F : Family) (ws feed b vs c : List ℕ) (r : Outcome) (x : Fields) → Run F ws feed b vs c r → x ≡ ran (run_answer r)
    → HasRun F ws feed b vs c x
ran_so F ws feed b vs c r x p e =
    record {
      answer = e ∙ ap ran p.answer;
      list = p.list;
      replies = p.replies;
      kept = λ n q. told_refused r n (vs ≡ ws) (p.answer ∙ ap reported q) (λ f _. p.kept f);
      series = p.series;
      words = p.words;
    }
