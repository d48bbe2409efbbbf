-- Item 8 over the C face: neighbouring updates swapped, sent by four calls of toggleash_announce and toggleash_withdraw, and by
-- two calls of toggleash_run whose feeds differ by the swap, on words that stand for one list. Assumes nothing.
use Rattle.std.specs.Prelude.{◌≡◌, ◌≢◌, List, ℕ, length, Ok}
use Rattle.std.proofs.Common.{ap, ◌∙◌}
use Rattle.routes.specs.Family.{Family, levels}
use Rattle.routes.specs.Answers.{Reply}
use Rattle.candidates.specs.Candidate.{Candidate}
use Rattle.candidates.specs.Answers.{Update, Record, update, plain}
use Rattle.candidates.specs.Bytes.{Sent, AllFit}
use Rattle.candidates.specs.Runs.{run}
use Rattle.candidates.specs.Seen.{table}
use Rattle.words.specs.Table.{seen}
use Rattle.feed.specs.Runs.{Ran, HasRun as Made, run_answer, report_of}
use Rattle.feed.specs.declared.Report.{Report}
use Rattle.weaves.specs.Feeds.{Closes, bytes}
use Rattle.answers.specs.Numbers.{ran}
use Rattle.toggleash.specs.Face.{HasRun}
use Rattle.answers.specs.declared.Ran.{Ran as Fields}
use Rattle.calls.specs.Held.{stopped}
use Rattle.calls.specs.Below.{Below, run-below}
use Rattle.calls.specs.Exported.{Asked, Series}
use Rattle.calls.specs.SwappedRuns as runs

-- later calls tell two such runs of words not apart
pub record LaterAlike (F : Family) (ws vs : List ℕ) : Type 0 where
  pub calls : {ws' vs' : List ℕ} {xs : List Record} {ys zs : List Reply} → Series F ws xs ys ws' → Series F vs xs zs vs'
      → (ys ≡ zs) × (seen (levels F) ws' ≡ seen (levels F) vs')

-- ---- four calls

-- u, then v, on words that stand for cs, and what the calls' numbers say
pub record InTurn (F : Family) (A : ℕ) (cs : List Candidate) (u v : Update) : Type 0 where
  pub words : List ℕ
  pub is : seen (levels F) words ≡ table A cs
  pub between : List ℕ
  pub words' : List ℕ
  pub first : Reply
  pub second : Reply
  pub calls_first : Asked F words (update u) first between
  pub calls-second : Asked F between (update v) second words'

-- ---- two runs

-- a run of the records ss on words that stand for cs, as its contract allows, which did not stop for want of reply room
pub record RunOf (F : Family) (A : ℕ) (cs : List Candidate) (ss : List Sent) : Type 0 where
  pub words : List ℕ
  pub is : seen (levels F) words ≡ table A cs
  pub fits : AllFit F ss
  pub rest : List ℕ
  pub closes : Closes rest
  pub reply : List ℕ
  pub words' : List ℕ
  pub reply' : List ℕ
  pub ran : Fields
  pub runs : HasRun F words (bytes F ss rest) reply words' reply' ran
  pub enough : ran.stop ≢ 4

module _ {F : Family} {A : ℕ} {cs : List Candidate} {ss : List Sent} (c : RunOf F A cs ss) where
  abbrev pub report : Report
  report = report_of (run F A cs (bytes F ss c.rest) (length c.reply))

  abbrev pub b : Below (λ t. ran (run_answer t))
      (Made F c.words (bytes F ss c.rest) c.reply c.words' c.reply') c.ran
  b = run-below F c.words (bytes F ss c.rest) c.reply c.words' c.reply' c.ran c.runs

  is_stopped : b.answer ≡ Ok report
  is_stopped = stopped b.answer report (rw c.is at b.promise.answer)

  pub made : Made F c.words (bytes F ss c.rest) c.reply c.words' c.reply' (Ok report)
  made = rw is_stopped at b.promise

  pub told-ran : c.ran ≡ ran (run_answer (Ok report))
  told-ran = b.told ∙ ap (λ (x : Ran). ran (run_answer x)) is_stopped

  -- the run below
  abbrev pub run_under : runs.RunOf F A cs ss
  run_under = record {
    words = c.words;
    is = c.is;
    fits = c.fits;
    rest = c.rest;
    closes = c.closes;
    reply = c.reply;
    words' = c.words';
    reply' = c.reply';
    report = report;
    runs = made;
    enough = λ z. c.enough (ap (λ (x : Fields). x.stop) told-ran ∙ z);
  }

-- what they come to is what the runs below come to, and no later calls of C tell the words apart
pub record RunsSwapped {F : Family} {A : ℕ} {cs : List Candidate} {ss ts : List Sent}
    (p : RunOf F A cs ss) (q : RunOf F A cs ts) : Type 0 where
  pub below : runs.RunsSwapped (run_under p) (run_under q)
  pub later : LaterAlike F p.words' q.words'

pub record CallsSwapped {F : Family} {A : ℕ} {cs : List Candidate} {u v : Update}
    (p : InTurn F A cs u v) (q : InTurn F A cs v u) : Type 0 where
  pub one : plain p.first ≡ plain q.second
  pub other : plain p.second ≡ plain q.first
  pub list : seen (levels F) p.words' ≡ seen (levels F) q.words'
  pub later : LaterAlike F p.words' q.words'
