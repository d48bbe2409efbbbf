-- Item 8 of the run's calls: two feeds that differ by one swap of neighbours, each run on words that stand for one list. Assumes
-- nothing.
--
--     words ── run: before, x, y, after ──▶ words', reply'      the words stand for one list again, and the reply bytes to before
--     words ── run: before, y, x, after ──▶ words', reply'      and to after are the same
use Rattle.std.specs.Prelude.{◌≡◌, ◌≢◌, List, ◌++◌, ℕ, length, drop, Ok}
use Rattle.std.proofs.Common.{ap, ◌∙◌}
use Rattle.routes.specs.Family.{Family, levels}
use Rattle.candidates.specs.Candidate.{Candidate}
use Rattle.candidates.specs.Bytes.{Sent, AllFit}
use Rattle.candidates.specs.Runs.{Ran, run}
use Rattle.candidates.specs.Seen.{table}
use Rattle.laws.specs.Given.{given_one}
use Rattle.words.specs.Table.{seen}
use Rattle.feed.specs.Runs.{HasRun, report_of}
use Rattle.feed.specs.declared.Report.{Report}
use Rattle.weaves.specs.Feeds.{Closes, bytes}
use Rattle.calls.specs.Swapped.{LaterAlike}
use Rattle.calls.specs.SwappedFeeds.{FeedRun, outcome, FeedsSwapped}

-- a run of the records ss on words that stand for cs, as its contract allows, which did not stop for want of reply room
pub record RunOf (F : Family) (A : ℕ) (cs : List Candidate) (ss : List Sent) : Type 0 where
  pub words : List ℕ
  pub is : seen (levels F) words ≡ table A cs
  pub fits : AllFit F ss
  pub rest : List ℕ
  pub closes : Closes rest
  pub reply : List ℕ
  pub words' : List ℕ
  pub reply' : List ℕ
  pub report : Report
  pub runs : HasRun F words (bytes F ss rest) reply words' reply' (Ok report)
  pub enough : report.stop ≢ 4

module _ {F : Family} {A : ℕ} {cs : List Candidate} {ss : List Sent} (c : RunOf F A cs ss) where
  pub reported : c.report ≡ report_of (run F A cs (bytes F ss c.rest) (length c.reply))
  reported = given_one (rw c.is at c.runs.answer)

  -- the run of the definitions
  abbrev pub feed_run : FeedRun F A cs ss
  feed_run = record {
    fits = c.fits;
    rest = c.rest;
    closes = c.closes;
    room = length c.reply;
    enough = λ e. c.enough (ap (λ (p : Report). p.stop) reported ∙ e);
  }

  abbrev pub ran_to : Ran
  ran_to = outcome feed_run

  pub run-replies : c.reply' ≡ ran_to.end.replies ++ drop (length ran_to.end.replies) c.reply
  run-replies = rw c.is at c.runs.replies

  pub run_list : seen (levels F) c.words' ≡ table A ran_to.end.list
  run_list = rw c.is at c.runs.list

-- what the two runs come to: their replies as the definitions' runs have them, one list, and all later answers alike
pub record RunsSwapped {F : Family} {A : ℕ} {cs : List Candidate} {ss ts : List Sent}
    (p : RunOf F A cs ss) (q : RunOf F A cs ts) : Type 0 where
  pub feeds : FeedsSwapped (ran_to p) (ran_to q)
  pub one_replies : p.reply' ≡ (ran_to p).end.replies ++ drop (length (ran_to p).end.replies) p.reply
  pub other_replies : q.reply' ≡ (ran_to q).end.replies ++ drop (length (ran_to q).end.replies) q.reply
  pub list : seen (levels F) p.words' ≡ seen (levels F) q.words'
  pub later : LaterAlike F p.words' q.words'
