-- What a run of a feed through a front promises, for every feed, every lent reply and all words: by what the words are seen to be
-- as a front and as a table. Assumes nothing.
use Rattle.std.specs.Prelude.{◌≡◌, List, ℕ, length, Err}
use Rattle.routes.specs.Seen.{Answer, gives, refuses}
use Rattle.words.specs.Table.{seen}
use Rattle.feed.specs.Runs.{Ran, run_answer}
use Rattle.feed.specs.declared.Report.{Report}
use Rattle.refusals.specs.declared.Refusal.{Refusal}
use Rattle.front.specs.Runs.{Ran as Outcome}
use Rattle.front.specs.Seen.{Stand, stand, run_on, ran_behind, ran_places, replied_on, events_on, answers_on}
use Rattle.rows.specs.Row.{IsWords}
use Rattle.damping.specs.View.{seen_front}
use Rattle.damping_run.specs.Series.{Series}

-- what the words are seen to be
abbrev pub standing : List ℕ → List ℕ → Answer Stand
standing fs ws = stand (seen_front fs) (seen 4 ws)

-- what is to be said of a run: stop, feed bytes consumed, reply bytes written, accepted updates, refused records
abbrev pub report_of : Outcome → Report
report_of o =
    record {
      stop = o.stop;
      consumed = o.end.consumed;
      written = length o.end.replies;
      accepted = o.end.accepted;
      refused = o.end.refused;
    }

abbrev pub reported : Answer Outcome → Answer Report
reported (gives o) = gives (report_of o)
reported (refuses n) = refuses n

-- a run on the words fs and ws and the reply bytes b left gs, vs and c, and answered r
pub record HasRun (fs ws feed b gs vs c : List ℕ) (r : Ran) : Type 0 where
  pub answer : run_answer r ≡ reported (run_on (standing fs ws) feed b)
  pub list : seen 4 vs ≡ ran_behind (standing fs ws) (seen 4 ws) feed b
  pub places : seen_front gs ≡ ran_places (standing fs ws) (seen_front fs) feed b
  pub replies : c ≡ replied_on (standing fs ws) feed b
  pub kept : (e : Refusal) → r ≡ Err e → (gs ≡ fs) × (vs ≡ ws)
  pub front : IsWords fs → IsWords gs
  -- a call for each record and tick taken
  pub series : Series fs ws (events_on (standing fs ws) feed b) (answers_on (standing fs ws) feed b) gs vs
