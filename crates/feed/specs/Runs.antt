-- What a run of a feed promises, for every feed, every lent reply and all words: by what the words are seen to be. Assumes
-- nothing.
use Rattle.std.specs.Prelude.{◌≡◌, true, false, List, ◌++◌, ℕ, length, drop, Result, Ok, Err}
use Rattle.routes.specs.Family.{Family, levels}
use Rattle.routes.specs.Seen.{Answer, gives, refuses}
use Rattle.candidates.specs.Runs.{Ran as Outcome}
use Rattle.candidates.specs.Seen.{misfits, run_on, ran_on, replied_on, records_on, answers_on}
use Rattle.words.specs.Table.{seen}
use Rattle.feed.specs.Turns.{IsTable}
use Rattle.feed.specs.Series.{Series}
use Rattle.feed.specs.Local.{local_run, ran_words, Called}
use Rattle.feed.specs.Local as Local
use Rattle.feed.specs.declared.Report.{Report}
use Rattle.refusals.specs.Number.{said}
use Rattle.refusals.specs.declared.Refusal.{Refusal}
use Rattle.refusals.specs.declared.Refusal.TheVariants.{Misfit}

-- a run stops, and is told of, or is refused
abbrev pub Ran : Type 0
Ran = Result Report Refusal

-- what a result says
abbrev pub run_answer : Ran → Answer Report
run_answer = said

-- what is to be said of a run: stop, feed bytes consumed, reply bytes written, accepted updates, refused records
abbrev pub report_of : Outcome → Report
report_of o =
    record {
      stop = o.stop;
      consumed = o.end.consumed;
      written = length o.end.replies;
      accepted = o.end.accepted;
      refused = o.end.refused;
    }

abbrev pub reported : Answer Outcome → Answer Report
reported (gives o) = gives (report_of o)
reported (refuses n) = refuses n

-- a run of a family's feed on the words ws and the reply bytes b left vs and c, and answered r
pub record HasRun (F : Family) (ws feed b vs c : List ℕ) (r : Ran) : Type 0 where
  pub answer : run_answer r ≡ reported (run_on F (seen (levels F) ws) feed b)
  pub list : seen (levels F) vs ≡ ran_on F (seen (levels F) ws) feed b
  pub replies : c ≡ replied_on F (seen (levels F) ws) feed b
  pub kept : (n : Refusal) → r ≡ Err n → vs ≡ ws
  -- a call for each record taken: a lookup, and a record that is refused, leave every word
  pub series : Series (levels F) ws (records_on F (seen (levels F) ws) feed b) (answers_on F (seen (levels F) ws) feed b) vs
  -- of a table, the words are those that a run leaves which tests only what its records touch
  pub words : IsTable (seen (levels F) ws) → vs ≡ ran_words F ws feed (length b)

-- ---- a run that tests what its records touch, and no more

-- what is to be said of it
abbrev pub local_report : Local.Ran → Report
local_report o =
    record {
      stop = o.stop;
      consumed = o.end.consumed;
      written = length o.end.replies;
      accepted = o.end.accepted;
      refused = o.end.refused;
    }

-- on any words of a right size, each record as its local call
pub record RanLocally (F : Family) (ws feed b vs c : List ℕ) (r : Report) : Type 0 where
  pub answer : r ≡ local_report (local_run F ws feed (length b))
  pub words : vs ≡ ran_words F ws feed (length b)
  pub replies : c ≡ (local_run F ws feed (length b)).end.replies ++ drop (length (local_run F ws feed (length b)).end.replies) b
  pub calls : Called (levels F) ws vs

-- and on a table the run
pub record RunsTable (F : Family) (ws feed b vs c : List ℕ) (r : Report) : Type 0 where
  pub ran : RanLocally F ws feed b vs c r
  pub table : IsTable (seen (levels F) ws) → HasRun F ws feed b vs c (Ok r)

-- words of a wrong size are refused, and no others; on a table it is the run
pub record HasRunLocally (F : Family) (ws feed b vs c : List ℕ) (r : Ran) : Type 0 where
  pub wrong : misfits (length ws) ≡ true → (r ≡ Err Misfit) × (vs ≡ ws) × (c ≡ b)
  pub told : Report
  pub right : misfits (length ws) ≡ false → (r ≡ Ok told) × RanLocally F ws feed b vs c told
  pub table : IsTable (seen (levels F) ws) → HasRun F ws feed b vs c r
