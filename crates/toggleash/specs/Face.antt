-- What the C calls promise, in the numbers of `answers`. A family's calls promise the same of its addresses. Assumes nothing.
use Rattle.std.specs.Prelude.{◌≡◌, List, ◌++◌, ℕ, ◌≤◌, length, drop}
use Rattle.routes.specs.Family.{Family, levels, width}
use Rattle.routes.specs.Answers.{refused}
use Rattle.routes.specs.Seen.{refuses}
use Rattle.candidates.specs.Answers.{Update}
use Rattle.candidates.specs.Seen.{answer_on, after_on, clear_on, cleared_on, count_on, front_on}
use Rattle.candidates.specs.Seen.{run_on, ran_on, replied_on, records_on, answers_on}
use Rattle.words.specs.Table.{seen}
use Rattle.words.specs.TableBut.{Table}
use Rattle.paths.specs.Alike.{Alike}
use Rattle.update.specs.Anywhere.{local_words}
use Rattle.update.specs.Update.{Touches}
use Rattle.feed.specs.Series.{Series}
use Rattle.feed.specs.Turns.{IsTable}
use Rattle.feed.specs.Local.{ran_words}
use Rattle.feed.specs.Runs.{reported}
use Rattle.answers.specs.Numbers.{refusal, updated, wrote, ran}
use Rattle.answers.specs.declared.Updated.{Updated}
use Rattle.answers.specs.declared.Written.{Written}
use Rattle.answers.specs.declared.Ran.{Ran as Fields}

-- ---- what the calls that write promise of the lent memory

pub record HasCleared (F : Family) (ws vs : List ℕ) (r : ℕ) : Type 0 where
  pub answer : r ≡ refusal (clear_on (length ws))
  pub left : seen (levels F) vs ≡ cleared_on (length ws)
  pub kept : (n : ℕ) → clear_on (length ws) ≡ refuses n → vs ≡ ws

pub record HasUpdated (F : Family) (ws vs : List ℕ) (u : Update) (r : Updated) : Type 0 where
  pub answer : r ≡ updated (answer_on (width F) (seen (levels F) ws) u)
  pub list : seen (levels F) vs ≡ after_on (width F) (seen (levels F) ws) u
  pub kept : (n : ℕ) → answer_on (width F) (seen (levels F) ws) u ≡ refused n → vs ≡ ws
  -- a candidate that is held already changes no word
  pub still : seen (levels F) vs ≡ seen (levels F) ws → vs ≡ ws
  -- an array off the prefix's path has the same words, and where the prefix neither appears nor goes all but its own
  pub frame : (c : ℕ) → 1 ≤ c → ¬ Touches (levels F) u ws vs c → Alike ws vs c
  -- of a table, the words are those that the call which tests only what it touches leaves
  pub words : Table (levels F) ws → vs ≡ local_words (levels F) ws u

pub record HasWritten (F : Family) (ws b c : List ℕ) (r : Written) : Type 0 where
  pub answer : r ≡ wrote (count_on F (seen (levels F) ws) (length b))
  pub front : c ≡ front_on F (seen (levels F) ws) (length b) ++ drop (length (front_on F (seen (levels F) ws) (length b))) b

pub record HasRun (F : Family) (ws feed b vs c : List ℕ) (r : Fields) : Type 0 where
  pub answer : r ≡ ran (reported (run_on F (seen (levels F) ws) feed b))
  pub list : seen (levels F) vs ≡ ran_on F (seen (levels F) ws) feed b
  pub replies : c ≡ replied_on F (seen (levels F) ws) feed b
  pub kept : (n : ℕ) → run_on F (seen (levels F) ws) feed b ≡ refuses n → vs ≡ ws
  -- a call for each record taken: a lookup, and a record that is refused, leave every word
  pub series : Series (levels F) ws (records_on F (seen (levels F) ws) feed b) (answers_on F (seen (levels F) ws) feed b) vs
  -- of a table, the words are those that the run leaves which tests only what its records touch
  pub words : IsTable (seen (levels F) ws) → vs ≡ ran_words F ws feed (length b)
