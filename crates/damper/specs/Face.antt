-- What the numbers of the front's C face say: the refusal's number, or 0 and the values; every field not meant is 0. Assumes
-- nothing.
use Rattle.std.specs.Prelude.{◌≡◌, ◌⊎◌, List, ℕ, ◌≤◌}
use Rattle.routes.specs.Answers.{refused}
use Rattle.routes.specs.Seen.{Answer, gives, refuses}
use Rattle.candidates.specs.Answers.{Update}
use Rattle.words.specs.Table.{seen}
use Rattle.words.specs.TableBut.{Table}
use Rattle.paths.specs.Alike.{Alike}
use Rattle.replies.specs.Said.{said_reply}
use Rattle.replies.specs.declared.Reply as code
use Rattle.update.specs.Anywhere.{local_words}
use Rattle.update.specs.Update.{Touches}
use Rattle.feed.specs.Runs.{Ran as Outcome, run_answer}
use Rattle.front.specs.Seen.{Held, damped_on, behind_on, places_on, tick_on, behind_tick, places_tick}
use Rattle.front.specs.Seen.{run_on, ran_behind, ran_places, replied_on, events_on, answers_on}
use Rattle.rows.specs.Row.{IsWords}
use Rattle.damping.specs.View.{seen_front}
use Rattle.damping.specs.Locally.{HasDampedLocally}
use Rattle.damping.specs.Behind.{news_on, Installs}
use Rattle.damping.specs.Held.{Checked, check_answer}
use Rattle.damping.specs.Ticks as front
use Rattle.damping_run.specs.Series.{Series}
use Rattle.damping_run.specs.Runs.{standing, reported}
use Rattle.damping_run.specs.Locally as fed
use Rattle.damper.specs.declared.Front.{Front}
use Rattle.answers.specs.Numbers.{updated, ran}
use Rattle.answers.specs.declared.Updated.{Updated}
use Rattle.answers.specs.declared.Ran.{Ran as Fields}

abbrev pub held : Answer Held → Front
held (gives h) = record { refusal = 0; places = h.places; held_back = h.back }
held (refuses n) = record { refusal = n; places = 0; held_back = 0 }

-- ---- what the calls that write promise of the lent memory: the front's words fs became gs, the table's ws became vs

pub record HasUpdated (fs ws gs vs : List ℕ) (u : Update) (r : Updated) : Type 0 where
  pub answer : r ≡ updated (damped_on 32 (seen_front fs) (seen 4 ws) u)
  pub list : seen 4 vs ≡ behind_on 32 (seen_front fs) (seen 4 ws) u
  pub places : seen_front gs ≡ places_on 32 (seen_front fs) (seen 4 ws) u
  pub kept : (n : ℕ) → damped_on 32 (seen_front fs) (seen 4 ws) u ≡ refused n → (gs ≡ fs) × (vs ≡ ws)
  pub front : IsWords fs → IsWords gs
  -- where the table is seen as before no word of it is changed, and an array off the prefix's path never is
  pub still : seen 4 vs ≡ seen 4 ws → vs ≡ ws
  pub frame : (c : ℕ) → 1 ≤ c → ¬ Touches 4 u ws vs c → Alike ws vs c
  -- no word of the table is changed, or they are those that its own local call of the update leaves
  pub words : (vs ≡ ws) ⊎ (vs ≡ local_words 4 ws u)

pub record HasTicked (fs ws gs vs : List ℕ) (r : Front) : Type 0 where
  pub answer : r ≡ held (tick_on 32 (seen_front fs) (seen 4 ws))
  pub list : seen 4 vs ≡ behind_tick 32 (seen_front fs) (seen 4 ws)
  pub places : seen_front gs ≡ places_tick 32 (seen_front fs) (seen 4 ws)
  pub kept : (n : ℕ) → tick_on 32 (seen_front fs) (seen 4 ws) ≡ refuses n → (gs ≡ fs) × (vs ≡ ws)
  pub front : IsWords fs → IsWords gs
  -- where the table is seen as before no word of it is changed
  pub still : IsWords fs → seen 4 vs ≡ seen 4 ws → vs ≡ ws
  -- its words are changed by its own calls alone, one for each that is installed
  pub behind : Installs ws (news_on (seen_front fs) (seen 4 ws)) vs

pub record HasRun (fs ws feed b gs vs c : List ℕ) (r : Fields) : Type 0 where
  pub answer : r ≡ ran (reported (run_on (standing fs ws) feed b))
  pub list : seen 4 vs ≡ ran_behind (standing fs ws) (seen 4 ws) feed b
  pub places : seen_front gs ≡ ran_places (standing fs ws) (seen_front fs) feed b
  pub replies : c ≡ replied_on (standing fs ws) feed b
  pub kept : (n : ℕ) → run_on (standing fs ws) feed b ≡ refuses n → (gs ≡ fs) × (vs ≡ ws)
  pub front : IsWords fs → IsWords gs
  -- a call for each record and tick taken: a lookup, and a record that is refused, leave every word
  pub series : Series fs ws (events_on (standing fs ws) feed b) (answers_on (standing fs ws) feed b) gs vs

-- ---- the local calls: those below, their answers in plain numbers; on a table, the calls above

pub record HasUpdatedLocally (fs ws gs vs : List ℕ) (u : Update) (r : Updated) : Type 0 where
  pub reply : code.Reply
  pub call : HasDampedLocally fs ws gs vs u reply
  pub answer : r ≡ updated (said_reply reply)
  pub table : Table 4 ws → HasUpdated fs ws gs vs u r

pub record HasTickedLocally (fs ws gs vs : List ℕ) (r : Front) : Type 0 where
  pub count : Checked
  pub call : front.HasTickedLocally fs ws gs vs count
  pub answer : r ≡ held (check_answer count)
  pub table : Table 4 ws → HasTicked fs ws gs vs r

pub record HasRunLocally (fs ws feed b gs vs c : List ℕ) (r : Fields) : Type 0 where
  pub outcome : Outcome
  pub call : fed.HasRunLocally fs ws feed b gs vs c outcome
  pub answer : r ≡ ran (run_answer outcome)
  pub table : Table 4 ws → HasRun fs ws feed b gs vs c r
