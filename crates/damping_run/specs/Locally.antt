-- What run_local promises, on any words: it tests the front's words once, and of the table's only what each record and each
-- installation of a tick touches. Assumes nothing.
--
--     the first of 1 and 2 (no front)    all three memories stay
--     else                               a local call for each record and tick that no test stops the run before, and one
--                                        reply for each
use Rattle.std.specs.Prelude.{◌≡◌, ◌≢◌, List, [], ◌++◌, ℕ, ◌+◌, length, drop, eqb, Ok, Err}
use Rattle.routes.specs.Answers.{Reply, done, is_refused}
use Rattle.routes.specs.Bytes.{reply_bytes}
use Rattle.candidates.specs.Answers.{Update, update, lookup}
use Rattle.candidates.specs.Runs.{tally}
use Rattle.candidates.specs.Seen.{lookup_on}
use Rattle.words.specs.Table.{seen}
use Rattle.words.specs.TableBut.{Table}
use Rattle.replies.specs.Said.{said_reply}
use Rattle.replies.specs.declared.Reply as code
use Rattle.lookup.specs.Walk.{walk}
use Rattle.feed.specs.Progress.{one}
use Rattle.feed.specs.Runs.{Ran}
use Rattle.feed.specs.declared.Report.{Report}
use Rattle.refusals.specs.Number.{refusal_of}
use Rattle.refusals.specs.declared.Refusal.{Refusal}
use Rattle.front.specs.Front.{Event, asks, tick, accepts}
use Rattle.front.specs.Runs.{event_at, size_at, halts}
use Rattle.rows.specs.Row.{IsWords}
use Rattle.damping.specs.Locally.{refusal_before, HasDampedLocally}
use Rattle.damping.specs.Tick.{TickedLocally}
use Rattle.damping_run.specs.Runs.{HasRun}

-- the local call of a record or a tick on the words fs and ws was answered y and left gs and vs, as its contract allows
pub data AskedLocally (fs ws : List ℕ) : Event → Reply → List ℕ → List ℕ → Type 0 where
  updated : {u : Update} {gs vs : List ℕ} (r : code.Reply) → HasDampedLocally fs ws gs vs u r
      → AskedLocally fs ws (asks (update u)) (said_reply r) gs vs
  looked : {a : ℕ} (r : code.Reply) → said_reply r ≡ lookup_on 32 (seen 4 ws) (walk 4 ws a) a
      → AskedLocally fs ws (asks (lookup a)) (said_reply r) fs ws
  ticked : {gs vs : List ℕ} → TickedLocally fs ws gs vs → AskedLocally fs ws tick (done 0 0) gs vs

-- ---- how far a run has come

-- the feed bytes consumed, the reply bytes, accepted updates, refused records
pub record Note : Type 0 where
  pub consumed : ℕ
  pub replies : List ℕ
  pub accepted : ℕ
  pub refused : ℕ

abbrev pub blank : Note
blank = record { consumed = 0; replies = []; accepted = 0; refused = 0 }

-- what is next was answered y
abbrev pub noted : List ℕ → Note → Reply → Note
noted feed n y =
    record {
      consumed = n.consumed + size_at feed n.consumed;
      replies = n.replies ++ reply_bytes y;
      accepted = tally (accepts (event_at feed n.consumed) y) n.accepted;
      refused = tally (is_refused y) n.refused;
    }

-- the stop that the tests find then, with so many reply bytes lent, or 5 for none
abbrev pub halts_at : List ℕ → ℕ → Note → ℕ
halts_at feed room n = halts feed room n.consumed (length n.replies)

-- a run from the words fs and ws has come so far, with the words gs and vs: a call for each record and tick
pub data Gone (feed : List ℕ) (room : ℕ) (fs ws : List ℕ) : Note → List ℕ → List ℕ → Type 0 where
  nowhere : Gone feed room fs ws blank fs ws
  further : {n : Note} {gs vs hs us : List ℕ} {y : Reply} → Gone feed room fs ws n gs vs → halts_at feed room n ≡ 5
      → AskedLocally gs vs (event_at feed n.consumed) y hs us → Gone feed room fs ws (noted feed n y) hs us

-- ---- the whole

-- an end is consumed, another record that stops the run is not
abbrev pub report_at : ℕ → Note → Report
report_at stop n =
    record {
      stop = stop;
      consumed = n.consumed + one (eqb stop 0);
      written = length n.replies;
      accepted = n.accepted;
      refused = n.refused;
    }

-- the replies in front of the bytes b, those past them untouched
pub record RanLocally (fs ws feed b gs vs c : List ℕ) (r : Ran) : Type 0 where
  pub note : Note
  pub gone : Gone feed (length b) fs ws note gs vs
  pub stopped : halts_at feed (length b) note ≢ 5
  pub answer : r ≡ Ok (report_at (halts_at feed (length b) note) note)
  pub replies : c ≡ note.replies ++ drop (length note.replies) b

-- a run on any words fs and ws and the reply bytes b left gs, vs and c, and answered r
pub record HasRunLocally (fs ws feed b gs vs c : List ℕ) (r : Ran) : Type 0 where
  pub first : refusal_before fs ws 0 ≢ 0 → r ≡ Err (refusal_of (refusal_before fs ws 0))
  pub work : refusal_before fs ws 0 ≡ 0 → RanLocally fs ws feed b gs vs c r
  pub kept : (e : Refusal) → r ≡ Err e → (gs ≡ fs) × (vs ≡ ws) × (c ≡ b)
  pub front : IsWords fs → IsWords gs
  -- on a table it is the run that tests all of it
  pub table : Table 4 ws → HasRun fs ws feed b gs vs c r
