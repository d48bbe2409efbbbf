-- Demand 3 over the calls: three runs of feeds on cleared words, the joint feed and each of its two alone; and the same where the
-- records are sent by the update calls, one by one. Assumes nothing.
--
--     cleared words ── run, or calls, of both ────▶ words that stand for the two lists joined
--     cleared words ── run, or calls, of the first ▶ .. for its list alone
--     cleared words ── .. of the second ───────────▶ .. for its list alone
use Rattle.std.specs.Prelude.{◌≡◌, ◌≢◌, List, [], ℕ, ◌≤◌, length, Result, Ok}
use Rattle.std.proofs.Common.{ap, ◌∙◌, le-ltb}
use Rattle.routes.specs.Family.{Family, levels, width}
use Rattle.routes.specs.Room.{need}
use Rattle.routes.specs.Answers.{Reply}
use Rattle.routes.specs.Seen.{gives}
use Rattle.candidates.specs.Candidate.{Candidate}
use Rattle.candidates.specs.Winners.{winners}
use Rattle.candidates.specs.Answers.{Update, plains, looked_up, records}
use Rattle.candidates.specs.Bytes.{Sent as SentRecord, meanings, AllFit, written}
use Rattle.candidates.specs.Runs.{Ran as Outcome, run}
use Rattle.candidates.specs.Seen.{table, lookup_on, check_on, bytes_for, front_on}
use Rattle.laws.specs.Given.{given_one}
use Rattle.words.specs.Table.{seen}
use Rattle.audit.specs.Answer.{check_answer}
use Rattle.audit.specs.declared.Counts.{Counts}
use Rattle.refusals.specs.declared.Refusal.{Refusal}
use Rattle.replies.specs.Said.{said_reply}
use Rattle.replies.specs.declared.Reply as code
use Rattle.lookup.specs.Walk.{walk}
use Rattle.inside.specs.Inside.{prefixes_inside}
use Rattle.inside.specs.Seen.{asked, within_on}
use Rattle.within.specs.Walk as total
use Rattle.within.specs.Answer.{within_answer}
use Rattle.feed.specs.Runs.{HasRun, report_of}
use Rattle.feed.specs.declared.Report.{Report}
use Rattle.weaves.specs.Feeds.{Weave, flip, heard, kept, kept_both, Union, Meets, Closes, bytes, read_back}
use Rattle.weaves.proofs.Joined.{demand_3_family}
use Rattle.calls.specs.Three.{Call, promise}
use Rattle.feed.specs.Series.{Series, all_answered}

-- ---- words that stand for a list

-- lookup and within answer by it, the check counts it, and writing out gives it
pub record Holds (F : Family) (A : ℕ) (cs : List Candidate) (ws : List ℕ) : Type 0 where
  pub list : seen (levels F) ws ≡ table A cs
  pub lookups : (a : ℕ) (r : code.Reply) → said_reply r ≡ lookup_on (width F) (seen (levels F) ws) (walk (levels F) ws a) a
      → said_reply r ≡ looked_up (width F) cs a
  pub insides : (a l : ℕ) (r : Result ℕ Refusal)
      → within_answer r ≡ within_on (width F) (seen (levels F) ws) (total.walk (levels F) ws a l) a l
      → within_answer r ≡ asked (width F) a l (gives (prefixes_inside (width F) cs a l))
  pub checks : (r : Result Counts Refusal) → check_answer r ≡ check_on (width F) (seen (levels F) ws)
      → check_answer r ≡ gives (record { routes = length cs; arrays = need (width F) (winners cs) })
  pub fronts : (b front : List ℕ) → bytes_for F (length cs) ≤ length b → front ≡ front_on F (seen (levels F) ws) (length b)
      → front ≡ written F cs

pub holds : (F : Family) (A : ℕ) (cs : List Candidate) (ws : List ℕ) → seen (levels F) ws ≡ table A cs → Holds F A cs ws
holds F A cs ws e =
    record {
      list = e;
      lookups = λ a r p. rw e at p;
      insides = λ a l r p. rw e at p;
      checks = λ r p. rw e at p;
      fronts = λ b x h p. p ∙ rw (e, le-ltb (length b) (bytes_for F (length cs)) h);
    }

-- ---- by the run

-- a run of records that mean us, as bytes, on cleared words, as its contract allows, which did not stop for want of reply room
pub record Run (F : Family) (A : ℕ) (us : List Update) : Type 0 where
  pub words : List ℕ
  pub cleared : seen (levels F) words ≡ table A []
  pub sent : List SentRecord
  pub meant : meanings sent ≡ records us
  pub fits : AllFit F sent
  pub rest : List ℕ
  pub closes : Closes rest
  pub reply : List ℕ
  pub words' : List ℕ
  pub reply' : List ℕ
  pub report : Report
  pub runs : HasRun F words (bytes F sent rest) reply words' reply' (Ok report)
  pub enough : report.stop ≢ 4

module _ {F : Family} {A : ℕ} {us : List Update} (c : Run F A us) where
  abbrev outcome : Outcome
  outcome = run F A [] (bytes F c.sent c.rest) (length c.reply)

  -- the report is that of the run's definition
  pub reported : c.report ≡ report_of outcome
  reported = given_one (rw c.cleared at c.runs.answer)

  abbrev pub call : Call F A us
  call = record {
    words = c.words;
    sent = c.sent;
    rest = c.rest;
    reply = c.reply;
    words' = c.words';
    reply' = c.reply';
    ran = outcome;
    cleared = c.cleared;
    meant = c.meant;
    fits = c.fits;
    closes = c.closes;
    runs = promise F c.cleared c.runs.list c.runs.replies;
    enough = λ e. c.enough (ap (λ (p : Report). p.stop) reported ∙ e);
  }

  -- the replies, one for each update, read back from the reply bytes
  abbrev pub replies : List Reply
  replies = read_back us c.reply'

-- ---- by the update calls

-- the updates us sent one by one to cleared words, each call as its contract allows
pub record Sent (F : Family) (A : ℕ) (us : List Update) : Type 0 where
  pub words : List ℕ
  pub cleared : seen (levels F) words ≡ table A []
  pub replies : List Reply
  pub words' : List ℕ
  pub calls : Series (levels F) words (records us) replies words'

pub record SentBoth {F : Family} {A : ℕ} {xs ys zs : List Update} (w : Weave xs ys zs)
    (j : Sent F A zs) (f : Sent F A xs) (s : Sent F A ys) : Type 0 where
  pub first : plains (heard w j.replies) ≡ plains f.replies
  pub second : plains (heard (flip w) j.replies) ≡ plains s.replies
  pub first_list : seen (levels F) f.words' ≡ table A (kept (width F) A xs)
  pub second_list : seen (levels F) s.words' ≡ table A (kept (width F) A ys)
  pub union : Union (kept (width F) A xs) (kept (width F) A ys) (kept_both (width F) A xs ys)
  pub left : Holds F A (kept_both (width F) A xs ys) j.words'

pub demand_3_sent : {F : Family} {A : ℕ} {xs ys zs : List Update} (w : Weave xs ys zs) → Meets (width F) A xs ys
    → (j : Sent F A zs) (f : Sent F A xs) (s : Sent F A ys) → SentBoth w j f s
demand_3_sent {F} {A} {xs} {ys} {zs} w m j f s =
    let i = demand_3_family F A xs ys zs w m in
    let p = all_answered (levels F) A [] j.cleared j.calls in
    let q = all_answered (levels F) A [] f.cleared f.calls in
    let r = all_answered (levels F) A [] s.cleared s.calls in
    record {
      first = rw (p.answers, q.answers) i.first_heard;
      second = rw (p.answers, r.answers) i.second-heard;
      first_list = q.list;
      second_list = r.list;
      union = i.union;
      left = holds F A (kept_both (width F) A xs ys) j.words' (p.list ∙ ap (table A) i.joined);
    }
