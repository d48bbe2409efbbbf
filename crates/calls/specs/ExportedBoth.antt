-- Demand 3 over the C face: three calls of toggleash_run on cleared words, the joint feed and each of its two alone; and the same
-- where the records are sent by toggleash_announce and toggleash_withdraw, one by one. Assumes nothing.
--
--     toggleash_clear ── toggleash_run, or calls, of both ────▶ words that stand for the two lists joined
--     toggleash_clear ── toggleash_run, or calls, of the first ▶ .. for its list alone
--     toggleash_clear ── .. of the second ─────────────────────▶ .. for its list alone
use Rattle.std.specs.Prelude.{◌≡◌, ◌≢◌, List, [], ℕ, ◌+◌, ◌≤◌, length, take, Ok}
use Rattle.std.proofs.Common.{ap, ◌∙◌, le-ltb}
use Rattle.routes.specs.Family.{Family, levels, width}
use Rattle.routes.specs.Room.{need}
use Rattle.routes.specs.Answers.{Reply}
use Rattle.candidates.specs.Candidate.{Candidate}
use Rattle.candidates.specs.Winners.{winners}
use Rattle.candidates.specs.Answers.{Update, plains, looked_up, records}
use Rattle.candidates.specs.Bytes.{Sent as SentRecord, meanings, AllFit, written}
use Rattle.candidates.specs.Runs.{run}
use Rattle.candidates.specs.Seen.{table, lookup_on, check_on, bytes_for}
use Rattle.words.specs.Table.{seen}
use Rattle.lookup.specs.Walk.{walk}
use Rattle.routes.specs.Seen.{gives}
use Rattle.inside.specs.Inside.{prefixes_inside}
use Rattle.inside.specs.Seen.{asked, within_on}
use Rattle.within.specs.Walk as total
use Rattle.feed.specs.Runs.{Ran, HasRun as Made, run_answer, report_of}
use Rattle.feed.specs.declared.Report.{Report}
use Rattle.weaves.specs.Feeds.{Weave, flip, heard, kept, kept_both, Union, Closes, bytes, read_back}
use Rattle.answers.specs.Numbers.{counted, looked, totalled, ran}
use Rattle.toggleash.specs.Face.{HasWritten, HasRun}
use Rattle.answers.specs.declared.Counted.{Counted}
use Rattle.answers.specs.declared.Found.{Found}
use Rattle.answers.specs.declared.Total.{Total}
use Rattle.answers.specs.declared.Written.{Written}
use Rattle.answers.specs.declared.Ran.{Ran as Fields}
use Rattle.calls.specs.Held.{stopped}
use Rattle.calls.specs.Round.{filled-front}
use Rattle.calls.specs.Both as rattle
use Rattle.calls.specs.Below.{Below, lookup_below, within_below, check_below, write_below, run-below}
use Rattle.calls.specs.Exported.{Cleared, Series, cleared}

-- ---- words that stand for a list

-- toggleash_lookup and toggleash_within answer by it, toggleash_check counts it, and toggleash_write_out gives it
pub record Holds (F : Family) (A : ℕ) (cs : List Candidate) (ws : List ℕ) : Type 0 where
  pub list : seen (levels F) ws ≡ table A cs
  pub lookups : (a : ℕ) (r : Found) → r ≡ looked (lookup_on (width F) (seen (levels F) ws) (walk (levels F) ws a) a)
      → r ≡ looked (looked_up (width F) cs a)
  pub insides : (a l : ℕ) (r : Total) → r ≡ totalled (within_on (width F) (seen (levels F) ws) (total.walk (levels F) ws a l) a l)
      → r ≡ totalled (asked (width F) a l (gives (prefixes_inside (width F) cs a l)))
  pub checks : (r : Counted) → r ≡ counted (check_on (width F) (seen (levels F) ws))
      → r ≡ record { refusal = 0; routes = length cs; arrays = need (width F) (winners cs) }
  pub fronts : (b c : List ℕ) (r : Written) → bytes_for F (length cs) ≤ length b → HasWritten F ws b c r
      → take r.bytes c ≡ written F cs
  pub writes : (b c : List ℕ) (r : Written) → bytes_for F (length cs) ≤ length b → HasWritten F ws b c r
      → r ≡ record { refusal = 0; bytes = bytes_for F (length cs) }

pub holds : {F : Family} {A : ℕ} {cs : List Candidate} {ws : List ℕ} → rattle.Holds F A cs ws → Holds F A cs ws
holds {F} {A} {cs} {ws} h =
    record {
      list = h.list;
      lookups = λ a r p. (let b = lookup_below F ws a r p in b.told ∙ ap looked (h.lookups a b.answer b.promise));
      insides = λ a l r p. (let b = within_below F ws a l r p in b.told ∙ ap totalled (h.insides a l b.answer b.promise));
      checks = λ r p. (let b = check_below F ws r p in b.told ∙ ap counted (h.checks b.answer b.promise));
      fronts = λ b c r l p.
          h.fronts b (take r.bytes c) l
          (filled-front F (seen (levels F) ws) b r.bytes c (write_below F ws b c r p).promise.1);
      writes = λ b c r l p. p.answer ∙ rw (h.list, le-ltb (length b) (bytes_for F (length cs)) l);
    }

-- ---- by toggleash_run

-- a run of records that mean us, as bytes, on cleared words, as its contract allows, which did not stop for want of reply room
pub record Run (F : Family) (A : ℕ) (us : List Update) : Type 0 where
  pub words : List ℕ
  pub cleared : Cleared F A words
  pub sent : List SentRecord
  pub meant : meanings sent ≡ records us
  pub fits : AllFit F sent
  pub rest : List ℕ
  pub closes : Closes rest
  pub reply : List ℕ
  pub words' : List ℕ
  pub reply' : List ℕ
  pub ran : Fields
  pub runs : HasRun F words (bytes F sent rest) reply words' reply' ran
  pub enough : ran.stop ≢ 4

-- the replies, one for each update, read back from the reply bytes
abbrev pub replies : {F : Family} {A : ℕ} {us : List Update} → Run F A us → List Reply
replies {us = us} c = read_back us c.reply'

module _ {F : Family} {A : ℕ} {us : List Update} (c : Run F A us) where
  abbrev report : Report
  report = report_of (run F A [] (bytes F c.sent c.rest) (length c.reply))

  -- an answer of the run below, which is not refused either
  abbrev pub b : Below (λ t. ran (run_answer t))
      (Made F c.words (bytes F c.sent c.rest) c.reply c.words' c.reply') c.ran
  b = run-below F c.words (bytes F c.sent c.rest) c.reply c.words' c.reply' c.ran c.runs

  pub is_stopped : b.answer ≡ Ok report
  is_stopped = stopped b.answer report (rw (cleared c.cleared) at b.promise.answer)

  pub told-ran : c.ran ≡ ran (run_answer (Ok report))
  told-ran = b.told ∙ ap (λ (x : Ran). ran (run_answer x)) is_stopped

  pub taken : c.ran.refusal ≡ 0
  taken = ap (λ (x : Fields). x.refusal) told-ran

  -- the run below
  abbrev pub under : rattle.Run F A us
  under = record {
    words = c.words;
    cleared = cleared c.cleared;
    sent = c.sent;
    meant = c.meant;
    fits = c.fits;
    rest = c.rest;
    closes = c.closes;
    reply = c.reply;
    words' = c.words';
    reply' = c.reply';
    report = report;
    runs = rw is_stopped at b.promise;
    enough = λ z. c.enough (ap (λ (x : Fields). x.stop) told-ran ∙ z);
  }

-- the three runs: their replies, their counts, and the words that they leave
pub record RanBoth {F : Family} {A : ℕ} {xs ys zs : List Update} (w : Weave xs ys zs)
    (j : Run F A zs) (f : Run F A xs) (s : Run F A ys) : Type 0 where
  -- those that each feed hears from the joint run are those of its own, cells excepted
  pub first : plains (heard w (replies j)) ≡ plains (replies f)
  pub second : plains (heard (flip w) (replies j)) ≡ plains (replies s)
  pub accepted : j.ran.accepted ≡ f.ran.accepted + s.ran.accepted
  pub refused : j.ran.refused ≡ f.ran.refused + s.ran.refused
  pub first_list : seen (levels F) f.words' ≡ table A (kept (width F) A xs)
  pub second_list : seen (levels F) s.words' ≡ table A (kept (width F) A ys)
  pub union : Union (kept (width F) A xs) (kept (width F) A ys) (kept_both (width F) A xs ys)
  pub left : Holds F A (kept_both (width F) A xs ys) j.words'

-- ---- by toggleash_announce and toggleash_withdraw

-- the updates us sent one by one to cleared words, each call as its contract allows, and what their numbers say
pub record Sent (F : Family) (A : ℕ) (us : List Update) : Type 0 where
  pub words : List ℕ
  pub cleared : Cleared F A words
  pub replies : List Reply
  pub words' : List ℕ
  pub calls : Series F words (records us) replies words'

pub record SentBoth {F : Family} {A : ℕ} {xs ys zs : List Update} (w : Weave xs ys zs)
    (j : Sent F A zs) (f : Sent F A xs) (s : Sent F A ys) : Type 0 where
  pub first : plains (heard w j.replies) ≡ plains f.replies
  pub second : plains (heard (flip w) j.replies) ≡ plains s.replies
  pub first_list : seen (levels F) f.words' ≡ table A (kept (width F) A xs)
  pub second_list : seen (levels F) s.words' ≡ table A (kept (width F) A ys)
  pub union : Union (kept (width F) A xs) (kept (width F) A ys) (kept_both (width F) A xs ys)
  pub left : Holds F A (kept_both (width F) A xs ys) j.words'
