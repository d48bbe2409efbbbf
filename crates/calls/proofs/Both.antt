-- Demand 3 over the calls: three runs of feeds on cleared words, the joint feed and each of its two alone; and the same where the
-- records are sent by the update calls, one by one. Assumes nothing.
--
--     cleared words ── run, or calls, of both ────▶ words that stand for the two lists joined
--     cleared words ── run, or calls, of the first ▶ .. for its list alone
--     cleared words ── .. of the second ───────────▶ .. for its list alone
use Rattle.std.specs.Prelude.{◌≡◌, List, [], ℕ, ◌+◌, ◌*◌, ◌≤◌, length}
use Rattle.routes.specs.Family.{Family, levels, width}
use Rattle.candidates.specs.Answers.{Update, plains, records}
use Rattle.candidates.specs.Bytes.{Sent as SentRecord, meanings, AllFit}
use Rattle.candidates.specs.Runs.{run}
use Rattle.candidates.specs.Seen.{table}
use Rattle.words.specs.Table.{seen}
use Rattle.feed.specs.Runs.{Ran, HasRun, report_of}
use Rattle.weaves.specs.Feeds.{Weave, flip, heard, kept_both, Meets, Closes, bytes}
use Rattle.weaves.proofs.Enough.{enough}
use Rattle.calls.proofs.Three.{demand_3_called}
use Rattle.calls.specs.Three.{Called}
use Rattle.calls.specs.Held.{stopped}
use Rattle.calls.specs.Both.{Holds, holds, Run, reported, call, replies}

-- any run of them with five reply bytes for each record is one
abbrev pub roomy : (F : Family) {A : ℕ} {us : List Update} (ss : List SentRecord) (ws rest b vs c : List ℕ) (r : Ran)
    → seen (levels F) ws ≡ table A [] → meanings ss ≡ records us → AllFit F ss → Closes rest → 5 * length ss ≤ length b
    → HasRun F ws (bytes F ss rest) b vs c r → Run F A us
roomy F {A} ss ws rest b vs c r t m f e h p =
    record {
      words = ws;
      cleared = t;
      sent = ss;
      meant = m;
      fits = f;
      rest = rest;
      closes = e;
      reply = b;
      words' = vs;
      reply' = c;
      report = report_of (run F A [] (bytes F ss rest) (length b));
      runs = rw (stopped r (report_of (run F A [] (bytes F ss rest) (length b))) (rw t at p.answer)) at p;
      enough = enough F A [] ss f rest e (length b) h;
    }

-- the three runs: each answer, the counts, and the words that the joint one leaves
pub record RanBoth {F : Family} {A : ℕ} {xs ys zs : List Update} (w : Weave xs ys zs)
    (j : Run F A zs) (f : Run F A xs) (s : Run F A ys) : Type 0 where
  -- the replies read back from the joint run's reply bytes are those read back from each feed's own, cells excepted
  pub first : plains (heard w (replies j)) ≡ plains (replies f)
  pub second : plains (heard (flip w) (replies j)) ≡ plains (replies s)
  -- answers alike, cells excepted; reply bytes, stop and bytes consumed of each; the union
  pub called : Called w (call j) (call f) (call s)
  pub accepted : j.report.accepted ≡ f.report.accepted + s.report.accepted
  pub refused : j.report.refused ≡ f.report.refused + s.report.refused
  pub left : Holds F A (kept_both (width F) A xs ys) j.words'

pub demand_3_run : {F : Family} {A : ℕ} {xs ys zs : List Update} (w : Weave xs ys zs) → Meets (width F) A xs ys
    → (j : Run F A zs) (f : Run F A xs) (s : Run F A ys) → RanBoth w j f s
demand_3_run {F} {A} {xs} {ys} w m j f s =
    let c = demand_3_called w m (call j) (call f) (call s) in
    record {
      first = c.first_read;
      second = c.second_read;
      called = c;
      accepted = rw (reported j, reported f, reported s) c.accepted;
      refused = rw (reported j, reported f, reported s) c.refused;
      left = holds F A (kept_both (width F) A xs ys) j.words' c.list;
    }
