-- The round trip over the C face: a table written out by toggleash_write_out, and the bytes run by toggleash_run with reply room
-- enough on as many cleared words, give that table again. Assumes nothing.
--
--     words, a table ── toggleash_write_out ──▶ bytes ── toggleash_run ──▶ words', seen as the words are
--     as many words ─── toggleash_clear ──────▶ cleared ──────┘
use Rattle.std.specs.Prelude.{List, ℕ, length}
use Rattle.std.proofs.Common.{ap, ◌∙◌, le-ltb}
use Rattle.routes.specs.Family.{Family}
use Rattle.candidates.specs.Candidate.{Candidate}
use Rattle.candidates.specs.Seen.{bytes_for}
use Rattle.feed.specs.Runs.{Ran, run_answer}
use Rattle.answers.specs.Numbers.{ran}
use Rattle.calls.specs.Held.{held}
use Rattle.calls.specs.Round as rattle
use Rattle.calls.specs.ExportedRound.{Trip, Again, runs, under}

pub again_exported : {F : Family} {A : ℕ} {cs : List Candidate} (t : Trip F A cs) → Again t
again_exported {F} {A} {cs} t =
    let h = held F A cs t.words t.table in
    let a = rattle.again (under t) in
    record {
      wrote = t.writes.answer ∙ rw (t.table, le-ltb (length t.buffer) (bytes_for F (length cs)) t.fits);
      cleared = t.clears.answer ∙ rw (t.same, h.size);
      list = a.list;
      answer = (runs t).told ∙ ap (λ (x : Ran). ran (run_answer x)) a.answer;
    }
