-- The round trip over the C face: a table written out by toggleash_write_out, and the bytes run by toggleash_run with reply room
-- enough on as many cleared words, give that table again. Assumes nothing.
--
--     words, a table ── toggleash_write_out ──▶ bytes ── toggleash_run ──▶ words', seen as the words are
--     as many words ─── toggleash_clear ──────▶ cleared ──────┘
use Rattle.std.specs.Prelude.{◌≡◌, List, [], ℕ, ◌+◌, ◌*◌, ◌≤◌, length, take}
use Rattle.routes.specs.Family.{Family, levels, width}
use Rattle.routes.specs.Bytes.{replies_bytes}
use Rattle.candidates.specs.Candidate.{Candidate}
use Rattle.candidates.specs.Answers.{replies}
use Rattle.candidates.specs.Bytes.{meanings, announced}
use Rattle.candidates.specs.Seen.{table, bytes_for}
use Rattle.words.specs.Table.{seen}
use Rattle.feed.specs.Runs.{HasRun as Made, run_answer}
use Rattle.answers.specs.Numbers.{ran}
use Rattle.toggleash.specs.Face.{HasCleared, HasWritten, HasRun}
use Rattle.answers.specs.declared.Written.{Written}
use Rattle.answers.specs.declared.Ran.{Ran as Fields}
use Rattle.calls.specs.Round as rattle
use Rattle.calls.specs.Below.{Below, clear_below, write_below, run-below}

-- the calls, each as its contract allows
pub record Trip (F : Family) (A : ℕ) (cs : List Candidate) : Type 0 where
  pub words : List ℕ
  pub table : seen (levels F) words ≡ table A cs
  -- toggleash_write_out into a buffer that is large enough: 10 bytes a candidate of IPv4, 22 of IPv6, and the end
  pub buffer : List ℕ
  pub fits : (levels F + 6) * length cs + 1 ≤ length buffer
  pub buffer' : List ℕ
  pub wrote : Written
  pub writes : HasWritten F words buffer buffer' wrote
  -- toggleash_clear of as many words
  pub lent : List ℕ
  pub same : length lent ≡ length words
  pub cleared : List ℕ
  pub refusal : ℕ
  pub clears : HasCleared F lent cleared refusal
  -- toggleash_run of the bytes written on them, with reply room enough
  pub reply : List ℕ
  pub enough : 5 * length cs ≤ length reply
  pub words' : List ℕ
  pub reply' : List ℕ
  pub ran : Fields
  pub runs : HasRun F cleared (take wrote.bytes buffer') reply words' reply' ran

-- nothing is refused, and it is the same list, each of its records accepted, at an end
pub record Again {F : Family} {A : ℕ} {cs : List Candidate} (t : Trip F A cs) : Type 0 where
  pub wrote : t.wrote ≡ record { refusal = 0; bytes = bytes_for F (length cs) }
  pub cleared : t.refusal ≡ 0
  pub list : seen (levels F) t.words' ≡ seen (levels F) t.words
  pub answer : t.ran ≡ record {
    refusal = 0;
    stop = 0;
    consumed = bytes_for F (length cs);
    written = length (replies_bytes (replies (width F) A [] (meanings (announced cs))));
    accepted = length cs;
    refused = 0;
  }

-- the calls below
abbrev pub runs : {F : Family} {A : ℕ} {cs : List Candidate} (t : Trip F A cs) → Below (λ x. ran (run_answer x))
    (Made F t.cleared (take t.wrote.bytes t.buffer') t.reply t.words' t.reply') t.ran
runs {F} t =
    run-below F t.cleared (take t.wrote.bytes t.buffer') t.reply t.words' t.reply' t.ran t.runs

abbrev pub under : {F : Family} {A : ℕ} {cs : List Candidate} → Trip F A cs → rattle.Trip F A cs
under {F} t =
    let w = write_below F t.words t.buffer t.buffer' t.wrote t.writes in
    let c = clear_below F t.lent t.cleared t.refusal t.clears in
    record {
      words = t.words;
      table = t.table;
      buffer = t.buffer;
      fits = t.fits;
      front = take t.wrote.bytes t.buffer';
      wrote = rattle.filled-front F (seen (levels F) t.words) t.buffer t.wrote.bytes t.buffer' w.promise.1;
      lent = t.lent;
      same = t.same;
      cleared = t.cleared;
      answer = c.answer;
      clears = c.promise;
      reply = t.reply;
      enough = t.enough;
      words' = t.words';
      reply' = t.reply';
      ran = (runs t).answer;
      runs = (runs t).promise;
    }
