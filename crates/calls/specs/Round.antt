-- The round trip over the calls: a table written out, and the bytes run with reply room enough on cleared words of the same
-- number, give that table again. Assumes nothing.
--
--     words, a table ── write_out ──▶ front ── run ──▶ words', seen as the words are
--     as many words ─── clear ──────▶ cleared ──┘
use Rattle.std.specs.Prelude.{◌≡◌, List, [], ℕ, ◌+◌, ◌*◌, ◌≤◌, length, take, Result, Ok}
use Rattle.std.proofs.Common.{sym, ◌∙◌, le-ltb}
use Rattle.std.proofs.Math.Seq.{take-append_seam}
use Rattle.routes.specs.Family.{Family, levels, width}
use Rattle.routes.specs.Bytes.{replies_bytes}
use Rattle.candidates.specs.Candidate.{Candidate}
use Rattle.candidates.specs.Answers.{replies}
use Rattle.candidates.specs.Bytes.{meanings, announced, written}
use Rattle.candidates.specs.Seen.{Seen, table, bytes_for, front_on}
use Rattle.encoded.proofs.Round.{round_trip}
use Rattle.words.specs.Table.{seen}
use Rattle.audit.specs.Answer.{HasCleared}
use Rattle.refusals.specs.declared.Refusal.{Refusal}
use Rattle.writing.specs.Answer.{HasFilled}
use Rattle.feed.specs.Runs.{Ran, HasRun}
use Rattle.calls.specs.Held.{held, cleared-alike, stopped}

-- the calls, each as its contract allows
pub record Trip (F : Family) (A : ℕ) (cs : List Candidate) : Type 0 where
  pub words : List ℕ
  pub table : seen (levels F) words ≡ table A cs
  -- written out into a buffer that is large enough: 10 bytes a candidate of IPv4, 22 of IPv6, and the end
  pub buffer : List ℕ
  pub fits : (levels F + 6) * length cs + 1 ≤ length buffer
  pub front : List ℕ
  pub wrote : front ≡ front_on F (seen (levels F) words) (length buffer)
  -- as many words, cleared
  pub lent : List ℕ
  pub same : length lent ≡ length words
  pub cleared : List ℕ
  pub answer : Result (Unit {0}) Refusal
  pub clears : HasCleared (levels F) lent cleared answer
  -- the front run on them, with reply room enough
  pub reply : List ℕ
  pub enough : 5 * length cs ≤ length reply
  pub words' : List ℕ
  pub reply' : List ℕ
  pub ran : Ran
  pub runs : HasRun F cleared front reply words' reply' ran

-- the same list, each of its records accepted, at an end
pub record Again {F : Family} {A : ℕ} {cs : List Candidate} (t : Trip F A cs) : Type 0 where
  pub list : seen (levels F) t.words' ≡ seen (levels F) t.words
  pub answer : t.ran ≡ Ok (record {
    stop = 0;
    consumed = bytes_for F (length cs);
    written = length (replies_bytes (replies (width F) A [] (meanings (announced cs))));
    accepted = length cs;
    refused = 0;
  })

pub again : {F : Family} {A : ℕ} {cs : List Candidate} (t : Trip F A cs) → Again t
again {F} {A} {cs} t =
    let h = held F A cs t.words t.table in
    let e : seen (levels F) t.cleared ≡ table A [] =
    cleared-alike F A cs t.words t.lent t.cleared t.answer t.table t.same t.clears in
    let f : t.front ≡ written F cs = t.wrote ∙ rw (t.table, le-ltb (length t.buffer) (bytes_for F (length cs)) t.fits) in
    let o = round_trip F A cs (length t.reply) h.list h.room t.enough in
    record {
      list = t.runs.list ∙ rw (e, f, o) (sym t.table);
      answer = stopped t.ran _ (t.runs.answer ∙ rw (e, f, o));
    }

-- the front is also what fill leaves at the start of the buffer
pub filled-front : (F : Family) (s : Seen) (b : List ℕ) (n : ℕ) (c : List ℕ) → HasFilled F s b n c
    → take n c ≡ front_on F s (length b)
filled-front F s b n c f = rw (f.list, f.count) (take-append_seam (front_on F s (length b)) _)
