-- The bytes that the C call toggleash_shortest writes for a table: those of the shortest list in records of kind 1.
-- Assumes nothing.
use Rattle.std.specs.Prelude.{◌≡◌, true, List, ◌++◌, ℕ, ◌≤◌, length, take, drop}
use Rattle.std.proofs.Common.{◌∙◌, le-ltb}
use Rattle.std.proofs.Math.Seq.{take-append_seam}
use Rattle.routes.specs.Family.{v4}
use Rattle.routes.specs.Route.{Route, held, IsList}
use Rattle.routes.specs.Seen.{gives}
use Rattle.candidates.specs.Candidate.{Candidate}
use Rattle.candidates.specs.Winners.{winners}
use Rattle.candidates.specs.Bytes.{written_plainly}
use Rattle.candidates.specs.Seen.{table}
use Rattle.rivals.specs.Won.{winners_list}
use Rattle.words.specs.Table.{seen}
use Rattle.shortest.specs.Shortest.{IsShortest, upto}
use Rattle.shortest.proofs.Proved.{shortest_of}
use Rattle.shortest.specs.Seen.{shortest4, bytes_for}
use Rattle.shortest.specs.Answered.{short_given}
use Rattle.shorten.specs.Answer.{short_in}
use Rattle.shortener.specs.Face.{HasWritten}
use Rattle.answers.specs.declared.Written.{Written}
use Rattle.calls.specs.Held as tables
use Rattle.replayed.specs.Taken.{plain_long}

-- the call, as its contract allows: of words that are a table with a default route, its hops up to 32, with a scratch of as many
-- words and a buffer that is large enough
pub record Shortened (A : ℕ) (cs : List Candidate) : Type 0 where
  pub words : List ℕ
  pub table : seen 4 words ≡ table A cs
  pub default : 1 ≤ held (winners cs) 0 0
  pub small : upto 32 (winners cs) ≡ true
  pub scratch : List ℕ
  pub long : length words ≤ length scratch
  pub buffer : List ℕ
  pub fits : bytes_for (length (shortest4 (winners cs))) ≤ length buffer
  pub scratch' : List ℕ
  pub buffer' : List ℕ
  pub wrote : Written
  pub writes : HasWritten words scratch buffer wrote scratch' buffer'

-- the bytes that it wrote
abbrev pub bytes : {A : ℕ} {cs : List Candidate} → Shortened A cs → List ℕ
bytes s = take s.wrote.bytes s.buffer'

module _ {A : ℕ} {cs : List Candidate} (s : Shortened A cs) where
  abbrev rs : List Route
  rs = shortest4 (winners cs)

  pub on_table : tables.Held v4 A cs s.words
  on_table = tables.held v4 A cs s.words s.table

  pub won : IsList 32 (winners cs)
  won = winners_list 32 cs on_table.list

  pub is_shortest : IsShortest 32 (winners cs) rs
  is_shortest = shortest_of (winners cs) won s.default s.small

  answered : short_in s.words s.scratch (length s.buffer) ≡ gives rs
  answered =
      rw (le-ltb (length s.scratch) (length s.words) s.long, s.table)
      (short_given (winners cs) (length s.buffer) s.default s.small s.fits)

  -- nothing is refused
  pub shortened_answer : s.wrote ≡ record { refusal = 0; bytes = bytes_for (length rs) }
  shortened_answer = s.writes.answer ∙ rw answered

  pub shortened_bytes : bytes s ≡ written_plainly rs
  shortened_bytes =
      let f : s.buffer' ≡ written_plainly rs ++ drop (bytes_for (length rs)) s.buffer = rw answered at s.writes.buffer in
      rw (shortened_answer, f, ← (plain_long rs)) (take-append_seam (written_plainly rs) _)
