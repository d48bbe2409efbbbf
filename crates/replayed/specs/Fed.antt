-- The shortest list fed again over the C calls: what toggleash_shortest wrote, run by toggleash_run with reply room enough on as
-- many words, cleared, is taken whole, and every address then gets the hop that it got before. Assumes nothing.
--
--     words, a table ── toggleash_shortest ──▶ bytes ── toggleash_run ──▶ words', which forward as the words do
--     as many words ─── toggleash_clear ─────▶ cleared ──────┘
use Rattle.std.specs.Prelude.{◌≡◌, List, [], ℕ, ◌*◌, ◌^◌, ◌≤◌, ◌<◌, length}
use Rattle.routes.specs.Family.{v4}
use Rattle.candidates.specs.Candidate.{Candidate}
use Rattle.candidates.specs.Winners.{winners}
use Rattle.candidates.specs.Seen.{table}
use Rattle.words.specs.Table.{seen}
use Rattle.shortest.specs.Shortest.{forwards}
use Rattle.shortest.specs.Seen.{shortest4}
use Rattle.toggleash.specs.Face.{HasCleared, HasRun}
use Rattle.answers.specs.declared.Ran.{Ran as Fields}
use Rattle.replayed.specs.Taken.{TakenWhole, shortest-taken}
use Rattle.replayed.specs.Shortened.{Shortened, bytes, on_table, won}

-- the calls, each as its contract allows
pub record Fed {A : ℕ} {cs : List Candidate} (s : Shortened A cs) : Type 0 where
  -- toggleash_clear of as many words
  pub lent : List ℕ
  pub same : length lent ≡ length s.words
  pub cleared : List ℕ
  pub refusal : ℕ
  pub clears : HasCleared v4 lent cleared refusal
  -- toggleash_run of the bytes on them, with five reply bytes for each route
  pub reply : List ℕ
  pub enough : 5 * length (shortest4 (winners cs)) ≤ length reply
  pub words' : List ℕ
  pub reply' : List ℕ
  pub ran : Fields
  pub runs : HasRun v4 cleared (bytes s) reply words' reply' ran

-- nothing is refused, every route is accepted, and the table then forwards as the first one
pub record ForwardsAgain {A : ℕ} {cs : List Candidate} {s : Shortened A cs} (f : Fed s) : Type 0 where
  pub cleared : f.refusal ≡ 0
  pub list : List Candidate
  pub table : seen 4 f.words' ≡ table A list
  pub routes : length list ≡ length (shortest4 (winners cs))
  pub forwards : (a : ℕ) → a < 2 ^ 32 → forwards 32 (winners list) a ≡ forwards 32 (winners cs) a
  pub taken : f.ran.refusal ≡ 0
  pub stop : f.ran.stop ≡ 0
  pub accepted : f.ran.accepted ≡ length (shortest4 (winners cs))
  pub refused : f.ran.refused ≡ 0

module _ {A : ℕ} {cs : List Candidate} {s : Shortened A cs} (f : Fed s) where
  pub empty : seen 4 f.cleared ≡ table A []
  empty = rw (f.same, (on_table s).size, (on_table s).arrays) at f.clears.left

  pub whole : TakenWhole A (shortest4 (winners cs)) (length f.reply)
  whole =
      shortest-taken A (winners cs) (length f.reply) (won s) (on_table s).room s.default s.small f.enough
