-- Item 8 over the C face: two tables that stand for one list get updates by toggleash_announce and toggleash_withdraw, or by
-- toggleash_run, the second in an order that comes from the first's by the moves. The answers agree, cells excepted, and the
-- words are then seen alike, so that later calls are answered alike. Assumes nothing.
use Rattle.std.specs.Prelude.{◌≡◌, List, ℕ}
use Rattle.routes.specs.Family.{Family, levels}
use Rattle.routes.specs.Answers.{Reply}
use Rattle.candidates.specs.Candidate.{Candidate}
use Rattle.candidates.specs.Answers.{Update, records}
use Rattle.candidates.specs.Bytes.{Sent as Bytes, meanings}
use Rattle.candidates.specs.Seen.{table}
use Rattle.words.specs.Table.{seen}
use Rattle.weaves.specs.Feeds.{read_back}
use Rattle.swaps.specs.Moves.{Reordered}
use Rattle.calls.specs.Moved.{told}
use Rattle.calls.specs.MovedRuns as runs
use Rattle.calls.specs.Exported.{Series}
use Rattle.calls.specs.ExportedSwapped.{LaterAlike, RunOf, run_under}

-- ---- call by call

-- the updates us sent one by one to a table of A arrays that stands for cs, each call as its contract allows, and what their
-- numbers say
pub record Sent (F : Family) (A : ℕ) (cs : List Candidate) (us : List Update) : Type 0 where
  pub words : List ℕ
  pub table : seen (levels F) words ≡ table A cs
  pub replies : List Reply
  pub words' : List ℕ
  pub calls : Series F words (records us) replies words'

-- the same answers in another order, and words that no later calls tell apart
pub record Alike {F : Family} {A : ℕ} {cs : List Candidate} {us vs : List Update}
    (s : Sent F A cs us) (t : Sent F A cs vs) : Type 0 where
  pub answers : Reordered (told us s.replies) (told vs t.replies)
  pub list : seen (levels F) s.words' ≡ seen (levels F) t.words'
  pub later : LaterAlike F s.words' t.words'

-- ---- as feeds

-- a log of the updates us, run as a feed
pub record Logged (F : Family) (A : ℕ) (cs : List Candidate) (us : List Update) : Type 0 where
  pub sent : List Bytes
  pub meant : meanings sent ≡ records us
  pub ran : RunOf F A cs sent

pub record LogsAlike {F : Family} {A : ℕ} {cs : List Candidate} {us vs : List Update}
    (p : Logged F A cs us) (q : Logged F A cs vs) : Type 0 where
  pub answers : Reordered (told us (read_back us p.ran.reply')) (told vs (read_back vs q.ran.reply'))
  pub list : seen (levels F) p.ran.words' ≡ seen (levels F) q.ran.words'
  pub later : LaterAlike F p.ran.words' q.ran.words'

-- the run below
abbrev pub logged : {F : Family} {A : ℕ} {cs : List Candidate} {us : List Update} → Logged F A cs us → runs.Logged F A cs us
logged p = record { sent = p.sent; meant = p.meant; ran = run_under p.ran }
