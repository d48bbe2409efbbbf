-- Item 8 over the calls: two tables that stand for one list get updates by the update calls, the second in an order that comes
-- from the first's by the moves. The answers agree, cells excepted, and the words are then seen alike, so that later calls are
-- answered alike. Assumes nothing.
--
--     words, a table ── u₁ u₂ u₃ ──▶ words'           seen alike, though the layouts may differ
--     words, alike ──── u₂ u₁ u₃ ──▶ words'
use Rattle.std.specs.Prelude.{◌≡◌, refl, List, [], ◌∷◌, ℕ}
use Rattle.std.proofs.Common.{ap}
use Rattle.routes.specs.Family.{Family, levels}
use Rattle.routes.specs.Answers.{Reply}
use Rattle.candidates.specs.Candidate.{Candidate}
use Rattle.candidates.specs.Answers.{Update, plain, answer, after, records, replies, leaves}
use Rattle.candidates.specs.Seen.{table}
use Rattle.words.specs.Table.{seen}
use Rattle.feed.specs.Series.{Series}
use Rattle.swaps.specs.Moves.{Told, tolds, ends, Reordered}
use Rattle.calls.specs.Swapped.{LaterAlike}

-- the updates us sent one by one to a table of A arrays that stands for cs, each call as its contract allows
pub record Sent (F : Family) (A : ℕ) (cs : List Candidate) (us : List Update) : Type 0 where
  pub words : List ℕ
  pub table : seen (levels F) words ≡ table A cs
  pub replies : List Reply
  pub words' : List ℕ
  pub calls : Series (levels F) words (records us) replies words'

-- each update with its answer, cells excepted
abbrev pub told : List Update → List Reply → List Told
told [] ys = []
told (u ∷ us) [] = []
told (u ∷ us) (y ∷ ys) = record { sent = u; told = plain y } ∷ told us ys

-- the same answers in another order, and words that no later calls tell apart
pub record Alike {F : Family} {A : ℕ} {cs : List Candidate} {us vs : List Update}
    (s : Sent F A cs us) (t : Sent F A cs vs) : Type 0 where
  pub answers : Reordered (told us s.replies) (told vs t.replies)
  pub list : seen (levels F) s.words' ≡ seen (levels F) t.words'
  pub later : LaterAlike F s.words' t.words'

-- ---- what the calls said and left, by the list

pub told_is : (W A : ℕ) (cs : List Candidate) (us : List Update) → told us (replies W A cs (records us)) ≡ tolds W A cs us
told_is W A cs [] = refl
told_is W A cs (u ∷ us) =
    ap (◌∷◌ (record { sent = u; told = plain (answer W A cs u) })) (told_is W A (after W A cs u) us)

pub ends_is : (W A : ℕ) (cs : List Candidate) (us : List Update) → leaves W A cs (records us) ≡ ends W A cs us
ends_is W A cs [] = refl
ends_is W A cs (u ∷ us) = ends_is W A (after W A cs u) us
