-- Item 8 over the calls: neighbouring updates swapped, sent by four calls on two runs of words that stand for one list. Assumes
-- nothing.
--
--     words  ── u ──▶ . ── v ──▶ words'        words stand for one list on both lines, and so do words': the answers agree, cells
--     words  ── v ──▶ . ── u ──▶ words'        excepted, and all later ones, cells included
use Rattle.std.specs.Prelude.{◌≡◌, List, ℕ}
use Rattle.routes.specs.Family.{Family, levels, width}
use Rattle.routes.specs.Answers.{Reply}
use Rattle.candidates.specs.Candidate.{Candidate}
use Rattle.candidates.specs.Answers.{Update, Record, update, answer, after, plain}
use Rattle.candidates.specs.Seen.{table}
use Rattle.words.specs.Table.{seen}
use Rattle.feed.specs.Series.{Series, Asked, answered}
use Rattle.swaps.specs.Moves.{Table}
use Rattle.calls.specs.Held.{held}

-- ---- words that stand for one list

-- later calls tell two such runs of words not apart: the same records are answered alike, cells included
pub record LaterAlike (F : Family) (ws vs : List ℕ) : Type 0 where
  pub calls : {ws' vs' : List ℕ} {xs : List Record} {ys zs : List Reply} → Series (levels F) ws xs ys ws'
      → Series (levels F) vs xs zs vs' → (ys ≡ zs) × (seen (levels F) ws' ≡ seen (levels F) vs')

-- the list fits the arrays, as that of every table does
pub is_table : (F : Family) (A : ℕ) (cs : List Candidate) (ws : List ℕ) → seen (levels F) ws ≡ table A cs → Table (width F) A cs
is_table F A cs ws e = let h = held F A cs ws e in record { list = h.list; fits = h.room }

-- ---- two calls swapped

-- u, then v, on words that stand for cs
pub record InTurn (F : Family) (A : ℕ) (cs : List Candidate) (u v : Update) : Type 0 where
  pub words : List ℕ
  pub is : seen (levels F) words ≡ table A cs
  pub between : List ℕ
  pub words' : List ℕ
  pub first : Reply
  pub second : Reply
  pub calls_first : Asked (levels F) words (update u) first between
  pub calls-second : Asked (levels F) between (update v) second words'

-- what the calls in one order and in the other come to
pub record CallsSwapped {F : Family} {A : ℕ} {cs : List Candidate} {u v : Update}
    (p : InTurn F A cs u v) (q : InTurn F A cs v u) : Type 0 where
  pub one : plain p.first ≡ plain q.second
  pub other : plain p.second ≡ plain q.first
  pub list : seen (levels F) p.words' ≡ seen (levels F) q.words'
  pub later : LaterAlike F p.words' q.words'

module _ {F : Family} {A : ℕ} {cs : List Candidate} {u v : Update} (p : InTurn F A cs u v) where
  pub first_is : p.first ≡ answer (width F) A cs u
  first_is = (answered (levels F) A cs p.is p.calls_first).answer

  between_is : seen (levels F) p.between ≡ table A (after (width F) A cs u)
  between_is = (answered (levels F) A cs p.is p.calls_first).list

  pub second_is : p.second ≡ answer (width F) A (after (width F) A cs u) v
  second_is = (answered (levels F) A (after (width F) A cs u) between_is p.calls-second).answer

  pub end_is : seen (levels F) p.words' ≡ table A (after (width F) A (after (width F) A cs u) v)
  end_is = (answered (levels F) A (after (width F) A cs u) between_is p.calls-second).list
