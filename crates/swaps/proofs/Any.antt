-- Two feeds of which one comes from the other by any number of the three moves: their answers agree, cells excepted, and their
-- end lists are one. Assumes nothing.
use Rattle.std.specs.Prelude.{◌≡◌, refl, List, ℕ, ◌<◌}
use Rattle.std.proofs.Common.{ap, ◌∙◌}
use Rattle.candidates.specs.Candidate.{Candidate}
use Rattle.candidates.specs.Answers.{Update, replies}
use Rattle.swaps.specs.Moves.{Table, Move, withdrawals, announcements, ahead, Swapped, Moves, tolds, ends, Reordered, Alike}
use Rattle.swaps.specs.Moves as moves
use Rattle.swaps.specs.Proved.{Holds, table_holds, after_holds, swap_withdrawals, swap_announcements, swap_ahead}
use Rattle.swaps.specs.Any.{swap}

module _ (W : ℕ) (w : W < 256) (A : ℕ) where
  -- each of the three moves, from any table
  pub swapped : (cs : List Candidate) (u v : Update) → Table W A cs → Move W A cs u v → Swapped W A cs u v
  swapped cs u v t m = (swap W w A) cs u v (table_holds W w A cs t) m

  list : {cs : List Candidate} {us vs : List Update} → Holds W w A cs → Moves W A cs us vs → ends W A cs us ≡ ends W A cs vs
  list t moves.same = refl
  list {cs} t (moves.here u v us m) = ap (λ (ds : List Candidate). ends W A ds us) ((swap W w A) cs u v t m).list
  list {cs} t (moves.past u m) = list (after_holds W w A cs u t) m
  list t (moves.then m n) = list t m ∙ list t n

  answers : {cs : List Candidate} {us vs : List Update} → Holds W w A cs → Moves W A cs us vs
      → Reordered (tolds W A cs us) (tolds W A cs vs)
  answers t moves.same = moves.same
  answers {cs} t (moves.here u v us m) =
      let s = (swap W w A) cs u v t m in
      rw (s.one, s.other, s.list) (moves.here _ _ _)
  answers {cs} t (moves.past u m) = moves.past _ (answers (after_holds W w A cs u t) m)
  answers t (moves.then m n) = moves.then (answers t m) (answers t n)

  pub moved : (cs : List Candidate) (us vs : List Update) → Table W A cs → Moves W A cs us vs → Alike W A cs us vs
  moved cs us vs t m =
      let h = table_holds W w A cs t in
      record { answers = answers h m; list = list h m; later = λ xs. ap (λ (ds : List Candidate). replies W A ds xs) (list h m) }
