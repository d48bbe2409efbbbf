-- Two feeds of which one comes from the other by any number of the three moves: their answers agree, cells excepted, and their
-- end lists are one. Assumes nothing.
use Rattle.std.specs.Prelude.{◌≡◌, refl, List, ℕ, ◌<◌}
use Rattle.std.proofs.Common.{ap, ◌∙◌}
use Rattle.candidates.specs.Candidate.{Candidate}
use Rattle.candidates.specs.Answers.{Update, replies}
use Rattle.swaps.specs.Moves.{Table, Move, withdrawals, announcements, ahead, Swapped, Moves, tolds, ends, Reordered, Alike}
use Rattle.swaps.specs.Moves as moves
use Rattle.swaps.specs.Proved.{Holds, table_holds, after_holds, swap_withdrawals, swap_announcements, swap_ahead}

module _ (W : ℕ) (w : W < 256) (A : ℕ) where
  pub swap : (cs : List Candidate) (u v : Update) → Holds W w A cs → Move W A cs u v → Swapped W A cs u v
  swap cs u v t (withdrawals a l f b m g n) = swap_withdrawals W w A cs a l f b m g t n
  swap cs u v t (announcements a l h f p b m i g q n d e) = swap_announcements W w A cs a l h f p b m i g q t n d e
  swap cs u v t (ahead a l h f p b m g n d) = swap_ahead W w A cs a l h f p b m g t n d
