-- The slots of a page depend on its words before the cells alone. Assumes nothing.
use Rattle.std.specs.Prelude.{◌≡◌, List, ℕ, ◌+◌, ◌-◌, ◌<◌, get_or}
use Rattle.std.proofs.Common.{ap, arith}
use Rattle.sizes.specs.Sizes.{slot_at, slot_end, cells_at}
use Rattle.slots.specs.Word.{IsFeed, hop_in}
use Rattle.slots.specs.Winner.{winner_same}
use Rattle.slots.specs.Page.{words_at}
use Rattle.array.specs.Page.{slots}

module _ (l m : List ℕ) (low : (k : ℕ) → k < cells_at → get_or m k 0 ≡ get_or l k 0) (r : ℕ) (h : r < slot_end) where
  pub low_words : (f : ℕ) → IsFeed f → words_at m (slot_at r) f ≡ words_at l (slot_at r) f
  low_words f i = low (slot_at r + f - 1) (omega (arith, i.low, i.high))

  pub low-slots : slots m r ≡ slots l r
  low-slots = ap hop_in (winner_same (words_at m (slot_at r)) (words_at l (slot_at r)) low_words)
