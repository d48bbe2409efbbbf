-- An empty array hung below a cell, in the view of each feed; and lists gathered from words that are the same. Assumes nothing.
use Rattle.std.specs.Prelude.{◌≡◌}
use Rattle.std.proofs.Math.Path.{refl, ap₂}
use Rattle.std.proofs.Common.{ap, ◌∙◌, le_refl}
use mathlib.Core.List.{List, [], ◌++◌}
use Prim.Native.Nat.{ℕ, zero, suc, ◌+◌, ◌*◌, ◌≤◌, ◌<◌}
use native.Mathlib.Omega.{arith}
use Rattle.sizes.specs.Sizes.{slot_words, slot_end}
use Rattle.candidates.specs.Candidate.{Candidate}
use Rattle.tree.specs.HungBelow.{HungBelow}
use Rattle.slots.specs.Word.{IsFeed}
use Rattle.gather.specs.Gather.{meant, listed, of_feeds, of_slot, gather, gathered}
use Rattle.gather.specs.Views.{FeedArrays, feed_view, won_view}
use Rattle.gather.specs.Hung.{feeds_same, feeds_none}

module _ (g h : ℕ → ℕ → ℕ → ℕ) (e : (v l f : ℕ) → IsFeed f → g v l f ≡ h v l f) where
  slot_same : (d v l : ℕ) → of_slot (g v l) d v l ≡ of_slot (h v l) d v l
  slot_same d v l =
      feeds_same (g v l) (h v l) d v l 1 slot_words (λ j x y. e v l j (record { low = x; high = omega arith }))

  gather_same : (d v l : ℕ) → gather g d v l ≡ gather h d v l
  unfolding gather
  gather_same zero v l = slot_same zero v l
  gather_same (suc d) v l =
      ap₂ ◌++◌ (slot_same (suc d) v l) (ap₂ ◌++◌ (gather_same d (2 * v) (suc l)) (gather_same d (2 * v + 1) (suc l)))

  pub gathered_same : (W : ℕ) → gathered W g ≡ gathered W h
  unfolding gathered
  gathered_same W = gather_same W 0 0

module _ (g : ℕ → ℕ → ℕ → ℕ) (e : (v l f : ℕ) → IsFeed f → g v l f ≡ 0) where
  gather_none : (d v l : ℕ) → gather g d v l ≡ []
  unfolding gather
  gather_none zero v l = feeds_none g e zero v l 1 slot_words (omega arith) (omega arith)
  gather_none (suc d) v l =
      rw (feeds_none g e (suc d) v l 1 slot_words (omega arith) (omega arith), gather_none d (2 * v) (suc l))
      (gather_none d (2 * v + 1) (suc l))

  pub gathered_none : (W : ℕ) → gathered W g ≡ []
  unfolding gathered
  gathered_none W = gather_none W 0 0
