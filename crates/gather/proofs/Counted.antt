-- How many candidates a tree has: as many as words of its slots that are not 0, feed by feed. Assumes nothing.
use Rattle.std.specs.Prelude.{◌≡◌, refl, cond, ◌++◌, eqb}
use Rattle.std.proofs.Math.Path.{sym, ap, ap₂}
use Rattle.std.proofs.Common.{◌∙◌, arith}
use Prim.Native.Nat.{ℕ, zero, suc, ◌+◌, ◌*◌, ◌≤◌, ◌<◌}
use Rattle.std.proofs.Math.ListN.{length, length-append}
use Rattle.logic.specs.Cases.{bool}
use Rattle.sizes.specs.Sizes.{slot_words, last_slot}
use Rattle.routes.specs.Collect.{own, collect, routes}
use Rattle.slots.specs.Taken.{taken}
use Rattle.tree.specs.Shape.{Shape}
use Rattle.tree.specs.Taken.{First, taken_in, taken_to}
use Rattle.tree.proofs.Taken.{taken-routes}
use Rattle.slots.specs.Word.{IsFeed}
use Rattle.slots.specs.Slot.{won_free}
use Rattle.slots.specs.Count.{sum_feeds}
use Rattle.gather.specs.Gather.{meant, listed, of_feeds, of_slot, gather, gathered}
use Rattle.gather.specs.Views.{FeedArrays, feed_view, won_view, word_held, RightWords, view_shape}
use Rattle.gather.specs.Counted.{sum_same, sum-add, feeds-count, only, split_count, candidates_of, arrays-count}

module _ (g : ℕ → ℕ → ℕ → ℕ) where
  gather-count : (d v l : ℕ) → length (gather g d v l) ≡ sum_feeds (λ f. length (collect (only g f) d v l)) 1 slot_words
  unfolding gather collect
  gather-count zero v l = feeds-count (g v l) zero v l 1 slot_words
  gather-count (suc d) v l =
      length-append (of_slot (g v l) (suc d) v l) (gather g d (2 * v) (suc l) ++ gather g d (2 * v + 1) (suc l))
      ∙ ap₂ ◌+◌ (feeds-count (g v l) (suc d) v l 1 slot_words)
      (length-append (gather g d (2 * v) (suc l)) (gather g d (2 * v + 1) (suc l))
      ∙ ap₂ ◌+◌ (gather-count d (2 * v) (suc l)) (gather-count d (2 * v + 1) (suc l)))
      ∙ sym (sum_same (λ f. length (collect (only g f) (suc d) v l)) _ 1 slot_words (λ f x y. (split_count g) f d v l)
      ∙ sum-add (λ f. length (own (suc d) v l (g v l f))) _ 1 slot_words
      ∙ ap (λ (n : ℕ). sum_feeds (λ f. length (own (suc d) v l (g v l f))) 1 slot_words + n)
      (sum-add (λ f. length (collect (only g f) d (2 * v) (suc l))) (λ f. length (collect (only g f) d (2 * v + 1) (suc l)))
      1 slot_words))

  pub gathered-count : (W : ℕ) → length (gathered W g) ≡ sum_feeds (λ f. length (routes W (λ v l. g v l f))) 1 slot_words
  unfolding gathered routes
  gathered-count W = gather-count W 0 0

-- the candidates of a tree of L levels
pub tree_count : (A L : ℕ) (t : FeedArrays) → Shape A L (won_view t) → First A (won_view t) → RightWords A t
    → length (gathered (8 * L) (word_held t)) ≡ candidates_of t A
tree_count A L t sh fi r =
    gathered-count (word_held t) (8 * L)
    ∙ sum_same (λ f. length (routes (8 * L) (λ v l. word_held t v l f))) (λ f. taken_to (feed_view t f) A) 1 slot_words
    (λ f x y. sym (taken-routes A L (taken_to (feed_view t f) A) (feed_view t f) (view_shape t A L f sh)
    (first f (record { low = x; high = omega arith })) refl))
    ∙ arrays-count t A
  where
    first : (f : ℕ) → IsFeed f → First A (feed_view t f)
    first f i a x y h =
        won_free (t.word a 1) (r a 1 x y (omega arith) (omega arith) (omega arith)) (fi a x y h) f i
