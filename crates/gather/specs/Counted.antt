-- How many candidates a tree has: as many as words of its slots that are not 0, feed by feed. Assumes nothing.
use Rattle.std.specs.Prelude.{◌≡◌, refl, cond, ◌++◌, eqb}
use Rattle.std.proofs.Math.Path.{sym, ap, ap₂}
use Rattle.std.proofs.Common.{◌∙◌, arith}
use Prim.Native.Nat.{ℕ, zero, suc, ◌+◌, ◌*◌, ◌≤◌, ◌<◌}
use Rattle.std.proofs.Math.ListN.{length, length-append}
use Rattle.logic.specs.Cases.{bool}
use Rattle.sizes.specs.Sizes.{slot_words, last_slot}
use Rattle.routes.specs.Collect.{own, collect, routes}
use Rattle.slots.specs.Taken.{taken}
use Rattle.tree.specs.Shape.{Shape}
use Rattle.tree.specs.Taken.{First, taken_in, taken_to}
use Rattle.tree.proofs.Taken.{taken-routes}
use Rattle.slots.specs.Word.{IsFeed}
use Rattle.slots.specs.Slot.{won_free}
use Rattle.slots.specs.Count.{sum_feeds}
use Rattle.gather.specs.Gather.{meant, listed, of_feeds, of_slot, gather, gathered}
use Rattle.gather.specs.Views.{FeedArrays, feed_view, won_view, word_held, RightWords, view_shape}

-- ---- sums over feeds

pub sum_same : (a b : ℕ → ℕ) (f n : ℕ) → ((j : ℕ) → f ≤ j → j < f + n → a j ≡ b j) → sum_feeds a f n ≡ sum_feeds b f n
unfolding sum_feeds
sum_same a b f zero e = refl
sum_same a b f (suc n) e =
    ap₂ ◌+◌ (e f (omega arith) (omega arith)) (sum_same a b (suc f) n (λ j x y. e j (omega arith) (omega arith)))

pub sum-add : (a b : ℕ → ℕ) (f n : ℕ) → sum_feeds (λ j. a j + b j) f n ≡ sum_feeds a f n + sum_feeds b f n
unfolding sum_feeds
sum-add a b f zero = refl
sum-add a b f (suc n) = let e = sum-add a b (suc f) n in omega arith

sum_none : (f n : ℕ) → sum_feeds (λ j. 0) f n ≡ 0
unfolding sum_feeds
sum_none f zero = refl
sum_none f (suc n) = omega (arith, sum_none (suc f) n)

-- ---- one slot

one_count : (d v l f w : ℕ) → length (listed (meant d v l f w)) ≡ length (own d v l w)
one_count d v l f zero = refl
one_count d v l f (suc w) = refl

pub feeds-count : (g : ℕ → ℕ) (d v l f n : ℕ) → length (of_feeds g d v l f n) ≡ sum_feeds (λ j. length (own d v l (g j))) f n
unfolding of_feeds sum_feeds
feeds-count g d v l f zero = refl
feeds-count g d v l f (suc n) =
    length-append (listed (meant d v l f (g f))) (of_feeds g d v l (suc f) n)
    ∙ ap₂ ◌+◌ (one_count d v l f (g f)) (feeds-count g d v l (suc f) n)

-- ---- all slots

module _ (g : ℕ → ℕ → ℕ → ℕ) where
  -- the words of one feed
  abbrev pub only : ℕ → ℕ → ℕ → ℕ
  only f v l = g v l f

  pub split_count : (f d v l : ℕ)
      → length (collect (only f) (suc d) v l)
      ≡ length (own (suc d) v l (g v l f))
      + (length (collect (only f) d (2 * v) (suc l)) + length (collect (only f) d (2 * v + 1) (suc l)))
  unfolding collect
  split_count f d v l =
      length-append (own (suc d) v l (g v l f)) (collect (only f) d (2 * v) (suc l) ++ collect (only f) d (2 * v + 1) (suc l))
      ∙ ap (λ (n : ℕ). length (own (suc d) v l (g v l f)) + n)
      (length-append (collect (only f) d (2 * v) (suc l)) (collect (only f) d (2 * v + 1) (suc l)))

-- ---- all arrays

-- how many candidates array a has, if it is used, and how many the arrays 1 .. n
abbrev pub candidates_in : FeedArrays → ℕ → ℕ
candidates_in t a = cond (eqb (t.tag a) 0) 0 (sum_feeds (λ f. taken (λ s. t.word a s f) last_slot) 1 slot_words)

unfoldable pub candidates_of : FeedArrays → ℕ → ℕ
candidates_of t zero = 0
candidates_of t (suc n) = candidates_of t n + candidates_in t (suc n)

array_count : (t : FeedArrays) (a : ℕ) → sum_feeds (λ f. taken_in (feed_view t f) a) 1 slot_words ≡ candidates_in t a
array_count t a = bool (eqb (t.tag a) 0) (λ e. rw e (sum_none 1 slot_words)) (λ e. rw e)

pub arrays-count : (t : FeedArrays) (n : ℕ) → sum_feeds (λ f. taken_to (feed_view t f) n) 1 slot_words ≡ candidates_of t n
unfolding taken_to candidates_of
arrays-count t zero = sum_none 1 slot_words
arrays-count t (suc n) =
    sum-add (λ f. taken_to (feed_view t f) n) (λ f. taken_in (feed_view t f) (suc n)) 1 slot_words
    ∙ ap₂ ◌+◌ (arrays-count t n) (array_count t (suc n))
