-- An empty array hung below a cell, in the view of each feed; and lists gathered from words that are the same. Assumes nothing.
use Rattle.std.specs.Prelude.{◌≡◌}
use Rattle.std.proofs.Math.Path.{refl, ap₂}
use Rattle.std.proofs.Common.{ap, ◌∙◌, le_refl}
use mathlib.Core.List.{List, [], ◌++◌}
use Prim.Native.Nat.{ℕ, zero, suc, ◌+◌, ◌*◌, ◌≤◌, ◌<◌}
use native.Mathlib.Omega.{arith}
use Rattle.sizes.specs.Sizes.{slot_words, slot_end}
use Rattle.candidates.specs.Candidate.{Candidate}
use Rattle.tree.specs.HungBelow.{HungBelow}
use Rattle.slots.specs.Word.{IsFeed}
use Rattle.gather.specs.Gather.{meant, listed, of_feeds, of_slot, gather, gathered}
use Rattle.gather.specs.Views.{FeedArrays, feed_view, won_view}

-- slots aside, it is that of the winners' view
pub feed-hung-below : (A L : ℕ) (t u : FeedArrays) (p i a : ℕ) → HungBelow A L (won_view t) (won_view u) p i a → (f : ℕ)
    → ((c s : ℕ) → 1 ≤ c → 1 ≤ s → s < slot_end → u.word c s f ≡ t.word c s f)
    → ((s : ℕ) → 1 ≤ s → s < slot_end → t.word a s f ≡ 0)
    → HungBelow A L (feed_view t f) (feed_view u f) p i a
feed-hung-below A L t u p i a h f same none = record {
  some = h.some;
  within = h.within;
  parent = h.parent;
  inside = h.inside;
  cells = h.cells;
  used = h.used;
  deep = h.deep;
  free = h.free;
  named = h.named;
  tags = h.tags;
  off = h.off;
  on = h.on;
  links = h.links;
  slots = same;
  no_link = h.no_link;
  no_slot = none;
}

-- ---- the same words, the same list

pub feeds_same : (g h : ℕ → ℕ) (d v l f n : ℕ) → ((j : ℕ) → f ≤ j → j < f + n → g j ≡ h j)
    → of_feeds g d v l f n ≡ of_feeds h d v l f n
unfolding of_feeds
feeds_same g h d v l f zero e = refl
feeds_same g h d v l f (suc n) e =
    ap₂ ◌++◌ (ap (λ (w : ℕ). listed (meant d v l f w)) (e f (le_refl _) (omega arith)))
    (feeds_same g h d v l (suc f) n (λ j x y. e j (omega arith) (omega arith)))

-- ---- no words, no candidates

module _ (g : ℕ → ℕ → ℕ → ℕ) (e : (v l f : ℕ) → IsFeed f → g v l f ≡ 0) where
  pub feeds_none : (d v l f n : ℕ) → 1 ≤ f → f + n ≤ 5 → of_feeds (g v l) d v l f n ≡ []
  unfolding of_feeds
  feeds_none d v l f zero a b = refl
  feeds_none d v l f (suc n) a b =
      rw (e v l f (record { low = a; high = omega arith })) (feeds_none d v l (suc f) n (omega arith) (omega arith))
