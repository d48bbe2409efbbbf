-- A tree of arrays whose slots have a word for each feed, seen five ways: the same tags and links with one feed's words as slots,
-- for each of the four feeds, and with the winning hops as slots. Each view is arrays as `tree` speaks of them, so the laws of a
-- slot serve the words of a feed, and all that is said of a route list serves the winning hops. Assumes nothing.
--
--     words of slot s      feed_view 1   feed_view 2   feed_view 3   feed_view 4      won_view
--     10 via 5, 0,         10 via 5     0            5 via 6      0               6
--     5 via 6, 0
use Rattle.std.specs.Prelude.{◌≡◌}
use Rattle.std.proofs.Math.Path.{refl, ap}
use Rattle.std.proofs.Common.{sym, ◌∙◌}
use Prim.Native.Nat.{ℕ, zero, suc, ◌/◌, ◌^◌, ◌≤◌, ◌<◌}
use Rattle.sizes.specs.Sizes.{slot_end}
use Rattle.routes.specs.Room.{level}
use Rattle.routes.specs.Collect.{routes}
use Rattle.candidates.specs.Candidate.{IsList}
use Rattle.candidates.specs.Winners.{winners}
use Rattle.tree.specs.Arrays.{Arrays, at, node, depth_of, slot_of, held}
use Rattle.tree.specs.Shape.{Shape}
use Rattle.tree.specs.SlotSet.{same_shape, same_node, held-cases}
use Rattle.slots.specs.Word.{hop_in, RightWord, right_none}
use Rattle.slots.specs.Winner.{lower, won_hop, winner_same}
use Rattle.slots.specs.Slot.{RightSlot}
use Rattle.gather.specs.Gather.{gathered}

-- word a s f is that of feed f in slot s of array a
pub record FeedArrays : Type 0 where
  pub tag : ℕ → ℕ
  pub link : ℕ → ℕ → ℕ
  pub word : ℕ → ℕ → ℕ → ℕ

-- the view of a feed
abbrev pub feed_view : FeedArrays → ℕ → Arrays
feed_view t f = record { tag = t.tag; link = t.link; slot = λ a s. t.word a s f }

-- the view of the winners
abbrev pub won_view : FeedArrays → Arrays
won_view t = record { tag = t.tag; link = t.link; slot = λ a s. won_hop (t.word a s) }

-- the word of a feed at a prefix, 0 where there is none
abbrev pub word_held : FeedArrays → ℕ → ℕ → ℕ → ℕ
word_held t v l f = held (feed_view t f) v l

-- the slots of the used arrays are right
abbrev pub RightWords : ℕ → FeedArrays → Type 0
RightWords A t = (a s : ℕ) → 1 ≤ a → a ≤ A → 1 ≤ t.tag a → 1 ≤ s → s < slot_end → RightSlot (t.word a s)

module _ (t : FeedArrays) where
  -- slots are no matter to shape and paths
  pub view_shape : (A L f : ℕ) → Shape A L (won_view t) → Shape A L (feed_view t f)
  view_shape A L f = same_shape (won_view t) (feed_view t f) (λ c h. refl) (λ c i h b. refl) A L

  pub view_node : (f v k : ℕ) → node (feed_view t f) v k ≡ node (won_view t) v k
  view_node f = same_node (won_view t) (feed_view t f) (λ c h. refl) (λ c i h b. refl)

  pub at_won : (a s : ℕ) → at (won_view t) a s ≡ won_hop (λ f. at (feed_view t f) a s)
  unfolding at lower
  at_won zero s = refl
  at_won (suc a) s = refl

module _ (A L : ℕ) (t : FeedArrays) (sh : Shape A L (won_view t)) (p : RightWords A t) where
  pub held_right : (v l : ℕ) → RightSlot (word_held t v l)
  held_right v l f i =
      held-cases A L (feed_view t f) (view_shape t A L f sh) RightWord right_none (λ a s b c d e g. p a s b c d e g f i) v l
