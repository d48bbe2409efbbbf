-- A tree of arrays whose slots have a word for each feed, seen five ways: the same tags and links with one feed's words as slots,
-- for each of the four feeds, and with the winning hops as slots. Each view is arrays as `tree` speaks of them, so the laws of a
-- slot serve the words of a feed, and all that is said of a route list serves the winning hops. Assumes nothing.
--
--     words of slot s      feed_view 1   feed_view 2   feed_view 3   feed_view 4      won_view
--     10 via 5, 0,         10 via 5     0            5 via 6      0               6
--     5 via 6, 0
use Rattle.std.specs.Prelude.{◌≡◌}
use Rattle.std.proofs.Math.Path.{refl, ap}
use Rattle.std.proofs.Common.{sym, ◌∙◌}
use Prim.Native.Nat.{ℕ, zero, suc, ◌/◌, ◌^◌, ◌≤◌, ◌<◌}
use Rattle.sizes.specs.Sizes.{slot_end}
use Rattle.routes.specs.Room.{level}
use Rattle.routes.specs.Collect.{routes}
use Rattle.candidates.specs.Candidate.{IsList}
use Rattle.candidates.specs.Winners.{winners}
use Rattle.tree.specs.Arrays.{Arrays, at, node, depth_of, slot_of, held}
use Rattle.tree.specs.Shape.{Shape}
use Rattle.tree.specs.SlotSet.{same_shape, same_node, held-cases}
use Rattle.slots.specs.Word.{hop_in, RightWord, right_none}
use Rattle.slots.specs.Winner.{lower, won_hop, winner_same}
use Rattle.slots.specs.Slot.{RightSlot}
use Rattle.gather.specs.Gather.{gathered}
use Rattle.gather.proofs.Winning.{gathered-winners, gathered_list}
use Rattle.gather.specs.Views.{FeedArrays, feed_view, won_view, word_held, RightWords, view_node, at_won, held_right}

module _ (t : FeedArrays) where
  -- the hop held in the winners' view is that of the four words held
  pub held_won : (v l : ℕ) → held (won_view t) v l ≡ won_hop (word_held t v l)
  unfolding held
  held_won v l =
      (at_won t) a (slot_of v l)
      ∙ ap hop_in (winner_same (λ f. at (feed_view t f) a (slot_of v l)) (word_held t v l)
      (λ f i. ap (λ (b : ℕ). at (feed_view t f) b (slot_of v l)) (sym (view_node t f (v / 2 ^ depth_of l) (level l)))))
    where
      a : ℕ
      a = node (won_view t) (v / 2 ^ depth_of l) (level l)

module _ (A L : ℕ) (t : FeedArrays) (sh : Shape A L (won_view t)) (p : RightWords A t) where
  module _ (W : ℕ) (w : W < 256) where
    -- the candidates of the tree are a list
    pub tree_list : IsList W (gathered W (word_held t))
    tree_list = gathered_list (word_held t) (held_right A L t sh p) W w

    -- whose winners are the route list of the winners' view
    pub tree_winners : winners (gathered W (word_held t)) ≡ routes W (held (won_view t))
    tree_winners = gathered-winners (word_held t) (held_right A L t sh p) W w ∙ ap (routes W) (λ i v l. sym (held_won t v l) i)
