-- One word of a tree set: its candidate is put into the list or cut out of it, and the winners' view changes at most in one slot.
-- Assumes nothing.
--
--     array b, slot s      feed   1    2    3    4                  the views of feeds 1, 3 and 4 stay; that of feed 2 has w
--     before                      x    y    z    0                  in slot s of array b; the winners' has there the hop
--     after                       x    w    z    0                  that wins among x, w, z, 0
use Rattle.std.specs.Prelude.{◌≡◌, refl, ◌⊎◌, ◌≢◌, ℕ, ◌+◌, ◌-◌, ◌*◌, ◌^◌, ◌≤◌, ◌<◌}
use Rattle.std.proofs.Common.{sym, ap, ◌∙◌, inl, inr, mul-le-mul_right, arith, pow-add}
use Rattle.logic.specs.Cases.{same}
use Rattle.sizes.specs.Sizes.{slot_end, cell_count, hop_bound}
use Rattle.candidates.specs.Keyed.{find, put, cut}
use Rattle.candidates.specs.Candidate.{candidate, place, key}
use Rattle.candidates.specs.Winners.{winning}
use Rattle.tree.specs.Shape.{Shape}
use Rattle.tree.specs.SlotSet.{TreeSlotSet, Place, same_shape, held_place, slot_set_here}
use Rattle.tree.proofs.SlotSet.{slot_set_off}
use Rattle.slots.specs.Word.{IsFeed, word_of, hop_in, RightWord}
use Rattle.slots.specs.Winner.{won_hop, winner_same}
use Rattle.slots.specs.Slot.{RightSlot, with_word, with_same, with_other, with_right}
use Rattle.gather.specs.Gather.{meant, gathered, meant_word}
use Rattle.gather.specs.Found.{OffWord}
use Rattle.gather.specs.Views.{FeedArrays, feed_view, won_view, word_held, RightWords, view_shape, view_node, held_right}

-- u is t but for the word of feed f in slot s of array b, which is w
pub record TreeWordSet (t u : FeedArrays) (b s f w : ℕ) : Type 0 where
  pub tags : (c : ℕ) → 1 ≤ c → u.tag c ≡ t.tag c
  pub links : (c i : ℕ) → 1 ≤ c → i < cell_count → u.link c i ≡ t.link c i
  pub here : (j : ℕ) → IsFeed j → u.word b s j ≡ with_word (t.word b s) f w j
  pub words : (c r j : ℕ) → 1 ≤ c → 1 ≤ r → r < slot_end → (c ≢ b) ⊎ (r ≢ s) → IsFeed j → u.word c r j ≡ t.word c r j

module _ (t u : FeedArrays) (b s f w : ℕ) (g : TreeWordSet t u b s f w) where
  -- the view of each feed, and that of the winners
  pub feed-set : (j : ℕ) → IsFeed j → TreeSlotSet (feed_view t j) (feed_view u j) b s (with_word (t.word b s) f w j)
  feed-set j i =
      record { tags = g.tags; links = g.links; here = g.here j i; slots = λ c r x y z o. g.words c r j x y z o i }

  pub won_set : TreeSlotSet (won_view t) (won_view u) b s (won_hop (with_word (t.word b s) f w))
  won_set = record {
    tags = g.tags;
    links = g.links;
    here = ap hop_in (winner_same (u.word b s) (with_word (t.word b s) f w) g.here);
    slots = λ c r x y z o. ap hop_in (winner_same (u.word c r) (t.word c r) (λ j i. g.words c r j x y z o i));
  }

  -- right words stay right
  pub set_right : (A : ℕ) → RightWord w → RightWords A t → RightWords A u
  set_right A n p c r x y z l h =
      same c b
      (λ d _. same r s (λ e _. here d e) (λ m _. elsewhere (inr m)))
      (λ m _. elsewhere (inl m))
    where
      used : 1 ≤ t.tag c
      used = rw (← (g.tags c x)) z

      here : c ≡ b → r ≡ s → RightSlot (u.word c r)
      here d e j i = rw (d, e, g.here j i) (with_right (t.word b s) f w (rw (d, e) at (p c r x y used l h)) n j i)

      elsewhere : (c ≢ b) ⊎ (r ≢ s) → RightSlot (u.word c r)
      elsewhere o j i = rw (g.words c r j x l h o i) (p c r x y used l h j i)

-- at the place of the prefix q, x: 8 * k + d bits
module _ (A L : ℕ) (t u : FeedArrays) (b q k d x f w : ℕ) (sh : Shape A L (won_view t)) (p : Place A L (won_view t) b q k d x)
    (i : IsFeed f) (g : TreeWordSet t u b (2 ^ d + x) f w) where
  abbrev pub v : ℕ
  v = q * 2 ^ d + x

  abbrev pub l : ℕ
  l = 8 * k + d

  abbrev pub s : ℕ
  s = 2 ^ d + x

  pub view_place : (j : ℕ) → Place A L (feed_view t j) b q k d x
  view_place j = record {
    leads = view_node t j q k ∙ p.leads;
    array = p.array;
    head = p.head;
    deep = p.deep;
    own = p.own;
    small = p.small;
  }

  pub small : v < 2 ^ l
  small = omega (arith, pow-add 2 (8 * k) d, mul-le-mul_right (2 ^ d) p.head, p.small)

  -- the words held there, before and after
  pub held-before : (j : ℕ) → word_held t v l j ≡ t.word b s j
  held-before j = held_place A L (feed_view t j) b q k d x (view_place j)
