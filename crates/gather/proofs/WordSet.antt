-- One word of a tree set: its candidate is put into the list or cut out of it, and the winners' view changes at most in one slot.
-- Assumes nothing.
--
--     array b, slot s      feed   1    2    3    4                  the views of feeds 1, 3 and 4 stay; that of feed 2 has w
--     before                      x    y    z    0                  in slot s of array b; the winners' has there the hop
--     after                       x    w    z    0                  that wins among x, w, z, 0
use Rattle.std.specs.Prelude.{◌≡◌, refl, ◌⊎◌, ◌≢◌, ℕ, ◌+◌, ◌-◌, ◌*◌, ◌^◌, ◌≤◌, ◌<◌}
use Rattle.std.proofs.Common.{sym, ap, ◌∙◌, inl, inr, mul-le-mul_right, arith, pow-add}
use Rattle.logic.specs.Cases.{same}
use Rattle.sizes.specs.Sizes.{slot_end, cell_count, hop_bound}
use Rattle.candidates.specs.Keyed.{find, put, cut}
use Rattle.candidates.specs.Candidate.{candidate, place, key}
use Rattle.candidates.specs.Winners.{winning}
use Rattle.tree.specs.Shape.{Shape}
use Rattle.tree.specs.SlotSet.{TreeSlotSet, Place, same_shape, held_place, slot_set_here}
use Rattle.tree.proofs.SlotSet.{slot_set_off}
use Rattle.slots.specs.Word.{IsFeed, word_of, hop_in, RightWord}
use Rattle.slots.specs.Winner.{won_hop, winner_same}
use Rattle.slots.specs.Slot.{RightSlot, with_word, with_same, with_other, with_right}
use Rattle.gather.specs.Gather.{meant, gathered, meant_word}
use Rattle.gather.specs.Found.{OffWord}
use Rattle.gather.proofs.Found.{gathered-find, gathered-put, gathered_cut}
use Rattle.gather.proofs.Winning.{gathered_won}
use Rattle.gather.specs.Views.{FeedArrays, feed_view, won_view, word_held, RightWords, view_shape, view_node, held_right}
use Rattle.gather.specs.WordSet.{TreeWordSet, feed-set, set_right, view_place, small, held-before}

-- at the place of the prefix q, x: 8 * k + d bits
module _ (A L : ℕ) (t u : FeedArrays) (b q k d x f w : ℕ) (sh : Shape A L (won_view t)) (p : Place A L (won_view t) b q k d x)
    (i : IsFeed f) (g : TreeWordSet t u b (2 ^ d + x) f w) where
  abbrev v : ℕ
  v = q * 2 ^ d + x

  abbrev l : ℕ
  l = 8 * k + d

  abbrev s : ℕ
  s = 2 ^ d + x

  pub held_after : (j : ℕ) → IsFeed j
      → word_held u v l j ≡ with_word (t.word b s) f w j
  held_after j n =
      slot_set_here A L (feed_view t j) (feed_view u j) b q k d x
      (with_word (t.word b s) f w j) (view_shape t A L j sh)
      (view_place A L t u b q k d x f w sh p i g j) (feed-set t u b s f w g j n)

  -- and everywhere else
  held_off : (W : ℕ) → OffWord W v l f (word_held t) (word_held u)
  held_off W v' l' j n h m z =
      same v' v
      (λ e _. same l' l
      (λ c _. rw (e, c) (held-before A L t u b q k d x f w sh p i g j
      ∙ sym (held_after j n ∙ with_other (t.word b s) f w j (λ y. z (e, c, y)))))
      (λ o _. off (λ y. o y.1)))
      (λ o _. off (λ y. o y.0))
    where
      off : ¬ ((v' ≡ v) × (l' ≡ l))
          → word_held t v' l' j ≡ word_held u v' l' j
      off y =
          slot_set_off A L (feed_view t j) (feed_view u j) b q k d x
          (with_word (t.word b s) f w j) (view_shape t A L j sh)
          (view_place A L t u b q k d x f w sh p i g j) (feed-set t u b s f w g j n) W v' l' h m y

  module _ (W : ℕ) (wd : W < 256) (fits : l ≤ W) where
    -- what is found at the place before
    pub tree_find : find key (gathered W (word_held t)) (place (v * 2 ^ (W - l)) l f) ≡ meant (W - l) v l f (t.word b s f)
    tree_find = gathered-find W wd (word_held t) v l f fits (small A L t u b q k d x f w sh p i g) i
        ∙ ap (meant (W - l) v l f) (held-before A L t u b q k d x f w sh p i g f)

    -- the word of preference n and hop h: that candidate is put
    pub tree_put : (n h : ℕ) → 1 ≤ h → h < hop_bound → w ≡ word_of n h
        → gathered W (word_held u) ≡ put key
        (candidate (v * 2 ^ (W - l)) l f n h) (gathered W (word_held t))
    tree_put n h y z e =
        gathered-put W wd (word_held t) (word_held u) v l f fits (small A L t u b q k d x f w sh p i g) i (held_off W)
        (candidate (v * 2 ^ (W - l)) l f n h)
        (ap (meant (W - l) v l f) (held_after f i ∙ with_same (t.word b s) f w
        ∙ e) ∙ meant_word (W - l) v l f n h y z)
        refl

    -- the word 0: the candidate is cut
    pub tree_cut : w ≡ 0 → gathered W (word_held u) ≡ cut key (place (v * 2 ^ (W - l)) l f) (gathered W (word_held t))
    tree_cut e =
        gathered_cut W wd (word_held t) (word_held u) v l f fits (small A L t u b q k d x f w sh p i g) i (held_off W)
        (held_after f i ∙ with_same (t.word b s) f w ∙ e)

    -- the winning hops of the prefix
    module _ (r : RightWords A t) where
      pub won_before : winning (gathered W (word_held t))
          (v * 2 ^ (W - l) * 256 +
          l) ≡ won_hop (t.word b s)
      won_before =
          gathered_won (word_held t) (held_right A L t sh r) W v
          l wd fits (small A L t u b q k d x f w sh p i g)
          ∙ ap hop_in (winner_same (word_held t v l)
          (t.word b s) (λ j n. (held-before A L t u b q k d x f w sh p i g) j))

      pub won_after : RightWord w
          → winning (gathered W (word_held u))
          (v * 2 ^ (W - l) * 256 +
          l) ≡ won_hop (with_word (t.word b s) f w)
      won_after y =
          gathered_won (word_held u)
          (held_right A L u shape (set_right t u b s f w g A y r)) W
          v l wd fits (small A L t u b q k d x f w sh p i g)
          ∙ ap hop_in (winner_same (word_held u v l)
          (with_word (t.word b s) f w) held_after)
        where
          shape : Shape A L (won_view u)
          shape = same_shape (won_view t) (won_view u) g.tags g.links A L sh
