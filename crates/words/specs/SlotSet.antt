-- One array's slots, bests and blocks rewritten, and totals of any: the conditions of a table that do not ask for totals stay.
-- Assumes nothing.
use Rattle.std.specs.Prelude.{◌≡◌, ℕ, zero, suc, ◌+◌, ◌-◌, ◌*◌, ◌/◌, ◌<◌, ◌≤◌, ◌≢◌, ◌⊎◌, List, length, slice_index}
use Rattle.std.specs.Prelude.{slice_index_or, refl}
use Rattle.std.proofs.Common.{sym, ap, ◌∙◌, inl, inr, ⊎_elim, arith}
use Rattle.logic.specs.Cases.{same}
use Rattle.sizes.specs.Sizes.{array_words, slot_at, slot_end, cell_count, cells_at, totals_at, array_at, word_at, cell_at}
use Rattle.sizes.specs.Sizes.{per_group}
use Rattle.slots.specs.Word.{IsFeed, hop_in, RightWord}
use Rattle.slots.specs.Winner.{winner_same}
use Rattle.slots.specs.Slot.{with_word}
use Rattle.array.specs.Cell.{best_in, link_in, block_in}
use Rattle.calm.specs.Calm.{Settled}
use Rattle.calm.specs.Same.{settled_ext}
use Rattle.array.specs.Right.{Right, right_ext}
use Rattle.tree.specs.Arrays.{Arrays, lev, used_in}
use Rattle.tree.specs.Shape.{HasSlot, HasLink}
use Rattle.totals.specs.Sums.{Sums}
use Rattle.words.specs.Words.{feeds_of, arrays_of, array_count, words_of, slots_of, bests_of, blocks_of, totals_of}
use Rattle.words.specs.TableBut.{TableBut}
use Rattle.tree.specs.SlotSet.{same_shape}
use Rattle.gather.specs.WordSet.{TreeWordSet, set_right}

-- vs is ws but for feed f's word in slot s of array a, which is w, a's best cells and blocks, and words past the cells of arrays
pub record SlotSet (ws vs : List ℕ) (a s f w : ℕ) : Type 0 where
  pub size : length vs ≡ length ws
  pub header : (k : ℕ) → k < array_words → slice_index vs k ≡ slice_index ws k
  pub others : (c k : ℕ) → 1 ≤ c → c ≢ a → k < totals_at → slice_index vs (word_at c k) ≡ slice_index ws (word_at c k)
  pub tag : slice_index_or vs (array_at a) 0 ≡ slice_index ws (array_at a)
  pub links : (i : ℕ) → i < cell_count → (arrays_of vs).link a i ≡ (arrays_of ws).link a i
  pub here : (j : ℕ) → IsFeed j → words_of vs a s j ≡ with_word (words_of ws a s) f w j
  pub slots : (r : ℕ) → 1 ≤ r → r < slot_end → r ≢ s → (j : ℕ) → IsFeed j → words_of vs a r j ≡ words_of ws a r j
  pub right : Right (lev (arrays_of vs) a) (slots_of vs a) (bests_of vs a)
  pub settled : Settled (slots_of vs a) ((arrays_of vs).link a) (blocks_of vs a)

-- a table is one but for any array
pub table_is_but : (L e : ℕ) (ws : List ℕ) → TableBut L 0 ws → TableBut L e ws
table_is_but L e ws o = record {
  whole = o.whole;
  low = o.low;
  high = o.high;
  shape = o.shape;
  filled = λ a h w n p. o.filled a h w (λ q. omega arith) p;
  blank = o.blank;
  words = o.words;
  right = o.right;
  settled = o.settled;
  sums = o.sums;
  header = o.header;
  rest = o.rest;
}

-- nothing may be empty
pub but_is_table : (L e : ℕ) (ws : List ℕ) → TableBut L e ws
    → (2 ≤ e → HasSlot (arrays_of ws) e ⊎ HasLink (arrays_of ws) e) → TableBut L 0 ws
but_is_table L e ws o f = record {
  whole = o.whole;
  low = o.low;
  high = o.high;
  shape = o.shape;
  filled = λ a h w n p. same a e (λ q _. rw q (f (rw q at h))) (λ m _. o.filled a h w m p);
  blank = o.blank;
  words = o.words;
  right = o.right;
  settled = o.settled;
  sums = o.sums;
  header = o.header;
  rest = o.rest;
}

module _ (L e : ℕ) (ws vs : List ℕ) (a s f w : ℕ) (some : 1 ≤ a) (g : SlotSet ws vs a s f w) where
  abbrev t : Arrays
  t = arrays_of ws

  abbrev u : Arrays
  u = arrays_of vs

  cell : (c i : ℕ) → 1 ≤ c → c ≢ a → i < cell_count → slice_index vs (cell_at c i) ≡ slice_index ws (cell_at c i)
  cell c i k n w =
      let d : cell_at c i ≡ word_at c (cells_at + i) = omega arith in rw d (g.others c (cells_at + i) k n (omega arith))

  tags : (c : ℕ) → 1 ≤ c → u.tag c ≡ t.tag c
  tags c k =
      same c a
      (λ q _. rw q g.tag)
      (λ n _. (let d : array_at c ≡ word_at c 0 = omega arith in rw d (g.others c 0 k n (omega arith))))

  links : (c i : ℕ) → 1 ≤ c → i < cell_count → u.link c i ≡ t.link c i
  links c i k w =
      same c a (λ q _. rw q (g.links i w)) (λ n _. ap link_in (cell c i k n w))

  -- a slot of another array
  slot_word_fact : (c r j : ℕ) → 1 ≤ c → c ≢ a → r < slot_end → IsFeed j → words_of vs c r j ≡ words_of ws c r j
  slot_word_fact c r j k n b y = g.others c (slot_at r + j - 1) k n (omega (arith, y.high))

  slot : (c r : ℕ) → 1 ≤ c → c ≢ a → r < slot_end → slots_of vs c r ≡ slots_of ws c r
  slot c r k n b = ap hop_in (winner_same (words_of vs c r) (words_of ws c r) (λ j y. slot_word_fact c r j k n b y))

  pub slot_set_tree : TreeWordSet (feeds_of ws) (feeds_of vs) a s f w
  slot_set_tree = record {
    tags = tags;
    links = links;
    here = g.here;
    words = λ c r j k l b n y. same c a
        (λ q _. rw q (g.slots r l b (⊎_elim (λ (z : c ≢ a). absurd (z q)) (λ (z : r ≢ s). z) n) j y))
        (λ m _. slot_word_fact c r j k m b y);
  }

  used_same : (lo n : ℕ) → used_in u lo n ≡ used_in t lo n
  used_same lo zero = refl
  used_same lo (suc n) = rw (tags (lo + suc n) (omega arith), used_same lo n)

  -- a table but for a, where the totals are right
  pub slot_set_table_but : TableBut L e ws → (e ≡ 0) ⊎ (e ≡ a) → 1 ≤ slice_index ws (array_at a) → RightWord w
      → Sums (array_count ws) (arrays_of vs) (totals_of vs) → TableBut L a vs
  slot_set_table_but o ea us rt ok = record {
    whole = rw g.size o.whole;
    low = rw g.size o.low;
    high = rw g.size o.high;
    shape = rw g.size (same_shape t u tags links (array_count ws) L o.shape);
    filled = rw g.size (λ c k w n p. ⊎_elim
        (λ (z : HasSlot t c). inl (record {
          s = z.s;
          low = z.low;
          high = z.high;
          some = rw (slot c z.s (omega arith) n z.high) z.some;
        }))
        (λ (z : HasLink t c). inr (record {
          i = z.i;
          high = z.high;
          some = rw (links c z.i (omega arith) z.high)
              z.some;
        }))
        (o.filled c k w (λ q. ⊎_elim (λ (z : e ≡ 0). omega arith) (λ (z : e ≡ a). n (q ∙ z)) ea)
        (rw (← (tags c (omega arith))) p)));
    blank =
        rw g.size (λ c k w z j p b. (let n : c ≢ a = λ q. (let r : t.tag c ≡ t.tag a = ap t.tag q in
        omega (arith, tags c k)) in
        g.others c j k n b ∙ o.blank c k w (sym (tags c k) ∙ z) j p b));
    words = rw g.size (set_right (feeds_of ws) (feeds_of vs) a s f w slot_set_tree (array_count ws) rt o.words);
    right = rw g.size (λ c k w p. same c a
        (λ q _. rw q g.right)
        (λ n _. rw (tags c k) (right_ext (lev t c) (slots_of ws c) (bests_of ws c) (slots_of vs c) (bests_of vs c)
        (λ r l b. slot c r k n b)
        (λ i b. ap best_in (cell c i k n b))
        (o.right c k w (rw (← (tags c k)) p)))));
    settled = rw g.size (λ c k w p. same c a
        (λ q _. rw q g.settled)
        (λ n _. settled_ext (slots_of ws c) (t.link c) (blocks_of ws c) (slots_of vs c) (u.link c) (blocks_of vs c)
        (λ r l b. slot c r k n b)
        (λ i b. links c i k b)
        (λ i b z. ap block_in (cell c i k n b))
        (o.settled c k w (rw (← (tags c k)) p))));
    sums = rw g.size ok;
    header = record {
      count = g.header 0 (omega arith) ∙ o.header.count ∙ sym (used_same 0 (array_count ws))
          ∙ ap (λ (x : ℕ). used_in u 0 (x / array_words - 1)) (sym g.size);
      groups = λ i b. g.header (i + 1) (omega arith) ∙ o.header.groups i b ∙ sym (used_same (per_group * i) per_group);
    };
    rest = λ k l b. g.header k b ∙ o.rest k l b;
  }
