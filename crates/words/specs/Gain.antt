-- Gaining an array keeps a table but for one array, and what it holds. Assumes nothing.
use Rattle.std.specs.Prelude.{◌≡◌, ℕ, ◌+◌, ◌-◌, ◌<◌, ◌≤◌, ◌≢◌, List, slice_index}
use Rattle.std.proofs.Common.{sym, ap, ◌∙◌, inl, ⊎_elim, arith}
use Rattle.logic.specs.Cases.{same}
use Rattle.sizes.specs.Sizes.{slot_at, slot_end, cell_count, cells_at, totals_at}
use Rattle.sizes.specs.Sizes.{array_at, word_at, cell_at}
use Rattle.calm.specs.Calm.{Settled}
use Rattle.calm.specs.Same.{none_settled}
use Rattle.slots.specs.Word.{IsFeed}
use Rattle.slots.specs.Word.{right_none as word_none}
use Rattle.slots.specs.Slot.{FreeSlot, free_won}
use Rattle.array.specs.Cell.{block_in, link_blank, best-blank}
use Rattle.array.specs.Right.{Right, right_ext, right_none, best-small}
use Rattle.tree.specs.Arrays.{Arrays, lev}
use Rattle.tree.specs.Shape.{Child}
use Rattle.tree.specs.HungBelow.{HungBelow, hang_shape, hang_filled}
use Rattle.gather.specs.Views.{feed_view, RightWords}
use Rattle.gather.specs.Hung.{feed-hung-below}
use Rattle.totals.proofs.Empty.{gain_sums}
use Rattle.words.specs.Words.{feeds_of, arrays_of, array_count, words_of, slots_of, bests_of, blocks_of, totals_of}
use Rattle.words.specs.TableBut.{TableBut}
use Rattle.words.specs.Gained.{Ends, Gained}
use Rattle.words.specs.Rehung.{re_word, re_header, re_tags, re_words, re_slots, re_cell, re_bests, re_here, re_links}
use Rattle.words.specs.Rehung.{re_settled_here, re_settled, re_sums}
use Rattle.words.specs.Rehung.{Counted, counted-up}

-- an array a that is free, and a cell i of p without a link, above the last level
pub record Gain (L : ℕ) (ws : List ℕ) (p i a : ℕ) : Type 0 where
  pub parent : 1 ≤ p
  pub inside : p ≤ array_count ws
  pub cells : i < cell_count
  pub used : 1 ≤ lev (arrays_of ws) p
  pub deep : lev (arrays_of ws) p < L
  pub off : (arrays_of ws).link p i ≡ 0
  pub some : 1 ≤ a
  pub within : a ≤ array_count ws
  pub free : (arrays_of ws).tag a ≡ 0

module _ (L : ℕ) (ws : List ℕ) (p i a : ℕ) (ok : TableBut L p ws) (gn : Gain L ws p i a) where
  abbrev t : Arrays
  t = arrays_of ws

  not_root : 2 ≤ a
  not_root =
      same a 1 (λ e _. absurd (omega (arith, ok.shape.root, gn.free, ap (λ (c : ℕ). slice_index ws (array_at c)) e)))
      (λ n _. omega (arith, gn.some))

  pub gain_ends : Ends ws p i a
  gain_ends = record {
    size = ok.high;
    parent = gn.parent;
    inside = omega (arith, ok.whole, ok.low, gn.inside);
    cells = gn.cells;
    some = not_root;
    within = omega (arith, ok.whole, ok.low, gn.within);
    apart = λ e. (let q : t.tag p ≡ t.tag a = ap t.tag e in omega (arith, gn.used, gn.free));
    small = best-small (lev t p) (slots_of ws p) (bests_of ws p)
        (ok.right p gn.parent gn.inside (omega (arith, gn.used))) i gn.cells;
  }

  no_word : (s : ℕ) → 1 ≤ s → s < slot_end → FreeSlot (words_of ws a s)
  no_word s l b f y =
      ok.blank a gn.some gn.within gn.free (slot_at s + f - 1) (omega (arith, y.low)) (omega (arith, y.high))

  module _ (vs : List ℕ) (re : Gained ws vs p i a) where
    abbrev u : Arrays
    u = arrays_of vs

    pub gained_hung-below : HungBelow (array_count ws) L t u p i a
    gained_hung-below = record {
      some = not_root;
      within = gn.within;
      parent = gn.parent;
      inside = gn.inside;
      cells = gn.cells;
      used = gn.used;
      deep = gn.deep;
      free = gn.free;
      named = re.tag;
      tags = re_tags gain_ends re;
      off = gn.off;
      on = re_here gain_ends re;
      links = re_links gain_ends re;
      slots = re_slots gain_ends re;
      no_link =
          λ j b. ⊎_elim (λ (z : t.link a j ≡ 0). z)
          (λ (z : Child (array_count ws) L t a j (t.link a j)). absurd (omega (arith, z.used, gn.free)))
          (ok.shape.links a j gn.some gn.within b);
      no_slot = λ s l b. free_won (words_of ws a s) (no_word s l b);
    }

    -- the same of each feed
    pub gained_feed : (f : ℕ) → IsFeed f
        → HungBelow (array_count ws) L (feed_view (feeds_of ws) f) (feed_view (feeds_of vs) f) p i a
    gained_feed f y =
        feed-hung-below (array_count ws) L (feeds_of ws) (feeds_of vs) p i a gained_hung-below f
        (λ c s h l b. re_words gain_ends re c s f h l b y) (λ s l b. no_word s l b f y)

    pub gained_counted : Counted ws vs a
    gained_counted = record {
      size = re.size;
      count = re.count;
      group = re.group;
      groups = λ g b n. re_header gain_ends re (g + 1) (omega arith) (λ e. omega arith) n;
    }

    blank : (c : ℕ) → 1 ≤ c → c ≤ array_count ws → u.tag c ≡ 0 → (k : ℕ) → slot_at 1 ≤ k → k < totals_at
        → slice_index vs (word_at c k) ≡ 0
    blank c h w z k o b =
        let n : c ≢ a = λ e. (let q : u.tag c ≡ u.tag a = ap u.tag e in omega (arith, re.tag)) in
        let y : t.tag c ≡ 0 = sym (re_tags gain_ends re c h n) ∙ z in
        let m : c ≢ p = λ e. (let q : t.tag c ≡ t.tag p = ap t.tag e in omega (arith, gn.used)) in
        re_word gain_ends re c k h (omega arith) m (inl n) ∙ ok.blank c h w y k o b

    -- the cells of the array gained are all 0
    cell_none : (j : ℕ) → j < cell_count → slice_index vs (cell_at a j) ≡ 0
    cell_none j b =
        let e : cell_at a j ≡ word_at a (cells_at + j) = omega arith in
        re_cell gain_ends re a j gn.some b (λ q. gain_ends.apart (sym q))
        ∙ rw e (ok.blank a gn.some gn.within gn.free (cells_at + j) (omega arith) (omega arith))

    words : RightWords (array_count ws) (feeds_of vs)
    words c s h w z l b f y =
        rw (re_words gain_ends re c s f h l b y) (same c a
        (λ e _. rw (e, no_word s l b f y) word_none)
        (λ n _. ok.words c s h w (rw (← (re_tags gain_ends re c h n)) z) l b f y))

    right : (c : ℕ) → 1 ≤ c → c ≤ array_count ws → 1 ≤ u.tag c → Right (lev u c) (slots_of vs c) (bests_of vs c)
    right c h w z =
        same c a
        (λ e _. right_none (lev u c) (slots_of vs c) (bests_of vs c)
        (λ s l b. re_slots gain_ends re c s h l b ∙ rw e (gained_hung-below.no_slot s l b))
        (λ j b. rw e (best-blank _ (cell_none j b))))
        (λ n _. rw (re_tags gain_ends re c h n)
        (right_ext (lev t c) (slots_of ws c) (bests_of ws c) (slots_of vs c) (bests_of vs c)
        (λ s l b. re_slots gain_ends re c s h l b) (λ j b. re_bests gain_ends re c j h b)
        (ok.right c h w (rw (← (re_tags gain_ends re c h n)) z))))

    settled : (c : ℕ) → 1 ≤ c → c ≤ array_count ws → 1 ≤ u.tag c → Settled (slots_of vs c) (u.link c) (blocks_of vs c)
    settled c h w z =
        same c a
        (λ e _. rw e (none_settled (slots_of vs a) (u.link a)
        (λ s l b. re_slots gain_ends re a s gn.some l b ∙ gained_hung-below.no_slot s l b)
        (λ j b. link_blank _ (cell_none j b)) (blocks_of vs a) (λ j b. ap block_in (cell_none j b))))
        (λ n _. same c p
        (λ e _. rw e (re_settled_here gain_ends re))
        (λ m _. re_settled gain_ends re c h m (ok.settled c h w (rw (← (re_tags gain_ends re c h n)) z))))

    pub gained_table_but : TableBut L a vs
    gained_table_but = record {
      whole = rw re.size ok.whole;
      low = rw re.size ok.low;
      high = rw re.size ok.high;
      shape = rw re.size (hang_shape (array_count ws) L t u p i a gained_hung-below ok.shape);
      filled = rw re.size (hang_filled (array_count ws) L t u p i a gained_hung-below ok.filled);
      blank = rw re.size blank;
      words = rw re.size words;
      right = rw re.size right;
      settled = rw re.size settled;
      sums =
          rw re.size (re_sums gain_ends re (array_count ws)
          (gain_sums (array_count ws) L t u (totals_of ws) p i a gained_hung-below ok.sums));
      header = counted-up L ws vs p i a gained_hung-below gained_counted ok.high ok.header;
      rest =
          λ k h w. re_header gain_ends re k w (λ e. omega arith) (λ e. omega (arith, gain_ends.within, ok.high))
          ∙ ok.rest k h w;
    }
