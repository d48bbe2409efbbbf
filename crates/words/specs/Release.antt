-- Releasing an array keeps a table but for one array, and what it holds. Assumes nothing.
use Rattle.std.specs.Prelude.{◌≡◌, ℕ, ◌+◌, ◌-◌, ◌*◌, ◌/◌, ◌%◌, ◌<◌, ◌≤◌, ◌≢◌, List, slice_index}
use Rattle.std.proofs.Common.{sym, ap, ◌∙◌, inl, inr, arith}
use Rattle.logic.specs.Cases.{same, less}
use Rattle.sizes.specs.Sizes.{slot_words, slot_at, slot_end, cell_count, cells_at, totals_at}
use Rattle.sizes.specs.Sizes.{word_at, cell_at, per_group}
use Rattle.calm.specs.Calm.{Settled}
use Rattle.calm.specs.Same.{settled_none}
use Rattle.slots.specs.Word.{IsFeed}
use Rattle.slots.specs.Slot.{FreeSlot, won_free}
use Rattle.array.specs.With.{cell-blank}
use Rattle.array.specs.Right.{Right, right_ext, best-small}
use Rattle.tree.specs.Arrays.{Arrays, par, cell, lev}
use Rattle.tree.specs.Shape.{Child, ParentLinks}
use Rattle.tree.specs.Tree.{parent_links, is_child}
use Rattle.tree.specs.Free.{used_some}
use Rattle.tree.specs.HungBelow.{HungBelow, unhang_shape, unhang_filled}
use Rattle.gather.specs.Views.{feed_view, RightWords}
use Rattle.gather.specs.Hung.{feed-hung-below}
use Rattle.totals.proofs.Empty.{free_sums}
use Rattle.words.specs.Words.{feeds_of, arrays_of, array_count, words_of, slots_of, bests_of, blocks_of, totals_of}
use Rattle.words.specs.TableBut.{TableBut}
use Rattle.words.specs.Gained.{group_at, Ends, Releases, ReleasesRight, Released}
use Rattle.words.specs.Rehung.{re_word, re_header, re_tags, re_words, re_slots, re_bests, re_here, re_links}
use Rattle.words.specs.Rehung.{re_settled_here, re_settled, re_sums, Counted, counted-down}

-- a used array that is not the root and has nothing in it
pub record Releasable (ws : List ℕ) (a : ℕ) : Type 0 where
  pub some : 2 ≤ a
  pub within : a ≤ array_count ws
  pub used : 1 ≤ (arrays_of ws).tag a
  pub no_link : (j : ℕ) → j < cell_count → (arrays_of ws).link a j ≡ 0
  pub no_slot : (s : ℕ) → 1 ≤ s → s < slot_end → slots_of ws a s ≡ 0
  pub no_best : (j : ℕ) → j < cell_count → bests_of ws a j ≡ 0

module _ (L : ℕ) (ws : List ℕ) (a : ℕ) (ok : TableBut L a ws) (em : Releasable ws a) where
  abbrev u₁ : Arrays
  u₁ = arrays_of ws

  abbrev p : ℕ
  p = par u₁ a

  abbrev i : ℕ
  i = cell u₁ a

  hu : ParentLinks (array_count ws) u₁ a
  hu = parent_links (array_count ws) L u₁ ok.shape a em.some em.within em.used

  ha : Child (array_count ws) L u₁ p i a
  ha = is_child (array_count ws) L u₁ ok.shape a em.some em.within em.used

  not_self : p ≢ a
  not_self e = let q : u₁.tag p ≡ u₁.tag a = ap u₁.tag e in omega (arith, ha.named, ha.deep, ok.shape.levels)

  ends : Ends ws p i a
  ends = record {
    size = ok.high;
    parent = hu.some;
    inside = omega (arith, ok.whole, ok.low, hu.within);
    cells = omega arith;
    some = em.some;
    within = omega (arith, ok.whole, ok.low, em.within);
    apart = not_self;
    small = best-small (lev u₁ p) (slots_of ws p) (bests_of ws p)
        (ok.right p hu.some hu.within (omega (arith, ha.used))) i (omega arith);
  }

  -- the counts are not 0
  counts : 1 ≤ slice_index ws 0
  counts =
      omega (
        arith,
        ok.header.count,
        used_some u₁ 0 (array_count ws) a (omega (arith, em.some)) (omega (arith, em.within)) em.used,
      )

  counts_group : 1 ≤ slice_index ws (group_at a)
  counts_group =
      let g = (a - 1) / per_group in
      omega (
        arith,
        ok.header.groups g (omega (arith, ends.within, ok.high)),
        used_some u₁ (per_group * g) per_group a (omega (arith, em.some)) (omega (arith, em.some)) em.used,
      )

  pub releases : Releases ws a
  releases = ends

  pub releases_right : ReleasesRight ws a
  releases_right = record {
    settled = ok.settled p hu.some hu.within (omega (arith, ha.used));
    on = λ e. omega (arith, hu.back, em.some);
    count = counts;
    groups = counts_group;
  }

  no_word : (s : ℕ) → 1 ≤ s → s < slot_end → FreeSlot (words_of ws a s)
  no_word s l b =
      won_free (words_of ws a s) (ok.words a s (omega (arith, em.some)) em.within em.used l b) (em.no_slot s l b)

  -- word k of a page is of a slot and a feed
  slot_word_fact : (k : ℕ) → slot_at (k / slot_words) + (k % slot_words + 1) - 1 ≡ k
  slot_word_fact k = omega arith

  -- every word of a slot or a cell of a is 0
  word_none : (k : ℕ) → slot_at 1 ≤ k → k < totals_at → slice_index ws (word_at a k) ≡ 0
  word_none k h w =
      less k cells_at
      (λ l _. rw (slot_word_fact k) at (no_word (k / slot_words) (omega arith) (omega arith) (k % slot_words + 1)
      (record { low = omega arith; high = omega arith })))
      (λ l _. (let d : word_at a k ≡ cell_at a (k - cells_at) = omega arith in
      rw d (cell-blank _ (em.no_best (k - cells_at) (omega arith)) (em.no_link (k - cells_at) (omega arith))
      (settled_none (slots_of ws a) (u₁.link a) em.no_slot em.no_link (blocks_of ws a)
      (ok.settled a (omega (arith, em.some)) em.within em.used) (k - cells_at) (omega arith)))))

  module _ (vs : List ℕ) (re : Released ws vs a) where
    abbrev t₁ : Arrays
    t₁ = arrays_of vs

    pub released-hung-below : HungBelow (array_count ws) L t₁ u₁ p i a
    released-hung-below = record {
      some = em.some;
      within = em.within;
      parent = hu.some;
      inside = hu.within;
      cells = ends.cells;
      used = rw (re_tags ends re p hu.some not_self) ha.used;
      deep = rw (re_tags ends re p hu.some not_self) ha.deep;
      free = re.tag;
      named = rw (re_tags ends re p hu.some not_self) ha.named;
      tags = λ c h n. sym (re_tags ends re c h n);
      off = re_here ends re;
      on = hu.back;
      links = λ c j h b n. sym (re_links ends re c j h b n);
      slots = λ c s h l b. sym (re_slots ends re c s h l b);
      no_link = λ j b. re_links ends re a j ha.some b (inl (λ e. not_self (sym e))) ∙ em.no_link j b;
      no_slot = λ s l b. re_slots ends re a s ha.some l b ∙ em.no_slot s l b;
    }

    -- the same of each feed
    pub released-feed : (f : ℕ) → IsFeed f
        → HungBelow (array_count ws) L (feed_view (feeds_of vs) f) (feed_view (feeds_of ws) f) p i a
    released-feed f y =
        feed-hung-below (array_count ws) L (feeds_of vs) (feeds_of ws) p i a released-hung-below f
        (λ c s h l b. sym (re_words ends re c s f h l b y)) (λ s l b. re_words ends re a s f ha.some l b y ∙ no_word s l b f y)

    released-counted : Counted vs ws a
    released-counted = record {
      size = sym re.size;
      count = omega (arith, re.count, counts);
      group = omega (arith, re.group, counts_group);
      groups = λ g b n. sym (re_header ends re (g + 1) (omega arith) (λ e. omega arith) n);
    }

    blank : (c : ℕ) → 1 ≤ c → c ≤ array_count ws → t₁.tag c ≡ 0 → (k : ℕ) → slot_at 1 ≤ k → k < totals_at
        → slice_index vs (word_at c k) ≡ 0
    blank c h w z k o b =
        same c a
        (λ e _. rw e (re_word ends re a k ha.some (omega arith) (λ q. not_self (sym q)) (inr (λ q. omega arith))
        ∙ word_none k o b))
        (λ m _.
        let y : u₁.tag c ≡ 0 = sym (re_tags ends re c h m) ∙ z in
        let x : c ≢ p = λ e. (let q : u₁.tag c ≡ u₁.tag p = ap u₁.tag e in omega (arith, ha.used)) in
        re_word ends re c k h (omega arith) x (inl m) ∙ ok.blank c h w y k o b)

    words : RightWords (array_count ws) (feeds_of vs)
    words c s h w z l b f y =
        let n : c ≢ a = λ e. (let q : t₁.tag c ≡ t₁.tag a = ap t₁.tag e in omega (arith, re.tag)) in
        rw (re_words ends re c s f h l b y) (ok.words c s h w (rw (← (re_tags ends re c h n)) z) l b f y)

    right : (c : ℕ) → 1 ≤ c → c ≤ array_count ws → 1 ≤ t₁.tag c → Right (lev t₁ c) (slots_of vs c) (bests_of vs c)
    right c h w z =
        let n : c ≢ a = λ e. (let q : t₁.tag c ≡ t₁.tag a = ap t₁.tag e in omega (arith, re.tag)) in
        rw (re_tags ends re c h n) (right_ext (lev u₁ c) (slots_of ws c) (bests_of ws c) (slots_of vs c) (bests_of vs c)
        (λ s l b. re_slots ends re c s h l b) (λ j b. re_bests ends re c j h b)
        (ok.right c h w (rw (← (re_tags ends re c h n)) z)))

    settled : (c : ℕ) → 1 ≤ c → c ≤ array_count ws → 1 ≤ t₁.tag c → Settled (slots_of vs c) (t₁.link c) (blocks_of vs c)
    settled c h w z =
        let n : c ≢ a = λ e. (let q : t₁.tag c ≡ t₁.tag a = ap t₁.tag e in omega (arith, re.tag)) in
        same c p
        (λ e _. rw e (re_settled_here ends re))
        (λ m _. re_settled ends re c h m (ok.settled c h w (rw (← (re_tags ends re c h n)) z)))

    pub released_table_but : TableBut L p vs
    released_table_but = record {
      whole = rw re.size ok.whole;
      low = rw re.size ok.low;
      high = rw re.size ok.high;
      shape = rw re.size (unhang_shape (array_count ws) L t₁ u₁ p i a released-hung-below ok.shape);
      filled = rw re.size (unhang_filled (array_count ws) L t₁ u₁ p i a released-hung-below ok.filled);
      blank = rw re.size blank;
      words = rw re.size words;
      right = rw re.size right;
      settled = rw re.size settled;
      sums =
          rw re.size (re_sums ends re (array_count ws)
          (free_sums (array_count ws) L t₁ u₁ (totals_of ws) p i a released-hung-below ok.sums));
      header =
          counted-down L vs ws p i a (rw re.size released-hung-below) released-counted (rw re.size ok.high)
          ok.header;
      rest =
          λ k h w. re_header ends re k w (λ e. omega arith) (λ e. omega (arith, ends.within, ok.high)) ∙ ok.rest k h w;
    }
