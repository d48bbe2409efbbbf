-- A table with candidates on all four levels, two of them of one prefix, exists. Assumes nothing.
--
--     header │ array 1 ──cell 10──► array 2 ──cell 1──► array 3 ──cell 1──► array 4
--              10.0.0.0/8           10.1.0.0/16         10.1.1.0/24         10.1.1.1/32
--              feed 1               feed 2              feed 3              feeds 1 and 4
use Rattle.std.specs.Prelude.{◌≡◌, refl, ◌⊎◌, ◌≢◌, List, [], ◌∷◌, ℕ, zero, suc, ◌+◌, ◌-◌, ◌*◌, ◌/◌, ◌^◌, ◌≤◌, ◌<◌, length, get_or}
use Rattle.std.specs.Prelude.{set}
use Rattle.std.proofs.Math.Path.{sym}
use Rattle.std.proofs.Common.{ap, ap₂, ◌∙◌, inl, inr, ⊎_elim, div-le_self, arith, length-set, get_or-set_same, get_or-set_other}
use Rattle.std.proofs.Common.{shr-shr, shr_lt}
use Rattle.std.proofs.Math.Seq.{ext_get_or}
use Rattle.sizes.specs.Sizes.{array_words, slot_at, slot_end, cell_count, cells_at, cell_slots, totals_at, total_at, array_at}
use Rattle.sizes.specs.Sizes.{word_at, cell_at, hop_bound}
use Rattle.routes.specs.Small.{ip}
use Rattle.logic.specs.Cases.{same, less}
use Rattle.candidates.specs.Keyed.{put}
use Rattle.candidates.specs.Candidate.{Candidate, candidate, key}
use Rattle.candidates.specs.Seen.{table}
use Rattle.calm.specs.Calm.{Settled}
use Rattle.slots.specs.Word.{IsFeed, feed_1, feed_2, feed_3, feed_4, word_of, hop_in, right_of}
use Rattle.slots.specs.Winner.{won_hop, winner_same, won_small}
use Rattle.slots.specs.Slot.{RightSlot, with_word, with_same, with_right, won_free}
use Rattle.slots.specs.Slot.{with_other as word_other}
use Rattle.array.specs.Tag.{tag_of, level_in}
use Rattle.array.specs.Cell.{best_in, link_in, link_blank}
use Rattle.array.specs.With.{with_best, best-set, link_kept}
use Rattle.array.specs.Page.{best_of}
use Rattle.array.specs.Frame.{page_of, with_page, page_word, page_length, with_length, with_in, with_other}
use Rattle.array.specs.Right.{Right, right_ext}
use Rattle.array.specs.Best.{best_some, best_ext}
use Rattle.array.specs.Change.{best-apart}
use Rattle.settle.specs.Settled.{Resettled}
use Rattle.settle.specs.Exists.{resettled, resettled_right, relinked, relinked_right}
use Rattle.tree.specs.Arrays.{Arrays, lev, node}
use Rattle.tree.specs.Tree.{node-level}
use Rattle.tree.specs.Need.{node_child}
use Rattle.gather.specs.Views.{feed_view, word_held, view_shape}
use Rattle.gather.proofs.Hung.{gathered_same}
use Rattle.gather.specs.WordSet.{TreeWordSet}
use Rattle.gather.proofs.WordSet.{tree_put}
use Rattle.totals.specs.Sums.{Sums}
use Rattle.words.specs.Words.{feeds_of, arrays_of, array_count, words_of, slots_of, bests_of, blocks_of, totals_of}
use Rattle.words.specs.TableBut.{TableBut}
use Rattle.words.specs.Lent.{lent_best, lent_link, settled_page}
use Rattle.words.specs.Gained.{group_at, retagged, Ends, Gained}
use Rattle.words.specs.Rehung.{rehangs}
use Rattle.tree.specs.HungBelow.{HungBelow, node-cases, hang_held}
use Rattle.words.specs.Gain.{Gain, gain_ends, gained_hung-below, gained_feed, gained_table_but}
use Rattle.tree.specs.SlotSet.{Place, same_node}
use Rattle.words.specs.SlotSet.{SlotSet, table_is_but, but_is_table, slot_set_tree, slot_set_table_but}
use Rattle.words.specs.Retotalled.{step, retotalled, WordSet, end_slot_set, end_sums}
use Rattle.words.specs.Clear.{cleared, cleared-word, cleared-length, cleared_table, cleared_candidates}
use Rattle.words.specs.Table.{list_of, seen}
use Rattle.words.specs.View.{seen_table}

-- ---- a row of arrays, each below a cell of the one before

-- the arrays 1 .. k + 1 are the row along the path q of k bytes, and hold nothing yet
record Row (k q : ℕ) (ws : List ℕ) : Type 0 where
  pub ok : TableBut 4 (k + 1) ws
  pub size : length ws ≡ 15360
  pub leads : (j : ℕ) → j ≤ k → node (arrays_of ws) (q / 2 ^ (8 * (k - j))) j ≡ j + 1
  pub free : (c : ℕ) → k + 1 < c → (arrays_of ws).tag c ≡ 0
  pub off : (i : ℕ) → i < cell_count → (arrays_of ws).link (k + 1) i ≡ 0
  pub list : list_of 4 ws ≡ []

row_first : Row 0 0 (cleared 15360)
unfolding node
row_first = record {
  ok = table_is_but 4 1 (cleared 15360) (cleared_table 15360 (omega arith) 4 (omega arith) (omega arith) refl (omega arith));
  size = cleared-length 15360 (omega arith);
  leads = λ j h. (let e : j ≡ 0 = omega arith in rw e);
  free = λ c h. cleared-word 15360 (omega arith) (array_at c) (λ e. omega arith) (λ e. omega arith) (λ e. omega arith);
  off = λ i h. link_blank _
      (cleared-word 15360 (omega arith) (cell_at 1 i) (λ e. omega arith) (λ e. omega arith) (λ e. omega arith));
  list = cleared_candidates 15360 32 (omega arith);
}

-- ws with array a hung below cell i of p
unfoldable pub hung : List ℕ → ℕ → ℕ → ℕ → List ℕ
hung ws p i a =
    retagged (with_page ws p (relinked (page_of ws p) i a)) a (tag_of p i (level_in (get_or ws (array_at p) 0) + 1))
    (get_or ws 0 0 + 1) (get_or ws (group_at a) 0 + 1)

hung_gained : (ws : List ℕ) (p i a : ℕ) → Ends ws p i a → Gained ws (hung ws p i a) p i a
unfolding hung
hung_gained ws p i a g =
    let r = relinked_right (page_of ws p) i a (page_length ws p g.inside) g.cells
    (rw (lent_best ws p i g.cells) g.small)
    (omega (arith, g.some)) (omega (arith, g.within, g.size)) in
    rehangs ws (relinked (page_of ws p) i a) p i a _ a _ _ g r.size r

module _ (k q i : ℕ) (ws : List ℕ) (row : Row k q ws) (more : k < 3) (cell : i < cell_count) where
  abbrev t : Arrays
  t = arrays_of ws

  abbrev vs : List ℕ
  vs = hung ws (k + 1) i (k + 2)

  abbrev u : Arrays
  u = arrays_of vs

  -- the last of the row
  last : node t q k ≡ k + 1
  last = let e : 8 * (k - k) ≡ 0 = omega arith in let f : q / 1 ≡ q = omega arith in rw (e, f) at (row.leads k (omega arith))

  level : lev t (k + 1) ≡ k + 1
  level = rw last at (node-level (array_count ws) 4 t row.ok.shape q k (omega (arith, last))).level

  gain : Gain 4 ws (k + 1) i (k + 2)
  gain = record {
    parent = omega arith;
    inside = omega (arith, row.size);
    cells = cell;
    used = omega (arith, level);
    deep = omega (arith, level);
    off = row.off i cell;
    some = omega arith;
    within = omega (arith, row.size);
    free = row.free (k + 2) (omega arith);
  }

  now : Gained ws vs (k + 1) i (k + 2)
  now = hung_gained ws (k + 1) i (k + 2) (gain_ends 4 ws (k + 1) i (k + 2) row.ok gain)

  hang : HungBelow (array_count ws) 4 t u (k + 1) i (k + 2)
  hang = gained_hung-below 4 ws (k + 1) i (k + 2) row.ok gain vs now

  -- what a path led to, it leads to
  keeps : (v j : ℕ) → 1 ≤ node t v j → node u v j ≡ node t v j
  keeps v j h =
      ⊎_elim (λ (z : node u v j ≡ node t v j). z) (λ (z : (node u v j ≡ k + 2) × (node t v j ≡ 0)). absurd (omega (arith, z.1)))
      (node-cases (array_count ws) 4 t u (k + 1) i (k + 2) hang row.ok.shape v j)

  leads_to : (j : ℕ) → j ≤ k + 1 → node u ((q * 256 + i) / 2 ^ (8 * (k + 1 - j))) j ≡ j + 1
  leads_to j h =
      same j (suc k)
      (λ e _. (let f : 8 * (k + 1 - suc k) ≡ 0 = omega arith in
      let g : (q * 256 + i) / 1 ≡ q * 256 + i = omega arith in
      let n : node u q k ≡ k + 1 = keeps q k (omega (arith, last)) ∙ last in
      rw (e, f, g) (node_child u q k i cell (omega (arith, n)) ∙ ap (λ (a : ℕ). u.link a i) n ∙ hang.on ∙ omega arith)))
      (λ n _. (let f : 8 * (k + 1 - j) ≡ 8 + 8 * (k - j) = omega arith in
      let g : (q * 256 + i) / 256 ≡ q = omega arith in
      let l = row.leads j (omega arith) in
      rw (f, ← (shr-shr (q * 256 + i) 8 (8 * (k - j))), g) (keeps (q / 2 ^ (8 * (k - j))) j (omega (arith, l)) ∙ l)))

  row_more : Row (k + 1) (q * 256 + i) vs
  row_more = record {
    ok = (let e : k + 1 + 1 ≡ k + 2 = omega arith in rw e (gained_table_but 4 ws (k + 1) i (k + 2) row.ok gain vs now));
    size = now.size ∙ row.size;
    leads = leads_to;
    free = λ c h. hang.tags c (omega arith) (λ e. omega arith) ∙ row.free c (omega arith);
    off = λ j h.
        (let e : k + 1 + 1 ≡ k + 2 = omega arith in
        rw e (hang.links (k + 2) j (omega arith) h (inl (λ z. omega arith)) ∙ hang.no_link j h));
    list = gathered_same (word_held (feeds_of vs)) (word_held (feeds_of ws)) (λ v l f y.
        hang_held (array_count ws) 4 (feed_view (feeds_of ws) f) (feed_view (feeds_of vs) f) (k + 1) i (k + 2)
        (gained_feed 4 ws (k + 1) i (k + 2) row.ok gain vs now f y)
        (view_shape (feeds_of ws) (array_count ws) 4 f row.ok.shape) v l) 32
        ∙ row.list;
  }

-- ---- the blocks of an array, all written

unfoldable pub anew : List ℕ → ℕ → List ℕ
anew ws a = with_page ws a (resettled (page_of ws a))

module _ (ws : List ℕ) (a : ℕ) (inside : array_at (a + 1) ≤ length ws) where
  abbrev b₁ : List ℕ
  b₁ = resettled (page_of ws a)

  settles : Resettled (page_of ws a) b₁
  settles = resettled_right (page_of ws a) (page_length ws a inside)

  whole : length b₁ ≡ array_words
  whole = settles.size ∙ page_length ws a inside

  anew-size : length (anew ws a) ≡ length ws
  unfolding anew
  anew-size = with_length ws a b₁ inside whole

  anew-outside : (k : ℕ) → (k < array_at a) ⊎ (array_at (a + 1) ≤ k) → get_or (anew ws a) k 0 ≡ get_or ws k 0
  unfolding anew
  anew-outside = with_other ws a b₁ inside whole

  page : page_of (anew ws a) a ≡ b₁
  unfolding anew
  page =
      let l = page_length (anew ws a) a (rw anew-size inside) in
      ext_get_or 0 (page_of (anew ws a) a) b₁ (l ∙ sym whole)
      (λ r h. let c : r < array_words = omega (arith, h, l) in
      page_word (anew ws a) a r c ∙ with_in ws a b₁ inside whole r c)

  again : Resettled (page_of ws a) (page_of (anew ws a) a)
  again = rw page settles

  -- the tag and the slots
  anew-low : (k : ℕ) → k < cells_at → get_or (anew ws a) (word_at a k) 0 ≡ get_or ws (word_at a k) 0
  anew-low k h = sym (page_word (anew ws a) a k (omega arith)) ∙ again.low k h ∙ page_word ws a k (omega arith)

  -- what comes after the cells
  anew_past : (k : ℕ) → totals_at ≤ k → k < array_words → get_or (anew ws a) (word_at a k) 0 ≡ get_or ws (word_at a k) 0
  anew_past k h b = sym (page_word (anew ws a) a k b) ∙ again.high k h ∙ page_word ws a k b

  anew-word : (s f : ℕ) → s < slot_end → IsFeed f → words_of (anew ws a) a s f ≡ words_of ws a s f
  anew-word s f h y = anew-low (slot_at s + f - 1) (omega (arith, y.high))

  anew_slot : (s : ℕ) → s < slot_end → slots_of (anew ws a) a s ≡ slots_of ws a s
  anew_slot s h = ap hop_in (winner_same (words_of (anew ws a) a s) (words_of ws a s) (λ f y. anew-word s f h y))

  anew_link : (i : ℕ) → i < cell_count → (arrays_of (anew ws a)).link a i ≡ (arrays_of ws).link a i
  anew_link i h = sym (lent_link (anew ws a) a i h) ∙ again.same_links i h ∙ lent_link ws a i h

  anew-best : (i : ℕ) → i < cell_count → bests_of (anew ws a) a i ≡ bests_of ws a i
  anew-best i h = sym (lent_best (anew ws a) a i h) ∙ again.same_bests i h ∙ lent_best ws a i h

  anew-settled : Settled (slots_of (anew ws a) a) ((arrays_of (anew ws a)).link a) (blocks_of (anew ws a) a)
  anew-settled = settled_page (anew ws a) a again.settled

-- ---- a candidate of 8 bits in an array: its word and the best of its cell, then the blocks

-- where the word of feed f for the last 8 bits x stands in array a
abbrev spot : ℕ → ℕ → ℕ → ℕ
spot a x f = word_at a (slot_at (cell_slots + x) + f - 1)

-- the hop that wins there once feed f has the word w
abbrev wins : List ℕ → ℕ → ℕ → ℕ → ℕ → ℕ
wins ws a x f w = won_hop (with_word (words_of ws a (cell_slots + x)) f w)

-- ws with that word, the blocks as they were
abbrev bested : List ℕ → ℕ → ℕ → ℕ → ℕ → List ℕ
bested ws a x f w =
    set (set ws (spot a x f) w) (cell_at a x) (with_best (get_or ws (cell_at a x) 0) (8 * hop_bound + wins ws a x f w))

abbrev posted : List ℕ → ℕ → ℕ → ℕ → ℕ → List ℕ
posted ws a x f w = anew (bested ws a x f w) a

module _ (ws : List ℕ) (a x f n h : ℕ) (array : 1 ≤ a) (inside : array_at (a + 1) ≤ length ws) (small : x < cell_count)
    (feed : IsFeed f) (low : n ≤ 255) (some : 1 ≤ h) (hop : h < hop_bound) (deep : 1 ≤ level_in (get_or ws (array_at a) 0))
    (words : RightSlot (words_of ws a (cell_slots + x)))
    (right : Right (level_in (get_or ws (array_at a) 0)) (slots_of ws a) (bests_of ws a)) where
  abbrev lv : ℕ
  lv = level_in (get_or ws (array_at a) 0)

  abbrev w : ℕ
  w = word_of n h

  abbrev g : ℕ → ℕ
  g = with_word (words_of ws a (cell_slots + x)) f w

  abbrev ms : List ℕ
  ms = set ws (spot a x f) w

  abbrev ps : List ℕ
  ps = bested ws a x f w

  -- some hop wins
  won : won_hop g ≢ 0
  won e =
      let z : w ≡ 0 =
      sym (with_same (words_of ws a (cell_slots + x)) f w)
      ∙ won_free g (with_right (words_of ws a (cell_slots + x)) f w words (right_of n h low some hop)) e f feed in
      omega arith

  within : (spot a x f < array_at (a + 1)) × (array_at a < spot a x f)
  within = (omega (arith, feed.high), omega (arith, feed.low))

  first : (k : ℕ) → k ≢ cell_at a x → get_or ps k 0 ≡ get_or ms k 0
  first k m = get_or-set_other ms (cell_at a x) k _ 0 m

  second : (k : ℕ) → k ≢ spot a x f → get_or ms k 0 ≡ get_or ws k 0
  second k m = get_or-set_other ws (spot a x f) k w 0 m

  word : (k : ℕ) → k ≢ cell_at a x → k ≢ spot a x f → get_or ps k 0 ≡ get_or ws k 0
  word k m o = first k m ∙ second k o

  -- a slot's word is no cell
  slot_first : (r j : ℕ) → r < slot_end → IsFeed j → words_of ps a r j ≡ words_of ms a r j
  slot_first r j b y = first (word_at a (slot_at r + j - 1)) (λ e. omega (arith, y.high))

  word_here : (j : ℕ) → IsFeed j → words_of ps a (cell_slots + x) j ≡ g j
  word_here j y =
      slot_first (cell_slots + x) j (omega arith) y
      ∙ same j f
      (λ e _. rw e (get_or-set_same ws (spot a x f) w 0 (omega (arith, within.0))
      ∙ sym (with_same (words_of ws a (cell_slots + x)) f w)))
      (λ m _. second (word_at a (slot_at (cell_slots + x) + j - 1)) (λ e. m (omega (arith, feed.low, y.low)))
      ∙ sym (word_other (words_of ws a (cell_slots + x)) f w j m))

  -- of another slot
  word_same : (r j : ℕ) → r ≢ cell_slots + x → IsFeed j → words_of ms a r j ≡ words_of ws a r j
  word_same r j m y =
      second (word_at a (slot_at r + j - 1)) (λ e. m (omega (arith, feed.low, feed.high, y.low, y.high)))

  slot_here : slots_of ps a (cell_slots + x) ≡ won_hop g
  slot_here = ap hop_in (winner_same (words_of ps a (cell_slots + x)) g word_here)

  slot_other : (r : ℕ) → r ≢ cell_slots + x → slots_of ms a r ≡ slots_of ws a r
  slot_other r m = ap hop_in (winner_same (words_of ms a r) (words_of ws a r) (λ j y. word_same r j m y))

  slot_last : (r : ℕ) → r < slot_end → slots_of ps a r ≡ slots_of ms a r
  slot_last r b = ap hop_in (winner_same (words_of ps a r) (words_of ms a r) (λ j y. slot_first r j b y))

  slot_same : (r : ℕ) → r < slot_end → r ≢ cell_slots + x → slots_of ps a r ≡ slots_of ws a r
  slot_same r b m = slot_last r b ∙ slot_other r m

  cell_here : get_or ps (cell_at a x) 0 ≡ with_best (get_or ws (cell_at a x) 0) (8 * hop_bound + won_hop g)
  cell_here = get_or-set_same ms (cell_at a x) _ 0 (simp length-set (omega arith))

  cell_same : (i : ℕ) → i < cell_count → i ≢ x → get_or ps (cell_at a i) 0 ≡ get_or ws (cell_at a i) 0
  cell_same i b m = word (cell_at a i) (λ e. m (omega arith)) (λ e. omega (arith, feed.high))

  tag_same : get_or ps (array_at a) 0 ≡ get_or ws (array_at a) 0
  tag_same = word (array_at a) (λ e. omega arith) (λ e. omega (arith, within.1))

  -- a slot of 8 bits stands above its own cell only
  apart : (i : ℕ) → i < cell_count → i ≢ x → (e : ℕ) → (cell_slots + i) / 2 ^ e ≢ cell_slots + x
  apart i b m zero z = m (omega arith)
  apart i b m (suc e) z =
      let d = shr-shr (cell_slots + i) 1 e in let q = div-le_self ((cell_slots + i) / 2) (2 ^ e) in
      let c : 1 + e ≡ suc e = omega arith in omega (arith, rw c at d)

  best_right : (i : ℕ) → i < cell_count → bests_of ps a i ≡ best_of (slots_of ps a) (cell_slots + i) 8
  best_right i b =
      same i x
      (λ e _. rw (e, best_some (slots_of ps a) (cell_slots + x) 8 (λ z. won (sym slot_here ∙ z)), slot_here)
      (ap best_in cell_here ∙ best-set (get_or ws (cell_at a x) 0) (8 * hop_bound + won_hop g) (omega (arith, won_small g))))
      (λ m _. ap best_in (cell_same i b m)
      ∙ right.sound.best i b
      ∙ sym (best-apart (slots_of ws a) (slots_of ms a) (cell_slots + x) (λ r o. slot_other r o) 8 (cell_slots + i) (apart i b m))
      ∙ best_ext (slots_of ms a) (slots_of ps a) (λ s l c. sym (slot_last s c)) (cell_slots + i) 8 (omega arith) (omega arith))

  link_same : (i : ℕ) → i < cell_count → (arrays_of ps).link a i ≡ (arrays_of ws).link a i
  link_same i b =
      same i x
      (λ e _. rw e (ap link_in cell_here
      ∙ link_kept (get_or ws (cell_at a x) 0) (8 * hop_bound + won_hop g) (omega (arith, won_small g))))
      (λ m _. ap link_in (cell_same i b m))

  right_now : Right lv (slots_of ps a) (bests_of ps a)
  right_now = record {
    sound = record { hops = λ s l b. won_small (words_of ps a s); best = best_right };
    first = λ z. slot_same 1 (omega arith) (λ e. omega arith) ∙ right.first z;
  }

  -- the blocks are written besides
  long : length ps ≡ length ws
  long = simp length-set

  room : array_at (a + 1) ≤ length ps
  room = rw long inside

  tag_kept : get_or (posted ws a x f w) (array_at a) 0 ≡ get_or ws (array_at a) 0
  tag_kept =
      let e : array_at a ≡ word_at a 0 = omega arith in
      ap (λ (k : ℕ). get_or (anew ps a) k 0) e ∙ anew-low ps a room 0 (omega arith) ∙ ap (λ (k : ℕ). get_or ps k 0) (sym e)
      ∙ tag_same

  outside : (k : ℕ) → (k < array_at a) ⊎ (array_at (a + 1) ≤ k) → get_or (posted ws a x f w) k 0 ≡ get_or ws k 0
  outside k o =
      anew-outside ps a room k o ∙ ⊎_elim
      (λ (z : k < array_at a). word k (λ e. omega arith) (λ e. omega (arith, within.1)))
      (λ (z : array_at (a + 1) ≤ k). word k (λ e. omega arith) (λ e. omega (arith, within.0))) o

  -- a word of another array
  elsewhere : (c k : ℕ) → c ≢ a → k < array_words → get_or (posted ws a x f w) (word_at c k) 0 ≡ get_or ws (word_at c k) 0
  elsewhere c k m b = outside (word_at c k) (less c a (λ l _. inl (omega arith)) (λ l _. inr (omega arith)))

  -- no total yet
  posted_totals : (c q : ℕ) → q < slot_end → totals_of (posted ws a x f w) c q ≡ totals_of ws c q
  posted_totals c q b =
      same c a
      (λ e _. rw e (anew_past ps a room (total_at q) (omega arith) (omega arith)
      ∙ word (word_at a (total_at q)) (λ z. omega arith) (λ z. omega (arith, feed.high))))
      (λ m _. elsewhere c (total_at q) m (omega arith))

  posted_reslot : SlotSet ws (posted ws a x f w) a (cell_slots + x) f w
  posted_reslot = record {
    size = anew-size ps a room ∙ long;
    header = λ k b. outside k (inl (omega (arith, array)));
    others = λ c k l m b. elsewhere c k m (omega arith);
    tag = tag_kept;
    links = λ i b. anew_link ps a room i b ∙ link_same i b;
    here = λ j y. anew-word ps a room (cell_slots + x) j (omega arith) y ∙ word_here j y;
    slots = λ r l b m j y. anew-word ps a room r j b y ∙ slot_first r j b y ∙ word_same r j m y;
    right = rw tag_kept (right_ext lv (slots_of ps a) (bests_of ps a) (slots_of (anew ps a) a) (bests_of (anew ps a) a)
        (λ s l b. anew_slot ps a room s b) (λ i b. anew-best ps a room i b) right_now);
    settled = anew-settled ps a room;
  }

-- and the totals on the path of that array, the one of level j
unfoldable pub counted : List ℕ → ℕ → ℕ → ℕ → ℕ → List ℕ
counted ws j x f w =
    let vs = posted ws (j + 1) x f w in
    retotalled j vs (j + 1) (cell_slots + x) (step (slots_of ws (j + 1) (cell_slots + x)) (slots_of vs (j + 1) (cell_slots + x)))

-- ---- candidates in each array of the row 10.1.1

-- the row of all four arrays stands for the list cs; array e may be empty
record Posts (e : ℕ) (ws : List ℕ) (cs : List Candidate) : Type 0 where
  pub ok : TableBut 4 e ws
  pub size : length ws ≡ 15360
  pub leads : (j : ℕ) → j ≤ 3 → node (arrays_of ws) (655617 / 2 ^ (8 * (3 - j))) j ≡ j + 1
  pub list : list_of 4 ws ≡ cs

-- the word of preference n and hop h
module _ (e : ℕ) (ws : List ℕ) (cs : List Candidate) (p : Posts e ws cs) (j x f n h : ℕ) (at : (e ≡ 0) ⊎ (e ≡ j + 1))
    (deep : j ≤ 3) (small : x < cell_count) (feed : IsFeed f) (low : n ≤ 255) (some : 1 ≤ h) (hop : h < hop_bound) where
  abbrev t₁ : Arrays
  t₁ = arrays_of ws

  abbrev v : ℕ
  v = 655617 / 2 ^ (8 * (3 - j))

  level₁ : lev t₁ (j + 1) ≡ j + 1
  level₁ = rw (p.leads j deep) at (node-level (array_count ws) 4 t₁ p.ok.shape v j (omega (arith, p.leads j deep))).level

  used : 1 ≤ t₁.tag (j + 1)
  used = omega (arith, level₁)

  right_slot : RightSlot (words_of ws (j + 1) (cell_slots + x))
  right_slot = p.ok.words (j + 1) (cell_slots + x) (omega arith) (omega (arith, p.size)) used (omega arith) (omega arith)

  abbrev ps₁ : List ℕ
  ps₁ = posted ws (j + 1) x f (word_of n h)

  abbrev us : List ℕ
  us = counted ws j x f (word_of n h)

  set_slot : WordSet 4 e ws ps₁ v j (j + 1) (cell_slots + x) f (word_of n h)
  set_slot =
      let right = p.ok.right (j + 1) (omega arith) (omega (arith, p.size)) used in
      record {
        ok = p.ok;
        leads = p.leads j deep;
        there = omega arith;
        low = omega arith;
        high = omega arith;
        slot = posted_reslot ws (j + 1) x f n h (omega arith) (omega (arith, p.size)) small feed low some hop
            (omega (arith, level₁)) right_slot right;
        totals = λ c q y l b. posted_totals ws (j + 1) x f n h (omega arith) (omega (arith, p.size)) small feed low some hop
            (omega (arith, level₁)) right_slot right c q b;
      }

  slot : SlotSet ws us (j + 1) (cell_slots + x) f (word_of n h)
  unfolding counted
  slot = end_slot_set set_slot

  sums : Sums (array_count ws) (arrays_of us) (totals_of us)
  unfolding counted
  sums = end_sums set_slot

  slotted : TreeWordSet (feeds_of ws) (feeds_of us) (j + 1) (cell_slots + x) f (word_of n h)
  slotted = slot_set_tree 4 e ws us (j + 1) (cell_slots + x) f (word_of n h) (omega arith) slot

  place : Place (array_count ws) 4 t₁ (j + 1) v j 8 x
  place = record {
    leads = p.leads j deep;
    array = omega arith;
    head = (let f : 8 * j + 8 * (3 - j) ≡ 24 = omega arith in shr_lt (8 * j) (8 * (3 - j)) (rw f (omega arith)));
    deep = omega arith;
    own = inl (omega arith);
    small = small;
  }

  -- the slot is not free
  taken : slots_of us (j + 1) (cell_slots + x) ≢ 0
  taken z =
      won ws (j + 1) x f n h (omega arith) (omega (arith, p.size)) small feed low some hop (omega (arith, level₁)) right_slot
      (p.ok.right (j + 1) (omega arith) (omega (arith, p.size)) used)
      (sym (ap hop_in (winner_same (words_of us (j + 1) (cell_slots + x))
      (with_word (words_of ws (j + 1) (cell_slots + x)) f (word_of n h)) slot.here)) ∙ z)

  post : Posts 0 us (put key (candidate ((v * 256 + x) * 2 ^ (32 - (8 * j + 8))) (8 * j + 8) f n h) cs)
  post = record {
    ok = but_is_table 4 (j + 1) us (slot_set_table_but 4 e ws us (j + 1) (cell_slots + x) f (word_of n h) (omega arith) slot
        p.ok at used (right_of n h low some hop) sums)
        (λ _. inl (record { s = cell_slots + x; low = omega arith; high = omega arith; some = omega (arith, taken) }));
    size = slot.size ∙ p.size;
    leads = λ i b. same_node t₁ (arrays_of us) slotted.tags slotted.links (655617 / 2 ^ (8 * (3 - i))) i ∙ p.leads i b;
    list = tree_put (array_count ws) 4 (feeds_of ws) (feeds_of us) (j + 1) v j 8 x f (word_of n h) p.ok.shape place feed slotted
        32 (omega arith) (omega arith) n h some hop refl
        ∙ ap (put key (candidate ((v * 256 + x) * 2 ^ (32 - (8 * j + 8))) (8 * j + 8) f n h)) p.list;
  }

-- ---- the table

abbrev row : List ℕ
row = hung (hung (hung (cleared 15360) 1 10 2) 2 1 3) 3 1 4

abbrev pub deep : List ℕ
deep =
    let hosts = counted (counted row 3 1 1 (word_of 7 4)) 3 1 4 (word_of 7 5) in
    counted (counted (counted hosts 2 1 3 (word_of 255 3)) 1 1 2 (word_of 1 2)) 0 10 1 (word_of 0 1)

abbrev pub deep_list : List Candidate
deep_list =
    candidate (ip 10 0 0 0) 8 1 0 1
    ∷ candidate (ip 10 1 0 0) 16 2 1 2
    ∷ candidate (ip 10 1 1 0) 24 3 255 3
    ∷ candidate (ip 10 1 1 1) 32 1 7 4
    ∷ candidate (ip 10 1 1 1) 32 4 7 5
    ∷ []

row_all : Row 3 655617 row
row_all =
    let one = row_more 0 0 10 _ row_first (omega arith) (omega arith) in
    let two = row_more 1 10 1 _ one (omega arith) (omega arith) in
    row_more 2 2561 1 _ two (omega arith) (omega arith)

row_posts : Posts 4 row []
row_posts = record { ok = row_all.ok; size = row_all.size; leads = row_all.leads; list = row_all.list }

deep_posts : Posts 0 deep deep_list
deep_posts =
    let one =
    post 4 _ _ row_posts 3 1 1 7 4 (inr refl) (omega arith) (omega arith) feed_1 (omega arith) (omega arith) (omega arith) in
    let two = post 0 _ _ one 3 1 4 7 5 (inl refl) (omega arith) (omega arith) feed_4 (omega arith) (omega arith) (omega arith) in
    let three =
    post 0 _ _ two 2 1 3 255 3 (inl refl) (omega arith) (omega arith) feed_3 (omega arith) (omega arith) (omega arith) in
    let four =
    post 0 _ _ three 1 1 2 1 2 (inl refl) (omega arith) (omega arith) feed_2 (omega arith) (omega arith) (omega arith) in
    post 0 _ _ four 0 10 1 0 1 (inl refl) (omega arith) (omega arith) feed_1 (omega arith) (omega arith) (omega arith)

-- four arrays, and a candidate of each level
pub deep-seen : seen 4 deep ≡ table 4 deep_list
deep-seen =
    seen_table 4 deep deep_posts.ok ∙ ap₂ table (ap (λ (n : ℕ). n / array_words - 1) deep_posts.size) deep_posts.list
