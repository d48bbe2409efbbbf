-- The words after an array is gained or released: how they come about, what is seen in them, and what the header counts then.
-- Assumes nothing.
use Rattle.std.specs.Prelude.{◌≡◌, ℕ, ◌+◌, ◌-◌, ◌*◌, ◌/◌, ◌<◌, ◌≤◌, ◌≢◌, ◌⊎◌, List, length, slice_index, slice_index_or}
use Rattle.std.specs.Prelude.{slice_set, refl}
use Rattle.std.proofs.Common.{sym, ap, ◌∙◌, inl, inr, ⊎_elim, arith, ext_get_or}
use Rattle.std.proofs.Math.ListN.{length-set}
use Rattle.std.proofs.Math.Seq.{get_or-set_same, get_or-set_other}
use Rattle.logic.specs.Cases.{same, less}
use Rattle.sizes.specs.Sizes.{array_words, most_words, slot_at, slot_end, cell_count, cells_at, totals_at, total_at}
use Rattle.sizes.specs.Sizes.{array_at, word_at, cell_at, per_group, group_count}
use Rattle.slots.specs.Word.{IsFeed, hop_in}
use Rattle.slots.specs.Winner.{winner_same}
use Rattle.array.specs.Cell.{best_in, link_in, block_in}
use Rattle.calm.specs.Calm.{Settled}
use Rattle.calm.specs.Same.{settled_ext}
use Rattle.settle.specs.Link.{Relinked}
use Rattle.settle.specs.Recell.{cut_in}
use Rattle.settle.specs.Any.{CellsOnly, LinkedAny, CutAny}
use Rattle.array.specs.Tag.{tag_of, parent_in, cell_in, level_in}
use Rattle.totals.specs.Up.{plus}
use Rattle.array.specs.Page.{bests, links}
use Rattle.array.specs.Frame.{page_of, with_page, page_word, page_length, with_length, with_in, with_other}
use Rattle.tree.specs.Arrays.{Arrays, used_in, used_of}
use Rattle.tree.specs.HungBelow.{HungBelow, used_out, used-inside}
use Rattle.totals.specs.Sums.{Sums, sums_ext}
use Rattle.words.specs.Words.{arrays_of, array_count, words_of, slots_of, bests_of, blocks_of, totals_of}
use Rattle.words.specs.Lent.{lent_best, lent_link, page_settled, settled_page}
use Rattle.words.specs.TableBut.{Header}
use Rattle.words.specs.Gained.{group_at, retagged, gained_in, released_in, Ends, Gains, ReleasesOf, minus_one}
use Rattle.words.specs.Gained.{Rehung, RehungAny, GainedAny, ReleasedAny}

-- ---- the words with another page of p, then the tag of a and the counts stored

-- word k of another array, or one past the tag of a, is not the tag of a
no_tag : (c a k : ℕ) → k < array_words → (c ≢ a) ⊎ (k ≢ 0) → word_at c k ≢ array_at a
no_tag c a k h n e = ⊎_elim (λ (z : c ≢ a). z (omega arith)) (λ (z : k ≢ 0). z (omega arith)) n

-- the header's words lie before all arrays
no_group : (c a k : ℕ) → 1 ≤ c → array_at a ≤ most_words → word_at c k ≢ group_at a
no_group c a k h w e = omega arith

module _ (ws b : List ℕ) (p i a x c n m : ℕ) (g : Ends ws p i a) (k : length b ≡ length (page_of ws p)) where
  abbrev us : List ℕ
  us = with_page ws p b

  abbrev s1 : List ℕ
  s1 = slice_set us (array_at a) x

  abbrev s2 : List ℕ
  s2 = slice_set s1 0 n

  abbrev vs : List ℕ
  vs = retagged us a x n m

  whole : length b ≡ array_words
  whole = k ∙ page_length ws p g.inside

  lent : length us ≡ length ws
  lent = with_length ws p b g.inside whole

  long : length vs ≡ length ws
  unfolding retagged
  long = length-set s2 (group_at a) m ∙ length-set s1 0 n ∙ length-set us (array_at a) x ∙ lent

  other : (j : ℕ) → j ≢ array_at a → j ≢ 0 → j ≢ group_at a → slice_index vs j ≡ slice_index us j
  unfolding retagged
  other j e f h =
      get_or-set_other s2 (group_at a) j m 0 h ∙ get_or-set_other s1 0 j n 0 f ∙ get_or-set_other us (array_at a) j x 0 e

  tag : slice_index_or vs (array_at a) 0 ≡ x
  unfolding retagged
  tag =
      get_or-set_other s2 (group_at a) (array_at a) m 0 (λ e. omega (arith, g.within, g.some, g.size))
      ∙ get_or-set_other s1 0 (array_at a) n 0 (λ e. omega (arith, g.some))
      ∙ get_or-set_same us (array_at a) x 0 (omega (arith, lent, g.within))

  count : slice_index_or vs 0 0 ≡ n
  unfolding retagged
  count =
      get_or-set_other s2 (group_at a) 0 m 0 (λ e. omega arith)
      ∙ get_or-set_same s1 0 n 0 (omega (arith, length-set us (array_at a) x, lent, g.within))

  group : slice_index_or vs (group_at a) 0 ≡ m
  unfolding retagged
  group =
      get_or-set_same s2 (group_at a) m 0
      (omega (arith, length-set s1 0 n, length-set us (array_at a) x, lent, g.within, g.some))

  -- the page of p is the one put there
  pub new_page : page_of vs p ≡ b
  new_page =
      ext_get_or 0 (page_of vs p) b (page_length vs p (rw long g.inside) ∙ sym whole)
      (λ r h. let l : r < array_words = omega (arith, h, page_length vs p (rw long g.inside)) in
      page_word vs p r l
      ∙ other (word_at p r) (no_tag p a r l (inl g.apart)) (λ e. omega (arith, g.parent))
      (no_group p a r g.parent (omega (arith, g.within, g.size)))
      ∙ with_in ws p b g.inside whole r l)

  pub rehangs_any : CellsOnly (page_of ws p) b → RehungAny ws (retagged (with_page ws p b) a x n m) p a x n m
  rehangs_any l = record {
    size = long;
    tag = tag;
    page = rw new_page l;
    count = count;
    group = group;
    other = λ j e f h o. other j e f h ∙ with_other ws p b g.inside whole j o;
  }

  -- what is seen in cell i of p
  pub re_at_link : (arrays_of (retagged (with_page ws p b) a x n m)).link p i ≡ links b i
  re_at_link = sym (lent_link vs p i g.cells) ∙ ap (λ (l : List ℕ). links l i) new_page

  pub re_at_best : bests_of (retagged (with_page ws p b) a x n m) p i ≡ bests b i
  re_at_best = sym (lent_best vs p i g.cells) ∙ ap (λ (l : List ℕ). bests l i) new_page

  pub rehangs : Relinked (page_of ws p) b i c → Rehung ws (retagged (with_page ws p b) a x n m) p i a x c n m
  rehangs l = record {
    size = long;
    tag = tag;
    page = rw new_page l;
    count = count;
    group = group;
    other = λ j e f h o. other j e f h ∙ with_other ws p b g.inside whole j o;
  }

-- ---- as the code makes them, with counts that may wrap

pub gained_any : (ws b : List ℕ) (p i a n m : ℕ) → Gains ws p i a → LinkedAny (page_of ws p) b i a
    → n ≡ plus (slice_index ws 0) 1 → m ≡ plus (slice_index ws (group_at a)) 1
    → GainedAny ws (retagged (with_page ws p b) a (tag_of p i (level_in (slice_index ws (array_at p)) + 1)) n m) p i a
unfolding gained_in
gained_any ws b p i a n m g l ne me =
    let x = tag_of p i (level_in (slice_index ws (array_at p)) + 1) in
    let e = g.ends in
    let z = l.cells.size in
    record {
      is = λ k. retagged (with_page ws p (l.is k)) a x (ne k) (me k);
      any = rw (← ne, ← me) (rehangs_any ws b p i a x a n m e z l.cells);
      here = re_at_link ws b p i a x a n m e z ∙ l.here;
      best = re_at_best ws b p i a x a n m e z ∙ l.best ∙ lent_best ws p i e.cells;
      right = λ r.
          let o : links (page_of ws p) i ≡ 0 = lent_link ws p i e.cells ∙ r.off in
          let nn : n ≡ slice_index ws 0 + 1 = omega (arith, r.count) in
          let mm : m ≡ slice_index ws (group_at a) + 1 = omega (arith, r.groups) in
          rw (← nn, ← mm) (rehangs ws b p i a x a n m e z (l.right (page_settled ws p r.settled) o));
    }

pub released_any : (ws b : List ℕ) (a p i n m : ℕ) → p ≡ parent_in (slice_index ws (array_at a))
    → i ≡ cell_in (slice_index ws (array_at a))
    → slice_index ws 0 < 4294967296 → slice_index ws (group_at a) < 4294967296
    → Ends ws p i a → CutAny (page_of ws p) b i
    → n ≡ plus (slice_index ws 0) minus_one → m ≡ plus (slice_index ws (group_at a)) minus_one
    → ReleasedAny ws (retagged (with_page ws p b) a 0 n m) a
unfolding released_in
released_any ws b a p i n m pe ie nb mb e l ne me =
    let z = l.cells.size in
    record {
      is = (λ k. retagged (with_page ws p (l.is k)) a 0 (ne k) (me k))
          ∙ (λ k. retagged (with_page ws (pe k) (cut_in (page_of ws (pe k)) (ie k))) a 0 (plus (slice_index ws 0) minus_one)
          (plus (slice_index ws (group_at a)) minus_one));
      any = rw (← ne, ← me, ← pe) (rehangs_any ws b p i a 0 0 n m e z l.cells);
      right = λ r0.
          let r : ReleasesOf ws p i a = rw (pe, ie) r0 in
          let o : links (page_of ws p) i ≢ 0 = λ q. r.on (sym (lent_link ws p i e.cells) ∙ q) in
          let nn : n ≡ slice_index ws 0 - 1 = omega (arith, r.count) in
          let mm : m ≡ slice_index ws (group_at a) - 1 = omega (arith, r.groups) in
          rw (← nn, ← mm, ← pe, ← ie) (rehangs ws b p i a 0 0 n m e z (l.right (page_settled ws p r.settled) o));
    }

-- ---- what is seen in any

module _ {ws vs : List ℕ} {p i a x n m : ℕ} (g : Ends ws p i a) (r : RehungAny ws vs p a x n m) where
  -- another array than p
  pub any_word : (d k : ℕ) → 1 ≤ d → k < array_words → d ≢ p → (d ≢ a) ⊎ (k ≢ 0)
      → slice_index vs (word_at d k) ≡ slice_index ws (word_at d k)
  any_word d k h w e f =
      r.other (word_at d k) (no_tag d a k w f) (λ q. omega arith) (no_group d a k h (omega (arith, g.within, g.size)))
      (less d p (λ l _. inl (omega arith)) (λ l _. inr (omega arith)))

  pub any_low : (k : ℕ) → k < cells_at → slice_index vs (word_at p k) ≡ slice_index ws (word_at p k)
  any_low k h = sym (page_word vs p k (omega arith)) ∙ r.page.low k h ∙ page_word ws p k (omega arith)

  pub any_tags : (d : ℕ) → 1 ≤ d → d ≢ a → (arrays_of vs).tag d ≡ (arrays_of ws).tag d
  any_tags d h e =
      let z : array_at d ≡ word_at d 0 = omega arith in
      rw z (same d p (λ q _. rw q (any_low 0 (omega arith))) (λ f _. any_word d 0 h (omega arith) f (inl e)))

  pub any_cell : (d j : ℕ) → 1 ≤ d → j < cell_count → d ≢ p → slice_index vs (cell_at d j) ≡ slice_index ws (cell_at d j)
  any_cell d j h b f =
      let z : cell_at d j ≡ word_at d (cells_at + j) = omega arith in
      rw z (any_word d (cells_at + j) h (omega arith) f (inr (λ q. omega arith)))

-- ---- what is seen in them

module _ {ws vs : List ℕ} {p i a x c n m : ℕ} (g : Ends ws p i a) (r : Rehung ws vs p i a x c n m) where
  -- another array than p
  pub re_word : (d k : ℕ) → 1 ≤ d → k < array_words → d ≢ p → (d ≢ a) ⊎ (k ≢ 0)
      → slice_index vs (word_at d k) ≡ slice_index ws (word_at d k)
  re_word d k h w e f =
      r.other (word_at d k) (no_tag d a k w f) (λ q. omega arith) (no_group d a k h (omega (arith, g.within, g.size)))
      (less d p (λ l _. inl (omega arith)) (λ l _. inr (omega arith)))

  -- a word of p that is no cell
  pub re_low : (k : ℕ) → k < cells_at → slice_index vs (word_at p k) ≡ slice_index ws (word_at p k)
  re_low k h = sym (page_word vs p k (omega arith)) ∙ r.page.low k h ∙ page_word ws p k (omega arith)

  -- a word past the cells
  pub re_past : (d k : ℕ) → 1 ≤ d → totals_at ≤ k → k < array_words → slice_index vs (word_at d k) ≡ slice_index ws (word_at d k)
  re_past d k h l w =
      same d p
      (λ q _. rw q (sym (page_word vs p k w) ∙ r.page.high k l ∙ page_word ws p k w))
      (λ n _. re_word d k h w n (inr (λ q. omega arith)))

  pub re_totals : (d s : ℕ) → 1 ≤ d → 1 ≤ s → s < slot_end → totals_of vs d s ≡ totals_of ws d s
  re_totals d s h l b = re_past d (total_at s) h (omega arith) (omega arith)

  -- so their conditions, of the arrays as they are now
  pub re_sums : (A : ℕ) → Sums A (arrays_of vs) (totals_of ws) → Sums A (arrays_of vs) (totals_of vs)
  re_sums A =
      sums_ext A (arrays_of vs) (arrays_of vs) (totals_of ws) (totals_of vs) (λ d s h w l b. refl) (λ d i h w b. refl) re_totals

  -- the header
  pub re_header : (k : ℕ) → k < array_words → k ≢ 0 → k ≢ group_at a → slice_index vs k ≡ slice_index ws k
  re_header k h e f = r.other k (λ q. omega (arith, g.some)) e f (inl (omega (arith, g.parent)))

  pub re_tags : (d : ℕ) → 1 ≤ d → d ≢ a → (arrays_of vs).tag d ≡ (arrays_of ws).tag d
  re_tags d h e =
      let z : array_at d ≡ word_at d 0 = omega arith in
      rw z (same d p (λ q _. rw q (re_low 0 (omega arith))) (λ f _. re_word d 0 h (omega arith) f (inl e)))

  pub re_words : (d s f : ℕ) → 1 ≤ d → 1 ≤ s → s < slot_end → IsFeed f → words_of vs d s f ≡ words_of ws d s f
  re_words d s f h l b y =
      let lo : 1 ≤ slot_at s + f - 1 = omega (arith, y.low) in
      let hi : slot_at s + f - 1 < cells_at = omega (arith, y.high) in
      same d p
      (λ q _. rw q (re_low (slot_at s + f - 1) hi))
      (λ n _. re_word d (slot_at s + f - 1) h (omega arith) n (inr (λ q. omega arith)))

  pub re_slots : (d s : ℕ) → 1 ≤ d → 1 ≤ s → s < slot_end → slots_of vs d s ≡ slots_of ws d s
  re_slots d s h l b = ap hop_in (winner_same (words_of vs d s) (words_of ws d s) (λ f y. re_words d s f h l b y))

  -- a cell of another array than p
  pub re_cell : (d j : ℕ) → 1 ≤ d → j < cell_count → d ≢ p → slice_index vs (cell_at d j) ≡ slice_index ws (cell_at d j)
  re_cell d j h b f =
      let z : cell_at d j ≡ word_at d (cells_at + j) = omega arith in
      rw z (re_word d (cells_at + j) h (omega arith) f (inr (λ q. omega arith)))

  pub re_bests : (d j : ℕ) → 1 ≤ d → j < cell_count → bests_of vs d j ≡ bests_of ws d j
  re_bests d j h b =
      same d p
      (λ q _. rw q (sym (lent_best vs p j b) ∙ r.page.same_bests j b ∙ lent_best ws p j b))
      (λ f _. ap best_in (re_cell d j h b f))

  pub re_here : (arrays_of vs).link p i ≡ c
  re_here = sym (lent_link vs p i g.cells) ∙ r.page.here

  pub re_links : (d j : ℕ) → 1 ≤ d → j < cell_count → (d ≢ p) ⊎ (j ≢ i) → (arrays_of vs).link d j ≡ (arrays_of ws).link d j
  re_links d j h b o =
      same d p
      (λ q _. rw q (sym (lent_link vs p j b)
      ∙ r.page.same_links j b (⊎_elim (λ (z : d ≢ p). absurd (z q)) (λ (z : j ≢ i). z) o) ∙ lent_link ws p j b))
      (λ f _. ap link_in (re_cell d j h b f))

  -- the blocks of p are right, and those of another array if they were
  pub re_settled_here : Settled (slots_of vs p) ((arrays_of vs).link p) (blocks_of vs p)
  re_settled_here = settled_page vs p r.page.settled

  pub re_settled : (d : ℕ) → 1 ≤ d → d ≢ p → Settled (slots_of ws d) ((arrays_of ws).link d) (blocks_of ws d)
      → Settled (slots_of vs d) ((arrays_of vs).link d) (blocks_of vs d)
  re_settled d h f =
      settled_ext (slots_of ws d) ((arrays_of ws).link d) (blocks_of ws d) (slots_of vs d) ((arrays_of vs).link d)
      (blocks_of vs d)
      (λ s l b. re_slots d s h l b) (λ j b. re_links d j h b (inl f)) (λ j b _. ap block_in (re_cell d j h b f))

-- ---- the header

-- vs counts the array a besides
pub record Counted (ws vs : List ℕ) (a : ℕ) : Type 0 where
  pub size : length vs ≡ length ws
  pub count : slice_index_or vs 0 0 ≡ slice_index ws 0 + 1
  pub group : slice_index_or vs ((a - 1) / per_group + 1) 0 ≡ slice_index ws ((a - 1) / per_group + 1) + 1
  pub groups : (g : ℕ) → g < group_count → g + 1 ≢ (a - 1) / per_group + 1 → slice_index vs (g + 1) ≡ slice_index ws (g + 1)

module _ (L : ℕ) (ws vs : List ℕ) (p i a : ℕ) (h : HungBelow (array_count ws) L (arrays_of ws) (arrays_of vs) p i a)
    (c : Counted ws vs a) (size : length ws ≤ most_words) where
  abbrev t₀ : Arrays
  t₀ = arrays_of ws

  abbrev u₀ : Arrays
  u₀ = arrays_of vs

  all_up : used_in u₀ 0 (array_count ws) ≡ used_in t₀ 0 (array_count ws) + 1
  all_up = used-inside (array_count ws) L t₀ u₀ p i a h 0 (array_count ws) (omega (arith, h.some)) (omega (arith, h.within))

  in_up : (g : ℕ) → g ≡ (a - 1) / per_group → used_of u₀ g ≡ used_of t₀ g + 1
  in_up g e =
      used-inside (array_count ws) L t₀ u₀ p i a h (per_group * g) per_group (omega (arith, h.some)) (omega (arith, h.some))

  out_up : (g : ℕ) → g ≢ (a - 1) / per_group → used_of u₀ g ≡ used_of t₀ g
  out_up g e =
      used_out (array_count ws) L t₀ u₀ p i a h (per_group * g) per_group
      (less (per_group * g) a (λ l _. inr (omega (arith, h.some))) (λ l _. inl l))

  pub counted-up : Header ws → Header vs
  counted-up d = record {
    count = c.count ∙ ap (λ (x : ℕ). x + 1) d.count ∙ sym all_up
        ∙ ap (λ (x : ℕ). used_in u₀ 0 (x / array_words - 1)) (sym c.size);
    groups = λ g b. same g ((a - 1) / per_group)
        (λ e _. ap (λ (x : ℕ). slice_index vs (x + 1)) e ∙ c.group ∙ ap (λ (x : ℕ). slice_index ws (x + 1) + 1) (sym e)
        ∙ ap (λ (x : ℕ). x + 1) (d.groups g b) ∙ sym (in_up g e))
        (λ n _. c.groups g b (λ e. n (omega arith)) ∙ d.groups g b ∙ sym (out_up g n));
  }

  pub counted-down : Header vs → Header ws
  counted-down d = record {
    count = omega (arith, c.count, d.count, all_up, ap (λ (x : ℕ). used_in u₀ 0 (x / array_words - 1)) c.size);
    groups = λ g b. same g ((a - 1) / per_group)
        (λ e _. omega (
          arith,
          in_up g e,
          d.groups g b,
          c.group,
          ap (λ (x : ℕ). slice_index vs (x + 1)) e,
          ap (λ (x : ℕ). slice_index ws (x + 1)) e,
        ))
        (λ n _. sym (c.groups g b (λ e. n (omega arith))) ∙ d.groups g b ∙ out_up g n);
  }
