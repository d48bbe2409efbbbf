-- A number added to totals from one array up to the root: in the array at a slot and those above it, in each array above at the
-- slot of the cell that leads down. Assumes nothing.
--
--     root, cell 10 ──▶ array 3, cell 1 ──▶ array 2, slot 19
--     added_on: in array 2 at 19, 9, 4, 2, 1; in array 3 at 257, 128, .. 1; in the root at 266, 133, .. 1
use Rattle.std.specs.Prelude.{◌≡◌, ℕ, zero, suc, ◌+◌, ◌-◌, ◌*◌, ◌/◌, ◌%◌, ◌^◌, ◌<◌, ◌≤◌, ◌≢◌, ◌⊎◌, List, length, slice_index}
use Rattle.std.specs.Prelude.{refl}
use Rattle.std.proofs.Common.{sym, ap, ◌∙◌, ⊎_elim, arith, shr-shr}
use Rattle.std.proofs.Math.Logic.{inl, inr}
use Rattle.logic.specs.Cases.{same, less}
use Rattle.sizes.specs.Sizes.{array_words, least_words, slot_end, cell_count, cells_at, cell_slots, totals_at, total_at}
use Rattle.sizes.specs.Sizes.{unused_at}
use Rattle.sizes.specs.Sizes.{array_at, word_at, cell_at, level_bound}
use Rattle.array.specs.Tag.{tag_of, parent_in, cell_in, level_in}
use Rattle.array.specs.Cell.{link_in}
use Rattle.array.specs.Frame.{page_of, with_page, page_word, page_length, with_length, with_in, with_other}
use Rattle.tree.specs.Arrays.{Arrays, node, par, cell}
use Rattle.tree.specs.Shape.{Shape}
use Rattle.tree.specs.Tree.{node-level, node-up, node_tag}
use Rattle.tree.specs.SlotSet.{same_shape, same_node}
use Rattle.totals.specs.Cover.{above, above-bit}
use Rattle.totals.specs.Marks.{part, cell_slot_of, mark, mark_zero, mark_suc, mark_same}
use Rattle.totals.specs.Up.{added_up, plus, up-length, up-outside, up_above, up_other}
use Rattle.words.specs.Words.{arrays_of, array_count, totals_of}

-- in array a
unfoldable pub added_in : List ℕ → ℕ → ℕ → ℕ → List ℕ
added_in ws a s by = with_page ws a (added_up 9 (page_of ws a) s by)

-- and in the k arrays above it
unfoldable pub added_on : ℕ → List ℕ → ℕ → ℕ → ℕ → List ℕ
added_on zero ws a s by = added_in ws a s by
added_on (suc k) ws a s by = added_on k (added_in ws a s by) (par (arrays_of ws) a) (cell_slots + cell (arrays_of ws) a) by

-- the number that takes 1 away, as words wrap
abbrev pub less_one : ℕ
less_one = 4294967295

-- no total
abbrev pub NoTotal : ℕ → Type 0
NoTotal k = (k ≤ totals_at) ⊎ (unused_at ≤ k)

-- ---- in one array

module _ (ws : List ℕ) (a s by : ℕ) (fits : array_at (a + 1) ≤ length ws) (w : s < slot_end) where
  abbrev page : List ℕ
  page = added_up 9 (page_of ws a) s by

  whole : length page ≡ array_words
  whole = up-length 9 (page_of ws a) s by ∙ page_length ws a fits

  pub in_size : length (added_in ws a s by) ≡ length ws
  unfolding added_in
  in_size = with_length ws a page fits whole

  pub in_kept : (c k : ℕ) → k < array_words → (c ≢ a) ⊎ NoTotal k
      → slice_index (added_in ws a s by) (word_at c k) ≡ slice_index ws (word_at c k)
  unfolding added_in
  in_kept c k b o =
      same c a
      (λ e _. rw e (with_in ws a page fits whole k b ∙ up-outside 9 (page_of ws a) s by k (past e o) ∙ page_word ws a k b))
      (λ m _. with_other ws a page fits whole (word_at c k) (less c a (λ l _. inl (omega arith)) (λ l _. inr (omega arith))))
    where
      past : c ≡ a → (c ≢ a) ⊎ NoTotal k → (k ≤ totals_at) ⊎ (total_at s < k)
      past e (inl n) = absurd (n e)
      past e (inr (inl x)) = inl x
      past e (inr (inr x)) = inr (omega arith)

  word : (q : ℕ) → q < slot_end → totals_of (added_in ws a s by) a q ≡ slice_index page (total_at q)
  unfolding added_in
  word q b = with_in ws a page fits whole (total_at q) (omega arith)

  old : (q : ℕ) → q < slot_end → slice_index (page_of ws a) (total_at q) ≡ totals_of ws a q
  old q b = page_word ws a (total_at q) (omega arith)

  raised : (q : ℕ) → 1 ≤ q → q < slot_end → above 9 s q ≡ 1 → totals_of (added_in ws a s by) a q ≡ plus (totals_of ws a q) by
  raised q l b o =
      word q b ∙ up_above 9 (page_of ws a) s by q (omega (arith, page_length ws a fits)) l o ∙ ap (λ (x : ℕ). plus x by) (old q b)

  spared : (q : ℕ) → 1 ≤ q → q < slot_end → above 9 s q ≡ 0 → totals_of (added_in ws a s by) a q ≡ totals_of ws a q
  spared q l b o = word q b ∙ up_other 9 (page_of ws a) s by q l o ∙ old q b

  -- what is added to a total, and what is taken from it
  pub in_up : (c q : ℕ) → 1 ≤ q → q < slot_end → by ≡ 1 → totals_of ws c q + 1 < 4294967296
      → totals_of (added_in ws a s by) c q ≡ totals_of ws c q + part a s c q
  unfolding part
  in_up c q l b e m =
      same c a
      (λ p f. rw (f, p) (⊎_elim
      (λ (o : above 9 s q ≡ 0). rw (o, spared q l b o) (omega arith))
      (λ (o : above 9 s q ≡ 1). rw (o, raised q l b o, e) (omega (arith, rw p at m)))
      (above-bit 9 s q)))
      (λ p f. rw (f, in_kept c (total_at q) (omega arith) (inl p)) (omega arith))

  pub in_down : (c q : ℕ) → 1 ≤ q → q < slot_end → by ≡ less_one → totals_of ws c q < 4294967296 → part a s c q ≤ totals_of ws c q
      → totals_of (added_in ws a s by) c q + part a s c q ≡ totals_of ws c q
  unfolding part
  in_down c q l b e m k =
      same c a
      (λ p f. rw (f, p) (⊎_elim
      (λ (o : above 9 s q ≡ 0). rw (o, spared q l b o) (omega arith))
      (λ (o : above 9 s q ≡ 1). rw (o, raised q l b o, e) (omega (arith, rw p at m, rw (f, p, o) at k)))
      (above-bit 9 s q)))
      (λ p f. rw (f, in_kept c (total_at q) (omega arith) (inl p)) (omega arith))

  -- tags and links stay
  pub in_tags : (c : ℕ) → 1 ≤ c → (arrays_of (added_in ws a s by)).tag c ≡ (arrays_of ws).tag c
  in_tags c h = let e : array_at c ≡ word_at c 0 = omega arith in rw e (in_kept c 0 (omega arith) (inr (inl (omega arith))))

  pub in_links : (c i : ℕ) → 1 ≤ c → i < cell_count → (arrays_of (added_in ws a s by)).link c i ≡ (arrays_of ws).link c i
  in_links c i h b =
      let e : cell_at c i ≡ word_at c (cells_at + i) = omega arith in
      ap link_in (rw e (in_kept c (cells_at + i) (omega arith) (inr (inl (omega arith)))))

-- with the words as the code has them
pub in_lent : (ws : List ℕ) (a s by : ℕ) (m : List ℕ) → m ≡ added_up 9 (page_of ws a) s by → with_page ws a m ≡ added_in ws a s by
unfolding added_in
in_lent ws a s by m e = rw e

-- ---- up the arrays of the path v of k levels

pub record Climbs (L : ℕ) (ws : List ℕ) (v k : ℕ) : Type 0 where
  pub whole : length ws % array_words ≡ 0
  pub low : least_words ≤ length ws
  pub shape : Shape (array_count ws) L (arrays_of ws)
  pub there : 1 ≤ node (arrays_of ws) v k

-- a tag names the array above and the cell
up_tag : (p i l z : ℕ) → i < cell_count → z ≡ tag_of p i (l + 2) → level_in z ≡ suc l + 1 → (parent_in z ≡ p) × (cell_in z ≡ i)
up_tag p i l z b e h = let q : z / level_bound ≡ p * 256 + i = omega arith in (omega arith, rw q (omega arith))

module _ {L : ℕ} {ws : List ℕ} {v k : ℕ} (g : Climbs L ws v k) where
  pub climbs_fit : array_at (node (arrays_of ws) v k + 1) ≤ length ws
  climbs_fit =
      let u = node-level (array_count ws) L (arrays_of ws) g.shape v k g.there in
      omega (arith, g.whole, g.low, u.within)

module _ {L : ℕ} {ws : List ℕ} {v k : ℕ} (g : Climbs L ws v (suc k)) (s by : ℕ) (w : s < slot_end) where
  abbrev t : Arrays
  t = arrays_of ws

  abbrev a : ℕ
  a = node t v (suc k)

  abbrev ms : List ℕ
  ms = added_in ws (node (arrays_of ws) v (suc k)) s by

  same_path : (u j : ℕ) → node (arrays_of ms) u j ≡ node t u j
  same_path = same_node t (arrays_of ms) (in_tags ws a s by (climbs_fit g) w) (in_links ws a s by (climbs_fit g) w)

  pub climbs_more : Climbs L (added_in ws (node (arrays_of ws) v (suc k)) s by) (v / 256) k
  climbs_more =
      let size = in_size ws a s by (climbs_fit g) w in
      record {
        whole = rw size g.whole;
        low = rw size g.low;
        shape = rw size (same_shape t (arrays_of ms) (in_tags ws a s by (climbs_fit g) w) (in_links ws a s by (climbs_fit g) w)
            (array_count ws) L g.shape);
        there = rw (same_path (v / 256) k) (node-up (array_count ws) L t g.shape v k g.there);
      }

  named : (par t a ≡ node t (v / 256) k) × (cell t a ≡ v % 256)
  named =
      let u = node-level (array_count ws) L t g.shape v (suc k) g.there in
      up_tag (node t (v / 256) k) (v % 256) k (t.tag a) (omega arith)
      (node_tag (array_count ws) L t g.shape v k g.there) u.level

  pub parent_path : par (arrays_of ws) (node (arrays_of ws) v (suc k)) ≡ node (arrays_of ms) (v / 256) k
  parent_path = named.0 ∙ sym (same_path (v / 256) k)

  -- one array further up
  pub added_more : added_on (suc k) ws (node (arrays_of ws) v (suc k)) s by
      ≡ added_on k (added_in ws (node (arrays_of ws) v (suc k)) s by)
      (node (arrays_of (added_in ws (node (arrays_of ws) v (suc k)) s by)) (v / 256) k) (cell_slot_of v) by
  unfolding added_on
  added_more = rw (← parent_path, ← named.1)

  same_marks : (c q : ℕ) → mark (arrays_of ms) (v / 256) k (cell_slot_of v) c q ≡ mark t (v / 256) k (cell_slot_of v) c q
  same_marks = mark_same t (arrays_of ms) (in_links ws a s by (climbs_fit g) w) k (v / 256) (cell_slot_of v)

-- ---- the words then

-- the header and what is no total are not written
other : {L : ℕ} {ws : List ℕ} {v k : ℕ} → Climbs L ws v k → (c j : ℕ) → (c ≡ 0) ⊎ NoTotal j
    → (c ≢ node (arrays_of ws) v k) ⊎ NoTotal j
other g c j (inl e) = inl (λ q. omega (arith, g.there))
other g c j (inr n) = inr n

-- the bits of a path above its last array, and those above the array above
pub own_bits : (v k : ℕ) → v / 2 ^ (8 * (k - k)) ≡ v
own_bits v k = let e : k - k ≡ 0 = omega arith in rw e (omega arith)

up_bits : (v k i : ℕ) → i ≤ k → v / 256 / 2 ^ (8 * (k - i)) ≡ v / 2 ^ (8 * (suc k - i))
up_bits v k i h =
    let e : 8 + 8 * (k - i) ≡ 8 * (suc k - i) = omega arith in
    shr-shr v 8 (8 * (k - i)) ∙ ap (λ (n : ℕ). v / 2 ^ n) e

pub on_size : (k : ℕ) {L : ℕ} {ws : List ℕ} {v : ℕ} → Climbs L ws v k → (s by : ℕ) → s < slot_end
    → length (added_on k ws (node (arrays_of ws) v k) s by) ≡ length ws
unfolding added_on
on_size zero {ws = ws} {v} g s by w = in_size ws _ s by (climbs_fit g) w
on_size (suc k) {ws = ws} {v} g s by w =
    ap length (added_more g s by w) ∙ on_size k (climbs_more g s by w) (cell_slot_of v) by (omega arith)
    ∙ in_size ws _ s by (climbs_fit g) w

-- what is no total stays, of any array, and the header
pub on_kept : (k : ℕ) {L : ℕ} {ws : List ℕ} {v : ℕ} → Climbs L ws v k → (s by : ℕ) → s < slot_end → (c j : ℕ) → j < array_words
    → (c ≡ 0) ⊎ NoTotal j
    → slice_index (added_on k ws (node (arrays_of ws) v k) s by) (word_at c j) ≡ slice_index ws (word_at c j)
unfolding added_on
on_kept zero {ws = ws} g s by w c j b o = in_kept ws _ s by (climbs_fit g) w c j b (other g c j o)
on_kept (suc k) {ws = ws} {v} g s by w c j b o =
    ap (λ (us : List ℕ). slice_index us (word_at c j)) (added_more g s by w)
    ∙ on_kept k (climbs_more g s by w) (cell_slot_of v) by (omega arith) c j b o
    ∙ in_kept ws _ s by (climbs_fit g) w c j b (other g c j o)

-- an array off the path stays
pub on_off : (k : ℕ) {L : ℕ} {ws : List ℕ} {v : ℕ} → Climbs L ws v k → (s by : ℕ) → s < slot_end → (c j : ℕ) → j < array_words
    → ((i : ℕ) → i ≤ k → node (arrays_of ws) (v / 2 ^ (8 * (k - i))) i ≢ c)
    → slice_index (added_on k ws (node (arrays_of ws) v k) s by) (word_at c j) ≡ slice_index ws (word_at c j)
unfolding added_on
on_off zero {ws = ws} {v} g s by w c j b f =
    in_kept ws _ s by (climbs_fit g) w c j b
    (inl (λ e. f zero (omega arith) (ap (λ (u : ℕ). node (arrays_of ws) u 0) (own_bits v zero) ∙ sym e)))
on_off (suc k) {ws = ws} {v} g s by w c j b f =
    ap (λ (us : List ℕ). slice_index us (word_at c j)) (added_more g s by w)
    ∙ on_off k (climbs_more g s by w) (cell_slot_of v) by (omega arith) c j b
    (λ i h e. f i (omega arith)
    (ap (λ (u : ℕ). node (arrays_of ws) u i) (sym (up_bits v k i h)) ∙ sym (same_path g s by w _ i) ∙ e))
    ∙ in_kept ws _ s by (climbs_fit g) w c j b
    (inl (λ e. f (suc k) (omega arith) (ap (λ (u : ℕ). node (arrays_of ws) u (suc k)) (own_bits v (suc k)) ∙ sym e)))

part_small : (a s c q : ℕ) → part a s c q ≤ 1
unfolding part
part_small a s c q =
    same c a
    (λ _ e. rw e (⊎_elim (λ (o : above 9 s q ≡ 0). omega arith) (λ (o : above 9 s q ≡ 1). omega arith) (above-bit 9 s q)))
    (λ _ e. rw e (omega arith))

-- 1 added where none wraps, and 1 taken away where it is there
pub on_up : (k : ℕ) {L : ℕ} {ws : List ℕ} {v : ℕ} → Climbs L ws v k → (s : ℕ) → s < slot_end → (c q : ℕ) → 1 ≤ q → q < slot_end
    → totals_of ws c q + suc k < 4294967296
    → totals_of (added_on k ws (node (arrays_of ws) v k) s 1) c q ≡ totals_of ws c q + mark (arrays_of ws) v k s c q
unfolding added_on node
on_up zero {ws = ws} {v} g s w c q l b m =
    rw (mark_zero (arrays_of ws) v s c q) (in_up ws 1 s 1 (climbs_fit g) w c q l b refl (omega arith))
on_up (suc k) {ws = ws} {v} g s w c q l b m =
    let a = node (arrays_of ws) v (suc k) in
    let x = in_up ws a s 1 (climbs_fit g) w c q l b refl (omega arith) in
    let i = on_up k (climbs_more g s 1 w) (cell_slot_of v) (omega arith) c q l b (omega (arith, part_small a s c q)) in
    ap (λ (us : List ℕ). totals_of us c q) (added_more g s 1 w) ∙ i
    ∙ rw (x, same_marks g s 1 w c q, mark_suc (arrays_of ws) v k s c q) (omega arith)

pub on_down : (k : ℕ) {L : ℕ} {ws : List ℕ} {v : ℕ} → Climbs L ws v k → (s : ℕ) → s < slot_end → (c q : ℕ) → 1 ≤ q → q < slot_end
    → totals_of ws c q < 4294967296 → mark (arrays_of ws) v k s c q ≤ totals_of ws c q
    → totals_of (added_on k ws (node (arrays_of ws) v k) s less_one) c q + mark (arrays_of ws) v k s c q ≡ totals_of ws c q
unfolding added_on node
on_down zero {ws = ws} {v} g s w c q l b m h =
    rw (mark_zero (arrays_of ws) v s c q)
    (in_down ws 1 s less_one (climbs_fit g) w c q l b refl m (rw (mark_zero (arrays_of ws) v s c q) at h))
on_down (suc k) {ws = ws} {v} g s w c q l b m h =
    let a = node (arrays_of ws) v (suc k) in
    let e = mark_suc (arrays_of ws) v k s c q in
    let x = in_down ws a s less_one (climbs_fit g) w c q l b refl m (omega arith) in
    let y = same_marks g s less_one w c q in
    let i = on_down k (climbs_more g s less_one w) (cell_slot_of v) (omega arith) c q l b (omega arith) (omega arith) in
    omega (arith, ap (λ (us : List ℕ). totals_of us c q) (added_more g s less_one w))
