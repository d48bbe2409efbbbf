-- The totals after a word of a slot was set: 1 more on its path where the slot got its first candidate, 1 less where it lost its
-- last, else as they were. Their conditions hold again. Assumes nothing.
--
--     ws ── a word of slot s of array a set ──▶ vs ── the totals on the path changed ──▶ us
use Rattle.std.specs.Prelude.{◌≡◌, ℕ, ◌+◌, ◌-◌, ◌*◌, ◌/◌, ◌^◌, ◌<◌, ◌≤◌, cond, ◌≢◌, List, length, ◌==◌}
use Rattle.std.specs.Prelude.{slice_index, slice_index_or, refl}
use Rattle.std.proofs.Common.{sym, ap, ◌∙◌, inl, inr, arith, eq-eqb, ne_eqb}
use Rattle.logic.specs.Cases.{same}
use Rattle.sizes.specs.Sizes.{array_words, slot_at, slot_end, last_slot, cell_count, cells_at, totals_at}
use Rattle.sizes.specs.Sizes.{array_at, word_at, cell_at}
use Rattle.slots.specs.Word.{IsFeed, hop_in}
use Rattle.slots.specs.Winner.{winner_same}
use Rattle.array.specs.Tag.{level_in}
use Rattle.array.specs.Cell.{best_in, link_in, block_in}
use Rattle.array.specs.Right.{right_ext}
use Rattle.calm.specs.Same.{settled_ext}
use Rattle.tree.specs.Arrays.{Arrays, node, lev}
use Rattle.tree.specs.Tree.{Level, node-level}
use Rattle.tree.specs.Taken.{First}
use Rattle.tree.specs.SlotSet.{TreeSlotSet, same_shape, same_node}
use Rattle.gather.specs.WordSet.{won_set}
use Rattle.totals.specs.Sums.{some, some_none, some_one, Sums, sums_ext}
use Rattle.totals.proofs.Empty.{empty_none}
use Rattle.totals.proofs.Bound.{total_most}
use Rattle.totals.specs.Marks.{mark, mark_same}
use Rattle.totals.specs.Most.{own_some}
use Rattle.totals.proofs.Most.{mark_most}
use Rattle.totals.specs.Raise.{set_takes, set_frees, Raised}
use Rattle.totals.proofs.Raise.{raise, lower}
use Rattle.words.specs.Words.{feeds_of, arrays_of, array_count, words_of, slots_of, bests_of, blocks_of, totals_of}
use Rattle.words.specs.TableBut.{TableBut}
use Rattle.words.specs.CheckReflects.{blank-slots, blank-links}
use Rattle.words.specs.SlotSet.{SlotSet, slot_set_tree}
use Rattle.words.specs.Added.{added_on, less_one, Climbs, on_size, on_kept, on_off, on_up, on_down}

-- what is added, by the winning hops of the slot before and after
abbrev pub step : ℕ → ℕ → ℕ
step old new = cond (old == 0) (cond (new == 0) 0 1) (cond (new == 0) less_one 0)

abbrev pub retotalled : ℕ → List ℕ → ℕ → ℕ → ℕ → List ℕ
retotalled k vs a s by = cond (by == 0) vs (added_on k vs a s by)

-- with what is added as the code has it
pub retotalled_none : (k : ℕ) (vs : List ℕ) (a s by : ℕ) → by ≡ 0 → vs ≡ retotalled k vs a s by
retotalled_none k vs a s by e = rw (eq-eqb by 0 e)

pub retotalled_some : (k : ℕ) (vs us : List ℕ) (a s by x : ℕ) → x ≡ by → x ≢ 0 → us ≡ added_on k vs a s x
    → us ≡ retotalled k vs a s by
retotalled_some k vs us a s by x e n u = rw (← e, ne_eqb x 0 n) u

-- ---- words that differ past the cells of arrays alone

record SameBody (vs us : List ℕ) : Type 0 where
  pub size : length us ≡ length vs
  pub header : (k : ℕ) → k < array_words → slice_index us k ≡ slice_index vs k
  pub body : (c k : ℕ) → 1 ≤ c → k < totals_at → slice_index us (word_at c k) ≡ slice_index vs (word_at c k)

module _ {vs us : List ℕ} (b : SameBody vs us) where
  body_tags : (c : ℕ) → 1 ≤ c → (arrays_of us).tag c ≡ (arrays_of vs).tag c
  body_tags c h = let e : array_at c ≡ word_at c 0 = omega arith in rw e (b.body c 0 h (omega arith))

  body_cell : (c i : ℕ) → 1 ≤ c → i < cell_count → slice_index us (cell_at c i) ≡ slice_index vs (cell_at c i)
  body_cell c i h w =
      let e : cell_at c i ≡ word_at c (cells_at + i) = omega arith in rw e (b.body c (cells_at + i) h (omega arith))

  body_links : (c i : ℕ) → 1 ≤ c → i < cell_count → (arrays_of us).link c i ≡ (arrays_of vs).link c i
  body_links c i h w = ap link_in (body_cell c i h w)

  body_words_fact : (c r j : ℕ) → 1 ≤ c → r < slot_end → IsFeed j → words_of us c r j ≡ words_of vs c r j
  body_words_fact c r j h w y = b.body c (slot_at r + j - 1) h (omega (arith, y.high))

  body_slots : (c r : ℕ) → 1 ≤ c → r < slot_end → slots_of us c r ≡ slots_of vs c r
  body_slots c r h w = ap hop_in (winner_same (words_of us c r) (words_of vs c r) (λ j y. body_words_fact c r j h w y))

  body_slot_set : {ws : List ℕ} {a s f w : ℕ} → 1 ≤ a → s < slot_end → SlotSet ws vs a s f w → SlotSet ws us a s f w
  body_slot_set {ws} {a} {s} h sb g = record {
    size = b.size ∙ g.size;
    header = λ k l. b.header k l ∙ g.header k l;
    others = λ c k l n m. b.body c k l m ∙ g.others c k l n m;
    tag = body_tags a h ∙ g.tag;
    links = λ i l. body_links a i h l ∙ g.links i l;
    here = λ j y. body_words_fact a s j h sb y ∙ g.here j y;
    slots = λ r l m n j y. body_words_fact a r j h m y ∙ g.slots r l m n j y;
    right = rw (ap level_in (body_tags a h)) (right_ext (lev (arrays_of vs) a) (slots_of vs a) (bests_of vs a)
        (slots_of us a) (bests_of us a) (λ r l m. body_slots a r h m) (λ i m. ap best_in (body_cell a i h m)) g.right);
    settled = settled_ext (slots_of vs a) ((arrays_of vs).link a) (blocks_of vs a)
        (slots_of us a) ((arrays_of us).link a) (blocks_of us a)
        (λ r l m. body_slots a r h m) (λ i m. body_links a i h m) (λ i m _. ap block_in (body_cell a i h m)) g.settled;
  }

body_same : (vs : List ℕ) → SameBody vs vs
body_same vs = record { size = refl; header = λ k h. refl; body = λ c k h w. refl }

body_added : (k : ℕ) {L : ℕ} {vs : List ℕ} {v : ℕ} → Climbs L vs v k → (s by : ℕ) → s < slot_end
    → SameBody vs (added_on k vs (node (arrays_of vs) v k) s by)
body_added k {vs = vs} g s by w = record {
  size = on_size k g s by w;
  header = λ j h. (let e : word_at 0 j ≡ j = omega arith in rw e at (on_kept k g s by w 0 j h (inl refl)));
  body = λ c j h b. on_kept k g s by w c j (omega arith) (inr (inl (omega arith)));
}

-- ---- no total of a table is near the end of a word

module _ {L e : ℕ} {ws : List ℕ} (ok : TableBut L e ws) where
  pub table_first : First (array_count ws) (arrays_of ws)
  table_first a h w l = (ok.right a h w (omega arith)).first l

  pub small_total : (a q : ℕ) → 1 ≤ a → a ≤ array_count ws → 1 ≤ q → q < slot_end → totals_of ws a q ≤ last_slot * array_count ws
  small_total a q h w l b =
      same (slice_index ws (array_at a)) 0
      (λ z _. (let blank = ok.blank a h w z in
      let none = empty_none (array_count ws) (arrays_of ws) (totals_of ws) a ok.sums h w (blank-slots ws a blank)
      (blank-links ws a blank) in
      omega (arith, none q l b)))
      (λ n _. total_most (array_count ws) L (arrays_of ws) (totals_of ws) ok.shape ok.sums table_first a q h w
      (omega arith) l b)

-- ---- a word of slot s set in array a, the last of the path v of k levels

pub record WordSet (L e : ℕ) (ws vs : List ℕ) (v k a s f w : ℕ) : Type 0 where
  pub ok : TableBut L e ws
  pub leads : node (arrays_of ws) v k ≡ a
  pub there : 1 ≤ a
  pub low : 1 ≤ s
  pub high : s < slot_end
  pub slot : SlotSet ws vs a s f w
  pub totals : (c q : ℕ) → 1 ≤ c → 1 ≤ q → q < slot_end → totals_of vs c q ≡ totals_of ws c q

module _ {L e : ℕ} {ws vs : List ℕ} {v k a s f w : ℕ} (g : WordSet L e ws vs v k a s f w) where
  abbrev A : ℕ
  A = array_count ws

  abbrev t : Arrays
  t = arrays_of ws

  abbrev T : ℕ → ℕ → ℕ
  T = totals_of ws

  won : TreeSlotSet t (arrays_of vs) a s (slots_of vs a s)
  won =
      let x = won_set (feeds_of ws) (feeds_of vs) a s f w (slot_set_tree L e ws vs a s f w g.there g.slot) in
      record { tags = x.tags; links = x.links; here = refl; slots = x.slots }

  old_node : 1 ≤ node t v k
  old_node = rw g.leads g.there

  new_node : node (arrays_of vs) v k ≡ a
  new_node = same_node t (arrays_of vs) won.tags won.links v k ∙ g.leads

  climbs : Climbs L vs v k
  climbs = record {
    whole = rw g.slot.size g.ok.whole;
    low = rw g.slot.size g.ok.low;
    shape = rw g.slot.size (same_shape t (arrays_of vs) won.tags won.links A L g.ok.shape);
    there = rw new_node g.there;
  }

  level : Level A t a k
  level = rw g.leads at (node-level A L t g.ok.shape v k old_node)

  -- the marks of the path are those of before
  marks : (c q : ℕ) → mark (arrays_of vs) v k s c q ≡ mark t v k s c q
  marks = mark_same t (arrays_of vs) won.links k v s

  -- with `by` added
  module _ (by : ℕ) where
    added : List ℕ
    added = added_on k vs a s by

    body : SameBody vs (added_on k vs a s by)
    body = rw new_node at (body_added k climbs s by g.high)

    set-added : TreeSlotSet t (arrays_of (added_on k vs a s by)) a s (slots_of vs a s)
    set-added = record {
      tags = λ c h. body_tags body c h ∙ won.tags c h;
      links = λ c i h b. body_links body c i h b ∙ won.links c i h b;
      here = body_slots body a s g.there g.high;
      slots = λ c r h l b n. body_slots body c r h b ∙ won.slots c r h l b n;
    }

  small : (c q : ℕ) → 1 ≤ c → c ≤ A → 1 ≤ q → q < slot_end → T c q ≤ 2093056
  small c q h l x y = omega (arith, small_total g.ok c q h l x y, g.ok.high)

  -- the slot got its first candidate
  took_sums : slots_of ws a s ≡ 0 → 1 ≤ slots_of vs a s
      → Sums A (arrays_of (added_on k vs a s 1)) (totals_of (added_on k vs a s 1))
  took_sums z p =
      let us = added_on k vs a s 1 in
      let up : Raised A t T (totals_of us) v k s = record {
        at = λ c q h l x y. (let m = on_up k climbs s g.high c q x y
            (rw (g.totals c q h x y) (omega (arith, small c q h l x y, level.level))) in
            (rw new_node at m) ∙ rw (g.totals c q h x y, marks c q));
      } in
      raise A L t (arrays_of us) T (totals_of us) v k s g.ok.shape old_node g.low g.high
      (rw g.leads (set_takes t (arrays_of us) a s (slots_of vs a s) (set-added 1) z p)) up g.ok.sums

  -- it lost its last
  freed_sums : 1 ≤ slots_of ws a s → slots_of vs a s ≡ 0
      → Sums A (arrays_of (added_on k vs a s less_one)) (totals_of (added_on k vs a s less_one))
  freed_sums p z =
      let us = added_on k vs a s less_one in
      let set = set-added less_one in
      let own = own_some A L t T g.ok.shape g.ok.sums a s g.there level.within g.low g.high p in
      let node_now : node (arrays_of us) v k ≡ a = same_node t (arrays_of us) set.tags set.links v k ∙ g.leads in
      let down : Raised A (arrays_of us) (totals_of us) T v k s = record {
        at = λ c q h l x y. (let m = mark_most A L t T g.ok.shape g.ok.sums k v s c q old_node g.low g.high
            (rw g.leads own) h l x in
            let d = on_down k climbs s g.high c q x y
            (rw (g.totals c q h x y) (omega (arith, small c q h l x y))) (rw (g.totals c q h x y, marks c q) m) in
            rw (mark_same t (arrays_of us) set.links k v s c q)
            (sym (rw (new_node, marks c q, g.totals c q h x y) at d)));
      } in
      lower A L (arrays_of us) t (totals_of us) T v k s (same_shape t (arrays_of us) set.tags set.links A L g.ok.shape)
      (rw node_now g.there) g.low g.high
      (rw node_now (set_frees t (arrays_of us) a s (rw z at set) p)) down g.ok.sums

  -- neither
  kept_sums : some (slots_of vs a s) ≡ some (slots_of ws a s) → Sums A (arrays_of vs) (totals_of vs)
  kept_sums z =
      sums_ext A t (arrays_of vs) T (totals_of vs)
      (λ c r h l x y. same c a
      (λ q _. same r s (λ b _. rw (q, b) z) (λ b _. ap some (won.slots c r h x y (inr b))))
      (λ n _. ap some (won.slots c r h x y (inl n))))
      (λ c i h l b. won.links c i h b) g.totals g.ok.sums

  -- ---- the words then, whichever it was

  abbrev old : ℕ
  old = slots_of ws a s

  abbrev new : ℕ
  new = slots_of vs a s

  cases : (P : List ℕ → Type 0) → (some (slots_of vs a s) ≡ some (slots_of ws a s) → P vs)
      → (slots_of ws a s ≡ 0 → 1 ≤ slots_of vs a s → P (added_on k vs a s 1))
      → (1 ≤ slots_of ws a s → slots_of vs a s ≡ 0 → P (added_on k vs a s less_one))
      → P (retotalled k vs a s (step (slots_of ws a s) (slots_of vs a s)))
  cases P kept took freed =
      same old 0
      (λ z e. rw e (same new 0
      (λ x d. rw d (kept (some_none new x ∙ sym (some_none old z))))
      (λ x d. rw d (took z (omega arith)))))
      (λ z e. rw e (same new 0
      (λ x d. rw d (freed (omega arith) x))
      (λ x d. rw d (kept (some_one new (omega arith) ∙ sym (some_one old (omega arith)))))))

  abbrev end : List ℕ
  end = retotalled k vs a s (step (slots_of ws a s) (slots_of vs a s))

  end_body : SameBody vs (retotalled k vs a s (step (slots_of ws a s) (slots_of vs a s)))
  end_body = cases (SameBody vs) (λ _. body_same vs) (λ _ _. body 1) (λ _ _. body less_one)

  pub end_slots : (c r : ℕ) → 1 ≤ c → r < slot_end
      → slots_of (retotalled k vs a s (step (slots_of ws a s) (slots_of vs a s))) c r ≡ slots_of vs c r
  end_slots = body_slots end_body

  pub end_slot_set : SlotSet ws (retotalled k vs a s (step (slots_of ws a s) (slots_of vs a s))) a s f w
  end_slot_set = body_slot_set end_body g.there g.high g.slot

  pub end_sums : Sums (array_count ws) (arrays_of (retotalled k vs a s (step (slots_of ws a s) (slots_of vs a s))))
      (totals_of (retotalled k vs a s (step (slots_of ws a s) (slots_of vs a s))))
  end_sums = cases (λ us. Sums A (arrays_of us) (totals_of us)) kept_sums took_sums freed_sums

  -- a slot that has candidates before and after, or neither, changes no total
  pub end_still : some (slots_of vs a s) ≡ some (slots_of ws a s)
      → retotalled k vs a s (step (slots_of ws a s) (slots_of vs a s)) ≡ vs
  end_still h =
      cases (λ us. us ≡ vs) (λ _. refl)
      (λ z p. absurd (omega (arith, some_none old z, some_one new p)))
      (λ p z. absurd (omega (arith, some_none new z, some_one old p)))

  -- an array off the path stays
  pub end_off : (c j : ℕ) → j < array_words → ((i : ℕ) → i ≤ k → node (arrays_of vs) (v / 2 ^ (8 * (k - i))) i ≢ c)
      → slice_index (retotalled k vs a s (step (slots_of ws a s) (slots_of vs a s))) (word_at c j) ≡ slice_index vs (word_at c j)
  end_off c j h n =
      let off : (by : ℕ) → slice_index (added_on k vs a s by) (word_at c j) ≡ slice_index_or vs (word_at c j) 0 =
      λ by. rw new_node at (on_off k climbs s by g.high c j h n) in
      cases (λ us. slice_index us (word_at c j) ≡ slice_index vs (word_at c j)) (λ _. refl) (λ _ _. off 1) (λ _ _. off less_one)
