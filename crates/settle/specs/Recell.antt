-- The pages that the writes of slots, blocks and links leave, as functions of the page that they find, right or not. Assumes
-- nothing.
use Rattle.std.specs.Prelude.{◌≡◌, ◌≢◌, cond, List, eqb, leb, ltb, length, get_or, set}
use Rattle.std.proofs.Math.Path.{refl}
use Rattle.std.proofs.Common.{sym, ◌∙◌, arith, get_or-set_same, ext_get_or}
use Prim.Native.Nat.{ℕ, zero, suc, ◌+◌, ◌-◌, ◌*◌, ◌^◌, ◌≤◌, ◌<◌}
use Rattle.std.proofs.Math.ListN.{length-set}
use Rattle.std.proofs.Math.Seq.{get_or-set_other}
use borrow.Author.Tests.{eq-eqb, ne_eqb, le-leb, lt-leb, lt-ltb, le-ltb}
use Rattle.logic.specs.Cases.{bool, same, less}
use Rattle.sizes.specs.Sizes.{array_words, cell_count, cells_at, totals_at}
use Rattle.numbers.specs.Agree.{agreement}
use Rattle.calm.specs.Climb.{climb_of}
use Rattle.array.specs.With.{plain, linked, with_block}
use Rattle.array.specs.Page.{word, slots, bests, links, blocks}
use Rattle.array.specs.Reslot.{reslotted, changed_in}
use Rattle.settle.specs.Part.{stage, Recelled}

-- ---- each cell sent through h

unfoldable pub recell_to : (ℕ → ℕ → ℕ) → List ℕ → ℕ → List ℕ
recell_to h l zero = l
recell_to h l (suc n) = set (recell_to h l n) (cells_at + n) (h n (word l n))

abbrev pub recell : (ℕ → ℕ → ℕ) → List ℕ → List ℕ
recell h l = recell_to h l cell_count

module _ (h : ℕ → ℕ → ℕ) (l : List ℕ) where
  recell-length : (n : ℕ) → length (recell_to h l n) ≡ length l
  unfolding recell_to
  recell-length zero = refl
  recell-length (suc n) = length-set (recell_to h l n) (cells_at + n) _ ∙ recell-length n

  recell_other : (n r : ℕ) → ((j : ℕ) → j < n → r ≢ cells_at + j) → get_or (recell_to h l n) r 0 ≡ get_or l r 0
  unfolding recell_to
  recell_other zero r o = refl
  recell_other (suc n) r o =
      get_or-set_other (recell_to h l n) (cells_at + n) r _ 0 (o n (omega arith)) ∙ recell_other n r (λ j b. o j (omega arith))

  recell-cell : (n j : ℕ) → j < n → cells_at + n ≤ length l → get_or (recell_to h l n) (cells_at + j) 0 ≡ h j (word l j)
  unfolding recell_to
  recell-cell zero j b w = absurd (omega arith)
  recell-cell (suc n) j b w =
      same j n
      (λ e _. rw e (get_or-set_same (recell_to h l n) (cells_at + n) _ 0 (rw (recell-length n) (omega arith))))
      (λ m _. get_or-set_other (recell_to h l n) (cells_at + n) (cells_at + j) _ 0 (λ q. omega arith)
      ∙ recell-cell n j (omega arith) (omega arith))

  pub recelled_is : (m : List ℕ) → length l ≡ array_words → Recelled l m h → m ≡ recell h l
  recelled_is m n x =
      ext_get_or 0 m (recell h l) (x.size ∙ sym (recell-length cell_count))
      (λ r b. less r cells_at
      (λ w _. x.low r w ∙ sym (recell_other cell_count r (λ j c. λ e. omega arith)))
      (λ w _. less r totals_at
      (λ v _. (let e : cells_at + (r - cells_at) ≡ r = omega arith in
      rw (← e) (x.cells (r - cells_at) (omega arith) ∙ sym (recell-cell cell_count (r - cells_at) (omega arith) (omega arith)))))
      (λ v _. x.high r v ∙ sym (recell_other cell_count r (λ j c. λ e. omega arith)))))

-- ---- the block q in the cells that share m bits with cell i

abbrev pub block_below : ℕ → ℕ → ℕ → ℕ → ℕ → ℕ
block_below i m q j w = cond (leb m (agreement 8 j i)) (with_block w q) w

-- the block of cell i, climbed to from depth d
abbrev pub climbed : List ℕ → ℕ → ℕ → ℕ
climbed l i d = climb_of (slots l) (links l) (blocks l) i d

-- ---- the slot of depth d over cell i was taken, was freed, was `old` and is `hop`

unfoldable pub took_in : List ℕ → ℕ → ℕ → List ℕ
took_in l i d = cond (eqb (links l i) 0) (cond (leb d (blocks l i)) l (recell (stage i (blocks l i) d) l)) l

unfoldable pub freed_in : List ℕ → ℕ → ℕ → List ℕ
freed_in l i d =
    cond (eqb (links l i) 0)
    (cond (ltb d (blocks l i)) l
    (cond (leb d (climbed l i d)) l (recell (block_below i (climbed l i d) (climbed l i d)) l))) l

unfoldable pub resettled_in : List ℕ → ℕ → ℕ → ℕ → ℕ → List ℕ
resettled_in l i d old hop =
    cond (eqb old 0) (cond (eqb hop 0) l (took_in l i d)) (cond (eqb hop 0) (freed_in l i d) l)

-- feed f's word w in the slot of in-array length d and value x
unfoldable pub reset_in : List ℕ → ℕ → ℕ → ℕ → ℕ → List ℕ
reset_in l d x f w =
    resettled_in (reslotted l d x f w) (x * 2 ^ (8 - d)) d (changed_in l d x f w).before (changed_in l d x f w).after

-- ---- the link a put into cell i, and the link of cell i cut

unfoldable pub linked_in : List ℕ → ℕ → ℕ → List ℕ
linked_in l i a = set (recell (stage i (blocks l i) 8) l) (cells_at + i) (linked (bests l i) a)

unfoldable pub cut_in : List ℕ → ℕ → List ℕ
cut_in l i =
    let m = set l (cells_at + i) (plain (bests l i) 8) in recell (block_below i (climbed m i 8) (climbed m i 8)) m

-- ---- how the code comes to them

module _ (l : List ℕ) (i d : ℕ) where
  pub took_linked_is : links l i ≢ 0 → l ≡ took_in l i d
  unfolding took_in
  took_linked_is n = rw (ne_eqb (links l i) 0 n)

  pub took_deep_is : (q : ℕ) → q ≡ blocks l i → d ≤ q → l ≡ took_in l i d
  unfolding took_in
  took_deep_is q e h = rw (le-leb d (blocks l i) (omega arith)) (bool (eqb (links l i) 0) (λ z. rw z) (λ z. rw z))

  pub freed-linked_is : links l i ≢ 0 → l ≡ freed_in l i d
  unfolding freed_in
  freed-linked_is n = rw (ne_eqb (links l i) 0 n)

  pub freed-deep_is : d < blocks l i → l ≡ freed_in l i d
  unfolding freed_in
  freed-deep_is h = rw (lt-ltb d (blocks l i) h) (bool (eqb (links l i) 0) (λ z. rw z) (λ z. rw z))

  module _ (o : links l i ≡ 0) where
    pub took_parts_is : (m : List ℕ) (q : ℕ) → length l ≡ array_words → q ≡ blocks l i → q < d → Recelled l m (stage i q d)
        → m ≡ took_in l i d
    unfolding took_in
    took_parts_is m q n e h x =
        rw (eq-eqb (links l i) 0 o, lt-leb d (blocks l i) (omega arith), ← e) (recelled_is (stage i q d) l m n x)

    module _ (q : ℕ) (e : q ≡ climbed l i d) (w : blocks l i ≤ d) where
      pub freed_alone_is : d ≤ q → l ≡ freed_in l i d
      unfolding freed_in
      freed_alone_is h =
          rw (eq-eqb (links l i) 0 o, le-ltb d (blocks l i) w, le-leb d (climbed l i d) (omega arith))

      pub freed-joins_is : (m : List ℕ) (v : ℕ) → length l ≡ array_words → q < d → v ≡ q → Recelled l m (block_below i q v)
          → m ≡ freed_in l i d
      unfolding freed_in
      freed-joins_is m v n h ve x =
          rw (eq-eqb (links l i) 0 o, le-ltb d (blocks l i) w, lt-leb d (climbed l i d) (omega arith), ← e)
          (recelled_is (block_below i q q) l m n (rw ve at x))

  pub resettled_none : (old hop : ℕ) → old ≡ 0 → hop ≡ 0 → l ≡ resettled_in l i d old hop
  unfolding resettled_in
  resettled_none old hop a b = rw (a, b)

  pub resettled_took : (m : List ℕ) (old hop : ℕ) → old ≡ 0 → hop ≢ 0 → m ≡ took_in l i d → m ≡ resettled_in l i d old hop
  unfolding resettled_in
  resettled_took m old hop a b e = rw (a, ne_eqb hop 0 b) e

  pub resettled_other : (old hop : ℕ) → old ≢ 0 → hop ≢ 0 → l ≡ resettled_in l i d old hop
  unfolding resettled_in
  resettled_other old hop a b = rw (ne_eqb old 0 a, ne_eqb hop 0 b)

  pub resettled-freed : (m : List ℕ) (old hop : ℕ) → old ≢ 0 → hop ≡ 0 → m ≡ freed_in l i d → m ≡ resettled_in l i d old hop
  unfolding resettled_in
  resettled-freed m old hop a b e = rw (ne_eqb old 0 a, b) e

module _ (l : List ℕ) (i : ℕ) where
  pub linked_is : (m : List ℕ) (a q b : ℕ) → length l ≡ array_words → b ≡ bests l i → q ≡ blocks l i → Recelled l m (stage i q 8)
      → set m (cells_at + i) (linked b a) ≡ linked_in l i a
  unfolding linked_in
  linked_is m a q b n be qe x = rw (← be, ← qe, recelled_is (stage i q 8) l m n x)

  pub cut_is : (m : List ℕ) (q v b : ℕ) → length l ≡ array_words → b ≡ bests l i
      → q ≡ climbed (set l (cells_at + i) (plain b 8)) i 8 → v ≡ q
      → Recelled (set l (cells_at + i) (plain b 8)) m (block_below i q v) → m ≡ cut_in l i
  unfolding cut_in
  cut_is m q v b n be qe ve x =
      rw (← be, ← qe)
      (recelled_is (block_below i q q) (set l (cells_at + i) (plain b 8)) m
      (length-set l (cells_at + i) (plain b 8) ∙ n) (rw ve at x))
