-- A link is set or cut, and blocks are written: those of the array are right again. Assumes nothing.
--
--     set: the cells around cell i part from it as from a slot of 8 bits, then its word takes the link and has no block
--     cut: its word takes the block 8, then the cells around join it as if a slot of 8 bits was freed
use Rattle.std.specs.Prelude.{◌≡◌, refl, ◌≢◌, Bool, true, cond, ◌&&◌, List, ℕ, suc, ◌+◌, ◌/◌, ◌≤◌, ◌<◌, min, ltb, leb, length}
use Rattle.std.specs.Prelude.{get_or, set}
use Rattle.std.proofs.Common.{sym, ap, ◌∙◌, arith, length-set, get_or-set_same, get_or-set_other, leb-true}
use Rattle.logic.specs.Cases.{same, most, less}
use Rattle.logic.specs.Bools.{and_to}
use Rattle.sizes.specs.Sizes.{array_words, most_arrays, cell_count, cells_at, totals_at, block_bound, best_bound}
use Rattle.numbers.specs.Agree.{agreement}
use Rattle.calm.specs.Calm.{Calm, Block, Settled}
use Rattle.calm.specs.Taken.{Taken, parted, shares_to, taken_some, freed_some}
use Rattle.calm.specs.Slotted.{link_taken}
use Rattle.calm.specs.Climb.{climb_of, climbs, freed_sides}
use Rattle.array.specs.Cell.{best_in, link_in, block_in}
use Rattle.array.specs.With.{plain, linked, with_block, plain_link, plain-best, linked_link, linked-best}
use Rattle.array.specs.Low.{low-slots}
use Rattle.array.specs.Page.{slots, word, bests, links, blocks}
use Rattle.settle.specs.Part.{Recelled, stage}
use Rattle.calm.specs.Same.{settled_ext}
use Rattle.settle.specs.Settled.{SettledPage, Resettled, put_link, put-best, put-block, put-settled}

-- m is l but for the link of cell i, which is a, and for blocks, and has them right
pub record Relinked (l m : List ℕ) (i a : ℕ) : Type 0 where
  pub size : length m ≡ length l
  pub low : (r : ℕ) → r < cells_at → get_or m r 0 ≡ get_or l r 0
  pub high : (r : ℕ) → totals_at ≤ r → get_or m r 0 ≡ get_or l r 0
  pub same_bests : (j : ℕ) → j < cell_count → bests m j ≡ bests l j
  pub here : links m i ≡ a
  pub same_links : (j : ℕ) → j < cell_count → j ≢ i → links m j ≡ links l j
  pub settled : SettledPage m

-- two cells that share all bits are one
all_shared : (i j : ℕ) → i < cell_count → j < cell_count → 8 ≤ agreement 8 j i → j ≡ i
all_shared i j a b h = let s : j / 1 ≡ i / 1 = shares_to i j 8 a b (omega arith) h in omega arith

-- a cell's word written
module _ (l : List ℕ) (i v : ℕ) (size : length l ≡ array_words) (ib : i < cell_count) where
  pub set_here : word (set l (cells_at + i) v) i ≡ v
  set_here = get_or-set_same l (cells_at + i) v 0 (omega arith)

  pub set_other : (j : ℕ) → j ≢ i → word (set l (cells_at + i) v) j ≡ word l j
  set_other j n = get_or-set_other l (cells_at + i) (cells_at + j) v 0 (λ e. n (omega arith))

  pub set-low : (r : ℕ) → r < cells_at → get_or (set l (cells_at + i) v) r 0 ≡ get_or l r 0
  set-low r h = get_or-set_other l (cells_at + i) r v 0 (λ e. omega arith)

  pub set_high : (r : ℕ) → totals_at ≤ r → get_or (set l (cells_at + i) v) r 0 ≡ get_or l r 0
  set_high r h = get_or-set_other l (cells_at + i) r v 0 (λ e. omega arith)

-- the blocks first, then the link
pub link_set : (l m : List ℕ) (i a q b : ℕ) → length l ≡ array_words → i < cell_count → 1 ≤ a → a ≤ most_arrays
    → SettledPage l → links l i ≡ 0 → b ≡ bests l i → b < best_bound → q ≡ blocks l i
    → Recelled l m (stage i q 8) → Relinked l (set m (cells_at + i) (linked b a)) i a
link_set l m i a q b size ib low high z o be bb qe x = record {
  size = length-set m (cells_at + i) v ∙ x.size;
  low = λ r h. set-low m i v ms ib r h ∙ x.low r h;
  high = λ r h. set_high m i v ms ib r h ∙ x.high r h;
  same_bests = λ j h. same j i
      (λ e _. rw e (ap best_in (set_here m i v ms ib) ∙ linked-best b a bb low high ∙ be))
      (λ n _. ap best_in (set_other m i v ms ib j n) ∙ put-best l m t s x free j h);
  here = here;
  same_links = others;
  settled = settled_ext (slots n) (links n) (parted i 9 q (blocks l)) (slots n) (links n) (blocks n)
      (λ r p y. refl) (λ j h. refl) new
      (taken_some (slots l) (links l) (slots n) (links n) i 9
      (link_taken (slots l) (links l) (slots n) (links n) i ib
      (λ r p y. low-slots l n (λ k h. set-low m i v ms ib k h ∙ x.low k h) r y)
      o (omega (arith, here)) others)
      (blocks l) q z o (sym qe) (omega (arith, (z i ib o).fits)));
}
  where
    v : ℕ
    v = linked b a

    n : List ℕ
    n = set m (cells_at + i) (linked b a)

    ms : length m ≡ array_words
    ms = x.size ∙ size

    t : ℕ → Bool
    t j = ltb q 8 && leb q (agreement 8 j i)

    s : ℕ → ℕ
    s j = min 8 (suc (agreement 8 j i))

    k : Block (slots l) (links l) i q
    k = rw (sym qe) at (z i ib o)

    -- what shares q bits with cell i has no link
    free : (j : ℕ) → j < cell_count → t j ≡ true → (links l j ≡ 0) × (s j < block_bound)
    free j h y =
        let p = (and_to (ltb q 8) (leb q (agreement 8 j i)) y).1 in
        ((k.calm j h (shares_to i j q ib h k.fits (leb-true _ _ p))).0, omega arith)

    here : links n i ≡ a
    here = ap link_in (set_here m i v ms ib) ∙ linked_link b a bb low high

    others : (j : ℕ) → j < cell_count → j ≢ i → links n j ≡ links l j
    others j h e = ap link_in (set_other m i v ms ib j e) ∙ put_link l m t s x free j h

    -- the cell that got the link has no block
    new : (j : ℕ) → j < cell_count → links n j ≡ 0 → blocks n j ≡ parted i 9 q (blocks l) j
    new j h y =
        same j i
        (λ e _. absurd (omega (arith, here, rw e at y)))
        (λ e _. ap block_in (set_other m i v ms ib j e) ∙ put-block l m t s x free j h ∙ one e)
      where
        one : j ≢ i → cond (t j) (s j) (blocks l j) ≡ parted i 9 q (blocks l) j
        one e =
            let c : agreement 8 j i < 8 = most 8 (agreement 8 j i) (λ p _. absurd (e (all_shared i j ib h p))) (λ p _. p) in
            let w : min 8 (suc (agreement 8 j i)) ≡ min 9 (suc (agreement 8 j i)) = omega arith in
            less q 8
            (λ p d. rw (d, w))
            (λ p d. rw d (most q (agreement 8 j i) (λ r _. absurd (omega arith)) (λ r f. rw f)))

-- the link first, then the blocks
pub link_cut : (l m : List ℕ) (i q v b : ℕ) → length l ≡ array_words → i < cell_count → SettledPage l → links l i ≢ 0
    → b ≡ bests l i → b < best_bound
    → q ≡ climb_of (slots (set l (cells_at + i) (plain b 8))) (links (set l (cells_at + i) (plain b 8)))
    (blocks (set l (cells_at + i) (plain b 8))) i 8
    → v ≡ q → Recelled (set l (cells_at + i) (plain b 8)) m (λ j x. cond (leb q (agreement 8 j i)) (with_block x v) x)
    → Relinked l m i 0
link_cut l m i q v b size ib z o be bb qe ve x = record {
  size = r.size ∙ length-set l (cells_at + i) w;
  low = λ y h. r.low y h ∙ set-low l i w size ib y h;
  high = λ y h. r.high y h ∙ set_high l i w size ib y h;
  same_bests = λ j h. r.same_bests j h ∙ same j i
      (λ e _. rw e (ap best_in (set_here l i w size ib) ∙ plain-best b 8 bb (omega arith) ∙ be))
      (λ e _. ap best_in (set_other l i w size ib j e));
  here = r.same_links i ib ∙ gone;
  same_links = λ j h e. r.same_links j h ∙ ap link_in (set_other l i w size ib j e);
  settled = r.settled;
}
  where
    w : ℕ
    w = plain b 8

    n : List ℕ
    n = set l (cells_at + i) (plain b 8)

    gone : links n i ≡ 0
    gone = ap link_in (set_here l i w size ib) ∙ plain_link b 8 bb (omega arith)

    u : Taken (slots n) (links n) (slots l) (links l) i 9
    u =
        link_taken (slots n) (links n) (slots l) (links l) i ib (λ y p h. sym (low-slots l n (set-low l i w size ib) y h)) gone
        (omega arith)
        (λ j h e. sym (ap link_in (set_other l i w size ib j e)))

    -- the block of a cell with a link is not asked for
    old : Settled (slots l) (links l) (blocks n)
    old =
        settled_ext (slots l) (links l) (blocks l) (slots l) (links l) (blocks n) (λ y p h. refl) (λ j h. refl)
        (λ j h e. ap block_in (set_other l i w size ib j (λ y. o (rw y at e)))) z

    alone : Calm (slots n) (links n) i 0
    alone j h e = (let y : j ≡ i = omega arith in rw y gone, λ c p. absurd (omega arith))

    k : Block (slots n) (links n) i q
    k =
        rw qe (climbs (slots n) (links n) (blocks n) i ib
        (freed_sides (slots n) (links n) (slots l) (links l) i 9 u (blocks n) old) 8 (omega arith) alone)

    r : Resettled n m
    r =
        put-settled n m (λ j. leb q (agreement 8 j i)) (λ _. v) x
        (λ j h y. ((k.calm j h (shares_to i j q ib h k.fits (leb-true _ _ y))).0, omega (arith, k.fits)))
        (λ j. cond (leb q (agreement 8 j i)) q (blocks n j)) (λ j _ _. rw ve)
        (freed_some (slots n) (links n) (slots l) (links l) i 9 u (blocks n) q old k (omega (arith, k.fits)))
