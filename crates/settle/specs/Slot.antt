-- A slot is taken or freed, and blocks are written: those of the array are right again. Assumes nothing.
--
--     before                                now                              the blocks
--     free, blocks right (WasFree)          taken, blocks not yet written    took-..: part, or stay
--     taken, blocks right (WasTaken)        free, blocks not yet written     freed-..: join, or stay
use Rattle.std.specs.Prelude.{◌≡◌, ◌≢◌, true, cond, ◌&&◌, List, ℕ, suc, ◌≤◌, ◌<◌, min, ltb, leb}
use Rattle.std.proofs.Common.{sym, arith, lt-ltb, leb-true}
use Rattle.sizes.specs.Sizes.{cell_count, block_bound}
use Rattle.numbers.specs.Agree.{agreement}
use Rattle.calm.specs.Calm.{Block, Settled}
use Rattle.calm.specs.Taken.{Taken, parted, shares_to, taken_none, taken_some, freed_some, freed_none}
use Rattle.calm.specs.Climb.{climb_of, climbs, freed_sides, freed-start, freed_not}
use Rattle.array.specs.With.{with_block}
use Rattle.array.specs.Page.{slots, links, blocks}
use Rattle.settle.specs.Part.{Recelled, stage}
use Rattle.settle.specs.Settled.{Resettled, same_settled, put-settled}

-- the slot of depth d over cell i was free, and the blocks are still those of then
pub record WasFree (l : List ℕ) (i d : ℕ) : Type 0 where
  pub f₀ : ℕ → ℕ
  pub g₀ : ℕ → ℕ
  pub taken : Taken f₀ g₀ (slots l) (links l) i d
  pub settled : Settled f₀ g₀ (blocks l)

-- it was taken, and the blocks are still those of then
pub record WasTaken (l : List ℕ) (i d : ℕ) : Type 0 where
  pub f : ℕ → ℕ
  pub g : ℕ → ℕ
  pub taken : Taken (slots l) (links l) f g i d
  pub settled : Settled f g (blocks l)

-- ---- a slot is taken

module _ (l : List ℕ) (i d : ℕ) (hd : d ≤ 8) (w : WasFree l i d) where
  abbrev t : Taken w.f₀ w.g₀ (slots l) (links l) i d
  t = w.taken

  not_nine : d ≡ 9 → i ≢ i
  not_nine e _ = omega arith

  -- its first cell has a link
  pub took_linked : links l i ≢ 0 → Resettled l l
  took_linked n =
      same_settled l (taken_none w.f₀ w.g₀ (slots l) (links l) i d t (blocks l) w.settled
      (λ o. absurd (n (t.same i t.cell o not_nine))))

  -- nothing above it was calm
  pub took_deep : d ≤ blocks l i → Resettled l l
  took_deep h = same_settled l (taken_none w.f₀ w.g₀ (slots l) (links l) i d t (blocks l) w.settled (λ _. h))

  pub took_parts : (m : List ℕ) (q : ℕ) → links l i ≡ 0 → q ≡ blocks l i → q < d → Recelled l m (stage i q d) → Resettled l m
  took_parts m q o e h x =
      put-settled l m (λ j. ltb q d && leb q (agreement 8 j i)) (λ j. min d (suc (agreement 8 j i))) x below
      (parted i d q (blocks l)) (λ j _ _. rw (lt-ltb q d h))
      (taken_some w.f₀ w.g₀ (slots l) (links l) i d t (blocks l) q w.settled (t.links i t.cell o) (sym e) h)
    where
      -- what shares q bits with cell i has no link
      below : (j : ℕ) → j < cell_count → (ltb q d && leb q (agreement 8 j i)) ≡ true
          → (links l j ≡ 0) × (min d (suc (agreement 8 j i)) < block_bound)
      below j b y =
          let k : Block w.f₀ w.g₀ i q = rw (sym e) at (w.settled i t.cell (t.links i t.cell o)) in
          let p : leb q (agreement 8 j i) ≡ true = rw (lt-ltb q d h) at y in
          let s = shares_to i j q t.cell b k.fits (leb-true _ _ p) in
          (t.same j b (k.calm j b s).0 (λ z _. omega arith), omega arith)

-- ---- a slot is freed

module _ (l : List ℕ) (i d : ℕ) (hd : d ≤ 8) (w : WasTaken l i d) where
  abbrev u : Taken (slots l) (links l) w.f w.g i d
  u = w.taken

  -- its first cell has a link
  pub freed-linked : links l i ≢ 0 → Resettled l l
  freed-linked n =
      same_settled l (freed_not (slots l) (links l) w.f w.g i d u (blocks l) w.settled hd (λ o. absurd (n o)))

  -- something below it is taken
  pub freed-deep : d < blocks l i → Resettled l l
  freed-deep h = same_settled l (freed_not (slots l) (links l) w.f w.g i d u (blocks l) w.settled hd (λ _. h))

  module _ (o : links l i ≡ 0) (b : blocks l i ≤ d) (q : ℕ) (e : q ≡ climb_of (slots l) (links l) (blocks l) i d) where
    found : Block (slots l) (links l) i q
    found =
        rw e (climbs (slots l) (links l) (blocks l) i u.cell
        (freed_sides (slots l) (links l) w.f w.g i d u (blocks l) w.settled) d hd
        (freed-start (slots l) (links l) w.f w.g i d u (blocks l) w.settled hd o b))

    -- the other half beside it is taken, or something there is
    pub freed_alone : d ≤ q → Resettled l l
    freed_alone h =
        same_settled l (freed_none (slots l) (links l) w.f w.g i d u (blocks l) w.settled hd
        (λ m z y. found.least m (omega arith) y))

    pub freed-joins : (m : List ℕ) (v : ℕ) → v ≡ q → q < d
        → Recelled l m (λ j x. cond (leb q (agreement 8 j i)) (with_block x v) x) → Resettled l m
    freed-joins m v r h x =
        put-settled l m (λ j. leb q (agreement 8 j i)) (λ _. v) x
        (λ j z y. ((found.calm j z (shares_to i j q u.cell z found.fits (leb-true _ _ y))).0, omega (arith, found.fits)))
        (λ j. cond (leb q (agreement 8 j i)) q (blocks l j)) (λ j _ _. rw r)
        (freed_some (slots l) (links l) w.f w.g i d u (blocks l) q w.settled found h)
