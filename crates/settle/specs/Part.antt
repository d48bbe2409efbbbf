-- The blocks of a part of an array written anew: what the words are then. Assumes nothing.
--
--     the cells that share q bits with cell i; something of depth d over i is taken, here d = q + 3:
--
--                  q             the halves that leave the path to i after q, q + 1, q + 2 bits
--                /   \           are runs of cells, each written once, with one bit more:
--               *     q + 1
--             /   \              left i q k: those that leave after fewer than k bits
--            *     q + 2         stage i q d: all of them, and what is below d, with d
--          /   \
--         d     q + 3
--         i
use Rattle.std.specs.Prelude.{◌≡◌, refl, ◌≢◌, cond, ◌&&◌, List, ℕ, suc, ◌+◌, ◌-◌, ◌*◌, ◌/◌, ◌^◌, ◌≤◌, ◌<◌, min, ltb, leb, eqb}
use Rattle.std.specs.Prelude.{length, get_or}
use Rattle.std.proofs.Common.{sym, ap, ◌∙◌, div-add-mod', mod-lt, add-mul, one-mul, suc-mul, mul-le-mul_right, arith, pow_pos}
use Rattle.std.proofs.Common.{pow-add, shr_lt, shr-shr, lt-ltb, le-ltb, le-leb, eq-eqb, ne_eqb}
use Rattle.std.proofs.Math.Nat.{div-eq_of_lt-le}
use Rattle.logic.specs.Cases.{bool, most, tri}
use Rattle.sizes.specs.Sizes.{array_words, cell_count, cells_at, totals_at}
use Rattle.numbers.specs.Agree.{agreement}
use Rattle.calm.specs.Taken.{shares_to, shares_from}
use Rattle.calm.specs.Climb.{across, across-low, across-up, across_off}
use Rattle.array.specs.With.{with_block}
use Rattle.array.specs.Page.{word}
use Rattle.settle.specs.Fill.{filled, fill_length, fill_other, fill_cell}

-- m is l but for cells, each of which is sent through h
pub record Recelled (l m : List ℕ) (h : ℕ → ℕ → ℕ) : Type 0 where
  pub size : length m ≡ length l
  pub low : (r : ℕ) → r < cells_at → get_or m r 0 ≡ get_or l r 0
  pub high : (r : ℕ) → totals_at ≤ r → get_or m r 0 ≡ get_or l r 0
  pub cells : (j : ℕ) → j < cell_count → word m j ≡ h j (word l j)

-- ---- the cells that share m bits with i

abbrev pub start : ℕ → ℕ → ℕ
start i m = i / 2 ^ (8 - m) * 2 ^ (8 - m)

module _ (i m : ℕ) (ib : i < cell_count) (mb : m ≤ 8) where
  pub start_fits : start i m + 2 ^ (8 - m) ≤ cell_count
  start_fits =
      let s : m + (8 - m) ≡ 8 = omega arith in
      let a : i / 2 ^ (8 - m) < 2 ^ m = shr_lt m (8 - m) (rw s ib) in
      let e : 2 ^ m * 2 ^ (8 - m) ≡ cell_count = sym (pow-add 2 m (8 - m)) ∙ ap (λ (x : ℕ). 2 ^ x) s in
      omega (arith, suc-mul (i / 2 ^ (8 - m)) (2 ^ (8 - m)), mul-le-mul_right (2 ^ (8 - m)) a)

  pub inside_to : (j : ℕ) → j < cell_count → start i m ≤ j → j < start i m + 2 ^ (8 - m) → m ≤ agreement 8 j i
  inside_to j b h w =
      shares_from i j m ib b mb (div-eq_of_lt-le (2 ^ (8 - m)) h
      (omega (arith, add-mul (i / 2 ^ (8 - m)) 1 (2 ^ (8 - m)), one-mul (2 ^ (8 - m)))))

  pub inside_from : (j : ℕ) → j < cell_count → m ≤ agreement 8 j i → (start i m ≤ j) × (j < start i m + 2 ^ (8 - m))
  inside_from j b h =
      let q = shares_to i j m ib b mb h in
      let d = div-add-mod' j (2 ^ (8 - m)) in
      rw (← q) (omega (arith, d), omega (arith, d, mod-lt j (pow_pos (8 - m))))

  -- a block written into them
  fill_recelled : (l : List ℕ) (q : ℕ) → length l ≡ array_words
      → Recelled l (filled l (start i m) (2 ^ (8 - m)) q) (λ j w. cond (leb m (agreement 8 j i)) (with_block w q) w)
  fill_recelled l q n = record {
    size = fill_length l (start i m) q (2 ^ (8 - m));
    low = λ r h. fill_other l (start i m) q (2 ^ (8 - m)) r (λ j a b e. omega arith);
    high = λ r h. fill_other l (start i m) q (2 ^ (8 - m)) r (λ j a b e. omega (arith, start_fits));
    cells = λ j b. most m (agreement 8 j i)
        (λ h e. rw e (let w = inside_from j b h in
        fill_cell l (start i m) q (2 ^ (8 - m)) j w.0 w.1 (omega arith)))
        (λ h e. rw e (fill_other l (start i m) q (2 ^ (8 - m)) (cells_at + j)
        (λ k a c z. (let y : k ≡ j = omega arith in omega (arith, inside_to j b (rw y at a) (rw y at c))))));
  }

-- ---- once something of depth k is taken over cell i, whose block was q

abbrev pub stage : ℕ → ℕ → ℕ → ℕ → ℕ → ℕ
stage i q k j w = cond (ltb q k && leb q (agreement 8 j i)) (with_block w (min k (suc (agreement 8 j i)))) w

-- nothing to write
pub stage_same : (l : List ℕ) (i q d : ℕ) → d ≤ q → Recelled l l (stage i q d)
stage_same l i q d h = record { size = refl; low = λ r h. refl; high = λ r h. refl; cells = λ j b. rw (le-ltb q d h) }

-- ---- the half that leaves i after m bits is what shares m + 1 bits with the cell across

leaves : (i j x e : ℕ) → j / 2 ^ e / 2 ≡ i / 2 ^ e / 2 → j / 2 ^ e ≢ i / 2 ^ e → x / 2 ^ e / 2 ≡ i / 2 ^ e / 2
    → x / 2 ^ e ≢ i / 2 ^ e → x / 2 ^ e ≡ j / 2 ^ e
leaves i j x e up off a b = omega arith

turn : (i m x : ℕ) → i < cell_count → x < cell_count → m < 8
    → leb (m + 1) (agreement 8 x (across i (8 - (m + 1)))) ≡ eqb (agreement 8 x i) m
turn i m x ib xb h =
    most (m + 1) (agreement 8 x j)
    (λ l d. rw d (sym (eq-eqb (agreement 8 x i) m (to l))))
    (λ l d. rw d (sym (ne_eqb (agreement 8 x i) m (λ q. omega (arith, from q)))))
  where
    e : ℕ
    e = 8 - (m + 1)

    j : ℕ
    j = across i (8 - (m + 1))

    jb : across i (8 - (m + 1)) < cell_count
    jb = across-low i (8 - (m + 1)) ib (omega arith)

    up : across i (8 - (m + 1)) / 2 ^ (8 - (m + 1)) / 2 ≡ i / 2 ^ (8 - (m + 1)) / 2
    up = across-up i (8 - (m + 1)) ib (omega arith)

    off : across i (8 - (m + 1)) / 2 ^ (8 - (m + 1)) ≢ i / 2 ^ (8 - (m + 1))
    off = across_off i (8 - (m + 1)) ib (omega arith)

    wide : (y : ℕ) → y / 2 ^ (8 - m) ≡ y / 2 ^ (8 - (m + 1)) / 2
    wide y = let s : 8 - m ≡ 8 - (m + 1) + 1 = omega arith in rw s (sym (shr-shr y (8 - (m + 1)) 1))

    to : m + 1 ≤ agreement 8 x (across i (8 - (m + 1))) → agreement 8 x i ≡ m
    to l =
        let a = shares_to j x (m + 1) jb xb (omega arith) l in
        let w = wide x ∙ ap (λ (y : ℕ). y / 2) a ∙ up ∙ sym (wide i) in
        let b : m ≤ agreement 8 x i = shares_from i x m ib xb (omega arith) w in
        most (m + 1) (agreement 8 x i) (λ z _. absurd (off (sym a ∙ shares_to i x (m + 1) ib xb (omega arith) z)))
        (λ z _. omega arith)

    from : agreement 8 x i ≡ m → m + 1 ≤ agreement 8 x (across i (8 - (m + 1)))
    from q =
        shares_from j x (m + 1) jb xb (omega arith)
        (leaves i j x (8 - (m + 1)) up off (sym (wide x) ∙ shares_to i x m ib xb (omega arith) (omega arith) ∙ wide i)
        (λ z. omega (arith, shares_from i x (m + 1) ib xb (omega arith) z)))

-- the halves that leave i after q, q + 1 .. k - 1 bits
abbrev pub left : ℕ → ℕ → ℕ → ℕ → ℕ → ℕ
left i q k j w = cond (leb q (agreement 8 j i) && ltb (agreement 8 j i) k) (with_block w (suc (agreement 8 j i))) w

pub left_none : (l : List ℕ) (i q : ℕ) → Recelled l l (left i q q)
left_none l i q = record { size = refl; low = λ r h. refl; high = λ r h. refl; cells = λ j b. sym (none j) }
  where
    none : (j : ℕ) → left i q q j (word l j) ≡ word l j
    none j = most q (agreement 8 j i) (λ h e. rw (e, le-ltb (agreement 8 j i) q h)) (λ h e. rw e)

step : (i q k j w : ℕ) → q ≤ k
    → cond (eqb (agreement 8 j i) k) (with_block (left i q k j w) (k + 1)) (left i q k j w) ≡ left i q (k + 1) j w
step i q k j w h =
    tri (agreement 8 j i) k
    (λ l e. rw (ne_eqb (agreement 8 j i) k (λ z. omega arith), e, lt-ltb (agreement 8 j i) (k + 1) (omega arith)))
    (λ z e d. (let s : suc (agreement 8 j i) ≡ k + 1 = omega arith in
    rw (d, e, le-leb q (agreement 8 j i) (omega arith), lt-ltb (agreement 8 j i) (k + 1) (omega arith), s)))
    (λ l e d. rw (d, e, le-ltb (agreement 8 j i) (k + 1) (omega arith)))

pub left_next : (l m n : List ℕ) (i q k c v : ℕ) → i < cell_count → q ≤ k → k < 8 → c ≡ across i (8 - (k + 1)) → v ≡ k + 1
    → Recelled l m (left i q k)
    → Recelled m n (λ j w. cond (leb (k + 1) (agreement 8 j c)) (with_block w v) w) → Recelled l n (left i q (k + 1))
left_next l m n i q k c v ib h b ce ve x y = record {
  size = y.size ∙ x.size;
  low = λ r z. y.low r z ∙ x.low r z;
  high = λ r z. y.high r z ∙ x.high r z;
  cells = λ j z. y.cells j z ∙ rw (ce, ve, turn i k j ib z b, x.cells j z) (step i q k j (word l j) h);
}

last : (i q d j w : ℕ) → q < d
    → cond (leb d (agreement 8 j i)) (with_block (left i q d j w) d) (left i q d j w) ≡ stage i q d j w
last i q d j w h =
    rw (lt-ltb q d h) (most d (agreement 8 j i)
    (λ a e. (let m : min d (suc (agreement 8 j i)) ≡ d = omega arith in
    rw (e, le-leb q (agreement 8 j i) (omega arith), le-ltb (agreement 8 j i) d a, m)))
    (λ a e. (let m : min d (suc (agreement 8 j i)) ≡ suc (agreement 8 j i) = omega arith in
    rw (e, lt-ltb (agreement 8 j i) d a, m) (bool (leb q (agreement 8 j i)) (λ y. rw y) (λ y. rw y)))))

pub left_end : (l m n : List ℕ) (i q k d v : ℕ) → q < d → k ≤ d → d ≤ k → v ≡ d → Recelled l m (left i q k)
    → Recelled m n (λ j w. cond (leb d (agreement 8 j i)) (with_block w v) w) → Recelled l n (stage i q d)
left_end l m n i q k d v h a b ve x y =
    let e : k ≡ d = omega arith in
    let z : Recelled l m (left i q d) = rw e at x in
    record {
      size = y.size ∙ z.size;
      low = λ r u. y.low r u ∙ z.low r u;
      high = λ r u. y.high r u ∙ z.high r u;
      cells = λ j u. y.cells j u ∙ rw (ve, z.cells j u) (last i q d j (word l j) h);
    }

-- a run of cells that share m bits with i, as the code names it
pub fill_run : (l n : List ℕ) (i m from s to q : ℕ) → i < cell_count → m ≤ 8 → length l ≡ array_words → from ≡ start i m
    → s ≡ 2 ^ (8 - m) → to ≡ from + s
    → n ≡ filled l from (to - from) q → Recelled l n (λ j w. cond (leb m (agreement 8 j i)) (with_block w q) w)
fill_run l n i m from s to q ib mb z a b c e =
    let d : to - from ≡ 2 ^ (8 - m) = omega arith in rw (e, d, a) (fill_recelled i m ib mb l q z)
