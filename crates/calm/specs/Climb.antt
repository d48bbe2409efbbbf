-- The block of a cell found from below: a slot is calm where its two halves are free and calm. Assumes nothing.
use Rattle.std.specs.Prelude.{◌≡◌, refl, ◌≢◌, Bool, true, false, cond, ◌&&◌, leb, eqb}
use Rattle.std.proofs.Common.{sym, ap, ◌∙◌, shr-shr, pow_pos, eqb-true, leb-true, eq-eqb, le-leb}
use Rattle.std.proofs.Math.Bool.{true≢false}
use Prim.Native.Nat.{ℕ, zero, suc, ◌+◌, ◌-◌, ◌/◌, ◌^◌, ◌≤◌, ◌<◌}
use native.Mathlib.Omega.{arith}
use lib.Bits.{bit_xor, xor_add_and, xor_shr, xor_lt}
use Rattle.std.proofs.Math.Pow.{pow-lt}
use Rattle.logic.specs.Cases.{bool, same}
use Rattle.logic.specs.Bools.{and_to, and_from}
use Rattle.calm.specs.Calm.{Calm, Block, Settled, calm_less}
use Rattle.calm.specs.Taken.{Taken, calm_move, block_most, freed_none}
use Rattle.calm.specs.Slotted.{slot_of}

-- ---- two halves

module _ (f g : ℕ → ℕ) (i j e : ℕ) (jb : j < 256) (h : e < 8)
    (up : j / 2 ^ e / 2 ≡ i / 2 ^ e / 2) (off : j / 2 ^ e ≢ i / 2 ^ e) where
  half : (k : ℕ) → k / 2 ^ suc e ≡ k / 2 ^ e / 2
  half k = let s : suc e ≡ e + 1 = omega arith in rw s (sym (shr-shr k e 1))

  pub whole_halves : i < 256 → Calm f g i (suc e) → (f ((256 + i) / 2 ^ e) ≡ 0) × (f ((256 + j) / 2 ^ e) ≡ 0) × Calm f g j e
  whole_halves ib z =
      let s : j / 2 ^ suc e ≡ i / 2 ^ suc e = half j ∙ up ∙ sym (half i) in
      let y = calm_less f g j (suc e) e (omega arith) (calm_move f g i j (suc e) s z) in
      ((z i ib refl).1 e (omega arith), (z j jb s).1 e (omega arith), y)

  pub halves_whole : Calm f g i e → Calm f g j e → f ((256 + i) / 2 ^ e) ≡ 0 → f ((256 + j) / 2 ^ e) ≡ 0 → Calm f g i (suc e)
  halves_whole x y u v k kb q =
      let s : k / 2 ^ e / 2 ≡ i / 2 ^ e / 2 = sym (half k) ∙ q ∙ half i in
      same (k / 2 ^ e) (i / 2 ^ e)
      (λ r _. ((x k kb r).0, λ c l. one i c r u (x k kb r).1 l))
      (λ n _. (let r : k / 2 ^ e ≡ j / 2 ^ e = omega arith in ((y k kb r).0, λ c l. one j c r v (y k kb r).1 l)))
    where
      one : (m c : ℕ) → k / 2 ^ e ≡ m / 2 ^ e → f ((256 + m) / 2 ^ e) ≡ 0
          → ((c : ℕ) → c < e → f ((256 + k) / 2 ^ c) ≡ 0) → c < suc e → f ((256 + k) / 2 ^ c) ≡ 0
      one m c r u w l =
          same c e
          (λ z _. rw (z, slot_of k e (omega arith), r, ← (slot_of m e (omega arith))) u)
          (λ z _. w c (omega arith))

-- ---- the cell across: in the other half below the slot of one bit less

abbrev pub across : ℕ → ℕ → ℕ
across i e = bit_xor i (2 ^ e)

module _ (i e : ℕ) (ib : i < 256) (h : e < 8) where
  pub across-low : across i e < 256
  across-low = xor_lt 8 i (2 ^ e) ib (pow-lt h)

  one : 2 ^ e / 2 ^ e ≡ 1
  one = native.Mathlib.Nat.div_self (pow_pos e)

  sits : across i e / 2 ^ e ≡ bit_xor (i / 2 ^ e) 1
  sits = xor_shr i (2 ^ e) e ∙ ap (λ (x : ℕ). bit_xor (i / 2 ^ e) x) one

  pub across_off : across i e / 2 ^ e ≢ i / 2 ^ e
  across_off q = omega (arith, sits, xor_add_and (i / 2 ^ e) 1)

  pub across-up : across i e / 2 ^ e / 2 ≡ i / 2 ^ e / 2
  across-up = ap (λ (x : ℕ). x / 2) sits ∙ xor_shr (i / 2 ^ e) 1 1 ∙ lib.Bits.xor_zero_r (i / 2 ^ e / 2)

-- ---- up while both halves are free and calm; b the blocks

-- a cell without a link whose block is at most m
abbrev pub rests : (ℕ → ℕ) → (ℕ → ℕ) → ℕ → ℕ → Bool
rests g b j m = eqb (g j) 0 && leb (b j) m

abbrev pub joins : (ℕ → ℕ) → (ℕ → ℕ) → (ℕ → ℕ) → ℕ → ℕ → Bool
joins f g b i m =
    eqb (f ((256 + i) / 2 ^ (8 - m))) 0 && (eqb (f ((256 + across i (8 - m)) / 2 ^ (8 - m))) 0 && rests g b (across i (8 - m)) m)

unfoldable pub climb_of : (ℕ → ℕ) → (ℕ → ℕ) → (ℕ → ℕ) → ℕ → ℕ → ℕ
climb_of f g b i zero = 0
climb_of f g b i (suc m) = cond (joins f g b i (suc m)) (climb_of f g b i m) (suc m)

-- the cells across tell what is calm below them
abbrev pub Sides : (ℕ → ℕ) → (ℕ → ℕ) → (ℕ → ℕ) → ℕ → Type 0
Sides f g b i = (m : ℕ) → 1 ≤ m → m ≤ 8 → g (across i (8 - m)) ≡ 0
    → (b (across i (8 - m)) ≤ m → Calm f g (across i (8 - m)) (8 - m))
    × (Calm f g (across i (8 - m)) (8 - m) → b (across i (8 - m)) ≤ m)

module _ (f g b : ℕ → ℕ) (i : ℕ) (ib : i < 256) (sides : Sides f g b i) where
  up_one : (m : ℕ) → suc m ≤ 8 → joins f g b i (suc m) ≡ true → Calm f g i (8 - suc m) → Calm f g i (8 - m)
  up_one m h t z =
      let e = 8 - suc m in
      let j = across i e in
      let s : 8 - m ≡ suc e = omega arith in
      let p = and_to (eqb (f ((256 + i) / 2 ^ e)) 0) _ t in
      let q = and_to (eqb (f ((256 + j) / 2 ^ e)) 0) _ p.1 in
      let r = and_to (eqb (g j) 0) (leb (b j) (suc m)) q.1 in
      let up = across-up i e ib (omega arith) in
      let off = across_off i e ib (omega arith) in
      rw s (halves_whole f g i j e (across-low i e ib (omega arith)) (omega arith) up off z
      ((sides (suc m) (omega arith) h (eqb-true _ _ r.0)).0 (leb-true _ _ r.1)) (eqb-true _ _ p.0) (eqb-true _ _ q.0))

  down_one : (m : ℕ) → suc m ≤ 8 → Calm f g i (8 - m) → joins f g b i (suc m) ≡ true
  down_one m h z =
      let e = 8 - suc m in
      let j = across i e in
      let jb = across-low i e ib (omega arith) in
      let s : 8 - m ≡ suc e = omega arith in
      let up = across-up i e ib (omega arith) in
      let off = across_off i e ib (omega arith) in
      let w = whole_halves f g i j e jb (omega arith) up off ib (rw s at z) in
      let o : g j ≡ 0 = (w.2 j jb refl).0 in
      let k = le-leb (b j) (suc m) ((sides (suc m) (omega arith) h o).1 w.2) in
      and_from _ _ (eq-eqb _ _ w.0) (and_from _ _ (eq-eqb _ _ w.1) (and_from _ _ (eq-eqb _ _ o) k))

  pub climbs : (m : ℕ) → m ≤ 8 → Calm f g i (8 - m) → Block f g i (climb_of f g b i m)
  unfolding climb_of
  climbs zero h z = record { fits = h; calm = z; least = λ c l _. omega arith }
  climbs (suc m) h z =
      bool (joins f g b i (suc m))
      (λ t. rw t (climbs m (omega arith) (up_one m h t z)))
      (λ t. rw t (record {
        fits = h;
        calm = z;
        least = λ c l y. true≢false (sym (down_one m h (calm_less f g i (8 - c) (8 - m) (omega arith) y)) ∙ t);
      }))

-- ---- once something over cell i was freed: f₀, g₀ now, f, g before

module _ (f₀ g₀ f g : ℕ → ℕ) (i D : ℕ) (t : Taken f₀ g₀ f g i D) (b : ℕ → ℕ) (z : Settled f g b) where
  pub freed_sides : Sides f₀ g₀ b i
  freed_sides m l h o =
      let e = 8 - m in
      let j = across i e in
      let jb = across-low i e t.cell (omega arith) in
      let n = across_off i e t.cell (omega arith) in
      let k = z j jb (t.same j jb o (λ _ q. n (ap (λ (x : ℕ). x / 2 ^ e) q))) in (
        (λ w. t.to j e jb (omega arith) (calm_less f g j (8 - b j) e (omega arith) k.calm)),
        (λ y. block_most f g j (b j) m k (t.from j e jb (omega arith) y (λ _ q. n q))),
      )

  -- cell i has no link, and its block is the depth of the slot: all below the slot is calm
  pub freed-start : D ≤ 8 → g₀ i ≡ 0 → b i ≤ D → Calm f₀ g₀ i (8 - D)
  freed-start h o w =
      let v = z i t.cell (t.same i t.cell o (λ r _. omega arith)) in
      t.to i (8 - D) t.cell (omega arith) (calm_less f g i (8 - b i) (8 - D) (omega arith) v.calm)

  -- else nothing above it becomes calm
  pub freed_not : D ≤ 8 → (g₀ i ≡ 0 → D < b i) → Settled f₀ g₀ b
  freed_not h n = freed_none f₀ g₀ f g i D t b z h (λ m l y.
      let w = calm_less f₀ g₀ i (8 - m) (8 - D) (omega arith) y in
      let x = t.from i (8 - D) t.cell (omega arith) w (λ q _. omega arith) in
      let o = (y i t.cell refl).0 in
      omega (arith, n o, block_most f g i (b i) D (z i t.cell (t.same i t.cell o (λ r _. omega arith))) x))

-- ---- in a loop

pub climb_top : (f g b : ℕ → ℕ) (i m : ℕ) → m ≡ 0 → climb_of f g b i m ≡ 0
unfolding climb_of
climb_top f g b i m e = rw e

pub climb_stop : (f g b : ℕ → ℕ) (i m : ℕ) → m ≢ 0 → joins f g b i m ≡ false → climb_of f g b i m ≡ m
unfolding climb_of
climb_stop f g b i zero n t = absurd (n refl)
climb_stop f g b i (suc m) n t = rw t

pub climb_up : (f g b : ℕ → ℕ) (i m : ℕ) → m ≢ 0 → joins f g b i m ≡ true → climb_of f g b i m ≡ climb_of f g b i (m - 1)
unfolding climb_of
climb_up f g b i zero n t = absurd (n refl)
climb_up f g b i (suc m) n t = let e : suc m - 1 ≡ m = omega arith in rw (t, e)
