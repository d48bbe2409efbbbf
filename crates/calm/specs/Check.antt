-- Whether the blocks of an array are right, decided: what is calm below each slot by the slots below it, then each cell's block.
-- Assumes nothing.
use Rattle.std.specs.Prelude.{◌≡◌, refl, ◌≢◌, ◌⊎◌, Bool, true, false, not, ◌&&◌, ◌||◌, leb, eqb}
use Rattle.std.proofs.Common.{sym, ◌∙◌, true≢false, shr-shr}
use Rattle.std.proofs.Math.Logic.{inl, inr, ⊎_elim}
use Prim.Native.Nat.{ℕ, zero, suc, ◌+◌, ◌-◌, ◌*◌, ◌/◌, ◌^◌, ◌≤◌, ◌<◌}
use Rattle.std.proofs.Math.Nat.{pow-succ'}
use native.Mathlib.Omega.{arith}
use Rattle.logic.specs.Cases.{same, most}
use Rattle.logic.specs.Reflects.{Reflects, reflects_eq, reflects_le, reflects_and, reflects_or, reflects_all, reflects_as}
use Rattle.logic.specs.Every.{all_b}
use Rattle.calm.specs.Calm.{Calm, Block, Settled, calm_less}
use Rattle.calm.specs.Slotted.{slot_of}
use Rattle.calm.specs.Climb.{across, across-low, across_off, across-up, whole_halves, halves_whole}

-- below slot s, e bits above the cells
unfoldable pub calm_of : (ℕ → ℕ) → (ℕ → ℕ) → ℕ → ℕ → Bool
calm_of f g s zero = eqb (g (s - 256)) 0
calm_of f g s (suc e) = (eqb (f (2 * s)) 0 && eqb (f (2 * s + 1)) 0) && (calm_of f g (2 * s) e && calm_of f g (2 * s + 1) e)

-- the slot of a cell, and that of the cell across, are the two below the slot above
pairs : (i j e : ℕ) → e < 8 → j / 2 ^ e / 2 ≡ i / 2 ^ e / 2 → j / 2 ^ e ≢ i / 2 ^ e
    → (((256 + i) / 2 ^ e ≡ 2 * ((256 + i) / 2 ^ suc e)) × ((256 + j) / 2 ^ e ≡ 2 * ((256 + i) / 2 ^ suc e) + 1))
    ⊎ (((256 + j) / 2 ^ e ≡ 2 * ((256 + i) / 2 ^ suc e)) × ((256 + i) / 2 ^ e ≡ 2 * ((256 + i) / 2 ^ suc e) + 1))
pairs i j e h up off =
    let s : suc e ≡ e + 1 = omega arith in
    let p : (256 + i) / 2 ^ suc e ≡ (256 + i) / 2 ^ e / 2 = rw s (sym (shr-shr (256 + i) e 1)) in
    let k : 8 - e ≡ suc (7 - e) = omega arith in
    let w : 2 ^ (8 - e) ≡ 2 ^ (7 - e) * 2 = rw k (pow-succ' 2 (7 - e) ∙ omega arith) in
    let a = slot_of i e (omega arith) in
    let b = slot_of j e (omega arith) in
    rw p (less2 ((256 + i) / 2 ^ e) ((256 + j) / 2 ^ e) (2 ^ (7 - e)) (i / 2 ^ e) (j / 2 ^ e) (a ∙ rw w) (b ∙ rw w) up off)
  where
    less2 : (x y n u v : ℕ) → x ≡ n * 2 + u → y ≡ n * 2 + v → v / 2 ≡ u / 2 → v ≢ u
        → ((x ≡ 2 * (x / 2)) × (y ≡ 2 * (x / 2) + 1)) ⊎ ((y ≡ 2 * (x / 2)) × (x ≡ 2 * (x / 2) + 1))
    less2 x y n u v a b q o = most u v (λ h _. inl (omega arith, omega arith)) (λ h _. inr (omega arith, omega arith))

module _ (f g : ℕ → ℕ) where
  pub calm_reflects : (e i : ℕ) → e ≤ 8 → i < 256 → Reflects (calm_of f g ((256 + i) / 2 ^ e) e) (Calm f g i e)
  unfolding calm_of
  calm_reflects zero i h b =
      let s : (256 + i) / 1 - 256 ≡ i = omega arith in
      rw s (reflects_as {P = g i ≡ 0}
      (λ z j jb q. (let y : j ≡ i = omega arith in rw y z, λ c l. absurd (omega arith)))
      (λ z. (z i b refl).0)
      (reflects_eq (g i) 0))
  calm_reflects (suc e) i h b =
      let l : e < 8 = omega arith in
      let j = across i e in
      let jb = across-low i e b l in
      let up = across-up i e b l in
      let off = across_off i e b l in
      let I = calm_reflects e i (omega arith) b in
      let J = calm_reflects e j (omega arith) jb in
      ⊎_elim
      (λ (p : ((256 + i) / 2 ^ e ≡ 2 * ((256 + i) / 2 ^ suc e)) × ((256 + j) / 2 ^ e ≡ 2 * ((256 + i) / 2 ^ suc e) + 1)).
      rw (← p.1, ← p.0) (reflects_as
      (λ z. halves_whole f g i j e jb l up off z.1.0 z.1.1 z.0.0 z.0.1)
      (λ z. let w = whole_halves f g i j e jb l up off b z in ((w.0, w.1), (calm_less f g i (suc e) e (omega arith) z, w.2)))
      (reflects_and (reflects_and (reflects_eq (f ((256 + i) / 2 ^ e)) 0) (reflects_eq (f ((256 + j) / 2 ^ e)) 0))
      (reflects_and I J))))
      (λ (p : ((256 + j) / 2 ^ e ≡ 2 * ((256 + i) / 2 ^ suc e)) × ((256 + i) / 2 ^ e ≡ 2 * ((256 + i) / 2 ^ suc e) + 1)).
      rw (← p.1, ← p.0) (reflects_as
      (λ z. halves_whole f g i j e jb l up off z.1.1 z.1.0 z.0.1 z.0.0)
      (λ z. let w = whole_halves f g i j e jb l up off b z in ((w.1, w.0), (w.2, calm_less f g i (suc e) e (omega arith) z)))
      (reflects_and (reflects_and (reflects_eq (f ((256 + j) / 2 ^ e)) 0) (reflects_eq (f ((256 + i) / 2 ^ e)) 0))
      (reflects_and J I))))
      (pairs i j e l up off)

-- ---- one cell: calm at its block, and not one bit above

abbrev pub calm_at : (ℕ → ℕ) → (ℕ → ℕ) → ℕ → ℕ → Bool
calm_at f g i d = calm_of f g ((256 + i) / 2 ^ (8 - d)) (8 - d)

unfoldable pub block_b : (ℕ → ℕ) → (ℕ → ℕ) → ℕ → ℕ → Bool
block_b f g i d = leb d 8 && (calm_at f g i d && (eqb d 0 || not (calm_at f g i (d - 1))))

unfoldable pub cell_b : (ℕ → ℕ) → (ℕ → ℕ) → (ℕ → ℕ) → ℕ → Bool
cell_b f g b i = not (eqb (g i) 0) || block_b f g i (b i)

-- every cell without a link has its block
abbrev pub settled_b : (ℕ → ℕ) → (ℕ → ℕ) → (ℕ → ℕ) → Bool
settled_b f g b = all_b (cell_b f g b) 256

reflects_not : {b : Bool} {P : Type 0} → Reflects b P → Reflects (not b) (P → ⊥)
reflects_not {b} {P} t = record { to = to b refl; from = λ n. from b refl n }
  where
    to : (c : Bool) → b ≡ c → not c ≡ true → P → ⊥
    to true e z p = true≢false (sym z)
    to false e z p = true≢false (sym (t.from p) ∙ e)

    from : (c : Bool) → b ≡ c → (P → ⊥) → not c ≡ true
    from true e n = absurd (n (t.to e))
    from false e n = refl

module _ (f g : ℕ → ℕ) where
  pub block_reflects : (i d : ℕ) → i < 256 → Reflects (block_b f g i d) (Block f g i d)
  unfolding block_b
  block_reflects i d b =
      reflects_as
      (λ z. record {
        fits = z.0;
        calm = z.1.0;
        least = λ c h y. ⊎_elim (λ (e : d ≡ 0). omega arith)
            (λ (n : Calm f g i (8 - (d - 1)) → ⊥). n (calm_less f g i (8 - c) (8 - (d - 1)) (omega arith) y)) z.1.1;
      })
      (λ z. (z.fits, (z.calm, same d 0 (λ e _. inl e) (λ e _. inr (z.least (d - 1) (omega arith))))))
      (reflects_and (reflects_le d 8)
      (reflects_and (calm_reflects f g (8 - d) i (omega arith) b)
      (reflects_or (reflects_eq d 0) (reflects_not (calm_reflects f g (8 - (d - 1)) i (omega arith) b)))))

  pub settled_reflects : (b : ℕ → ℕ) → Reflects (settled_b f g b) (Settled f g b)
  unfolding cell_b
  settled_reflects b = reflects_all (cell_b f g b) (λ i. g i ≡ 0 → Block f g i (b i)) 256 (λ i h.
      reflects_as
      (λ z e. ⊎_elim (λ (n : g i ≡ 0 → ⊥). absurd (n e)) (λ (k : Block f g i (b i)). k) z)
      (λ z. same (g i) 0 (λ e _. inr (z e)) (λ n _. inl n))
      (reflects_or (reflects_not (reflects_eq (g i) 0)) (block_reflects i (b i) h)))
