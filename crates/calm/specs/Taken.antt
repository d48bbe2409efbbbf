-- A slot or a link that is taken or freed: which blocks change, and to what. Assumes nothing.
--
--     q: the block of cell i, that the slot or link stands over, while it is free
--     taken: of the cells that share q bits with i, one that leaves i after n bits has the block n + 1, and those below the slot
--            have the slot's depth
--     freed: those cells have the block q
use Rattle.std.specs.Prelude.{◌≡◌, refl, ◌≢◌, cond, ℕ, suc, ◌+◌, ◌-◌, ◌/◌, ◌^◌, ◌≤◌, ◌<◌, min, leb}
use Rattle.std.proofs.Common.{sym, ◌∙◌, arith}
use Rattle.logic.specs.Cases.{same, most}
use Rattle.numbers.specs.Agree.{agreement, agree_from, agree_to}
use Rattle.calm.specs.Calm.{Calm, Block, Settled, under, calm_less}

-- ---- f, g are f₀, g₀ with something taken over cell i: a slot of depth D, or a link, and then D is 9

pub record Taken (f₀ g₀ f g : ℕ → ℕ) (i D : ℕ) : Type 0 where
  pub cell : i < 256
  pub depth : D ≤ 9
  pub to : (j e : ℕ) → j < 256 → e ≤ 8 → Calm f g j e → Calm f₀ g₀ j e
  pub from : (j e : ℕ) → j < 256 → e ≤ 8 → Calm f₀ g₀ j e → (8 < e + D → j / 2 ^ e ≡ i / 2 ^ e → ⊥) → Calm f g j e
  pub not : (e : ℕ) → e ≤ 8 → 8 < e + D → Calm f g i e → ⊥
  pub links : (j : ℕ) → j < 256 → g j ≡ 0 → g₀ j ≡ 0
  pub same : (j : ℕ) → j < 256 → g₀ j ≡ 0 → (D ≡ 9 → j ≢ i) → g j ≡ 0

-- ---- cells that share bits

-- as the number of equal leading bits
pub shares_to : (i j m : ℕ) → i < 256 → j < 256 → m ≤ 8 → m ≤ agreement 8 j i → j / 2 ^ (8 - m) ≡ i / 2 ^ (8 - m)
shares_to i j m a b h q = agree_to 8 j i m b a h q

pub shares_from : (i j m : ℕ) → i < 256 → j < 256 → m ≤ 8 → j / 2 ^ (8 - m) ≡ i / 2 ^ (8 - m) → m ≤ agreement 8 j i
shares_from i j m a b h q = agree_from 8 j i m b a h q

-- what is calm below a slot is so for each cell there
pub calm_move : (f g : ℕ → ℕ) (i j e : ℕ) → j / 2 ^ e ≡ i / 2 ^ e → Calm f g i e → Calm f g j e
calm_move f g i j e q z k b s = z k b (s ∙ q)

-- cells that share d bits have one block d
pub block_move : (f g : ℕ → ℕ) (i j d : ℕ) → j / 2 ^ (8 - d) ≡ i / 2 ^ (8 - d) → Block f g i d → Block f g j d
block_move f g i j d q b = record {
  fits = b.fits;
  calm = calm_move f g i j (8 - d) q b.calm;
  least = λ c h z. b.least c h (calm_move f g j i (8 - c) (sym (under i j (8 - d) (8 - c) (omega arith) q)) z);
}

-- a block is at most any calm depth
pub block_most : (f g : ℕ → ℕ) (i d m : ℕ) → Block f g i d → Calm f g i (8 - m) → d ≤ m
block_most f g i d m b z = most d m (λ h _. h) (λ h _. absurd (b.least m h z))

-- ---- after it is taken

-- the block of cell j
abbrev pub parted : ℕ → ℕ → ℕ → (ℕ → ℕ) → ℕ → ℕ
parted i D q b j = cond (leb q (agreement 8 j i)) (min D (suc (agreement 8 j i))) (b j)

module _ (f₀ g₀ f g : ℕ → ℕ) (i D : ℕ) (t : Taken f₀ g₀ f g i D) where
  -- a calm depth above it, while it is free
  over : (j d : ℕ) → j < 256 → d ≤ 8 → Calm f₀ g₀ j (8 - d) → (d < D → j / 2 ^ (8 - d) ≡ i / 2 ^ (8 - d) → ⊥) → Calm f g j (8 - d)
  over j d b h z n = t.from j (8 - d) b (omega arith) z (λ l q. n (omega arith) q)

  -- a cell whose block stays
  stays : (j d : ℕ) → j < 256 → Block f₀ g₀ j d → (d < D → j / 2 ^ (8 - d) ≡ i / 2 ^ (8 - d) → ⊥) → Block f g j d
  stays j d b k n = record {
    fits = k.fits;
    calm = over j d b k.fits k.calm n;
    least = λ c h z. k.least c h (t.to j (8 - c) b (omega arith) z);
  }

  -- one that gets another: j shares d - 1 bits with i, all below them was calm, and d is the slot's depth or j does not share d
  moves : (j q d : ℕ) → j < 256 → d ≤ 8 → q ≤ d → Calm f₀ g₀ j (8 - q)
      → (d < D → j / 2 ^ (8 - d) ≡ i / 2 ^ (8 - d) → ⊥) → d ≤ D
      → ((c : ℕ) → c < d → j / 2 ^ (8 - c) ≡ i / 2 ^ (8 - c)) → Block f g j d
  moves j q d b h w z n l s = record {
    fits = h;
    calm = over j d b h (calm_less f₀ g₀ j (8 - q) (8 - d) (omega arith) z) n;
    least = λ c x y. t.not (8 - c) (omega arith) (omega arith) (calm_move f g j i (8 - c) (sym (s c x)) y);
  }

  -- nothing above it was calm
  pub taken_none : (b : ℕ → ℕ) → Settled f₀ g₀ b → (g₀ i ≡ 0 → D ≤ b i) → Settled f g b
  taken_none b z h j w e =
      let k = z j w (t.links j w e) in
      stays j (b j) w k (λ l q.
      let y = calm_move f₀ g₀ j i (8 - b j) (sym q) k.calm in
      let o = (y i t.cell refl).0 in
      omega (arith, h o, block_most f₀ g₀ i (b i) (b j) (z i t.cell o) y))

  pub taken_some : (b : ℕ → ℕ) (q : ℕ) → Settled f₀ g₀ b → g₀ i ≡ 0 → b i ≡ q → q < D → Settled f g (parted i D q b)
  taken_some b q z o r l j w e =
      let k : Block f₀ g₀ i q = rw r at (z i t.cell o) in
      most q (agreement 8 j i)
      (λ h d. rw d (
      let s = shares_to i j q t.cell w k.fits h in
      let m = min D (suc (agreement 8 j i)) in
      let u : m ≤ 8 = fits8 j w e in
      moves j q m w u (omega arith) (calm_move f₀ g₀ i j (8 - q) s k.calm)
      (λ x y. omega (arith, shares_from i j m t.cell w u y)) (omega arith)
      (λ c x. shares_to i j c t.cell w (omega arith) (omega arith))))
      (λ h d. rw d (
      let v = z j w (t.links j w e) in
      stays j (b j) w v (λ x y.
      let n = block_most f₀ g₀ i q (b j) k (calm_move f₀ g₀ j i (8 - b j) (sym y) v.calm) in
      omega (arith, n, shares_from i j (b j) t.cell w v.fits y))))
    where
      -- a link leaves its cell without a block
      fits8 : (j : ℕ) → j < 256 → g j ≡ 0 → min D (suc (agreement 8 j i)) ≤ 8
      fits8 j w e =
          most (min D (suc (agreement 8 j i))) 8 (λ h _. h) (λ h _. absurd (
          let s : j / 1 ≡ i / 1 = shares_to i j 8 t.cell w (omega arith) (omega (arith, t.depth)) in
          let a : j ≡ i = omega arith in
          t.not 0 (omega arith) (omega arith) (λ c p x. (let y : c ≡ j = omega arith in rw y e, λ n m. absurd (omega arith)))))

  -- ---- after it is freed

  pub freed_some : (b : ℕ → ℕ) (q : ℕ) → Settled f g b → Block f₀ g₀ i q → q < D
      → Settled f₀ g₀ (λ j. cond (leb q (agreement 8 j i)) q (b j))
  freed_some b q z k l j w e =
      most q (agreement 8 j i)
      (λ h d. rw d (block_move f₀ g₀ i j q (shares_to i j q t.cell w k.fits h) k))
      (λ h d. rw d (
      let n : j ≢ i = λ r. omega (arith, shares_from i j q t.cell w k.fits (rw r)) in
      let v = z j w (t.same j w e (λ _. n)) in
      record {
        fits = v.fits;
        calm = t.to j (8 - b j) w (omega arith) v.calm;
        least = λ c x y. v.least c x (over j c w (omega (arith, v.fits)) y (λ p r.
            let u = calm_move f₀ g₀ j i (8 - c) (sym r) y in
            omega (arith, block_most f₀ g₀ i q c k u, shares_from i j c t.cell w (omega (arith, v.fits)) r)));
      }))

  -- nothing above it becomes calm
  pub freed_none : (b : ℕ → ℕ) → Settled f g b → D ≤ 8 → ((m : ℕ) → m < D → Calm f₀ g₀ i (8 - m) → ⊥) → Settled f₀ g₀ b
  freed_none b z h n j w e =
      let v = z j w (t.same j w e (λ r _. omega arith)) in
      record {
        fits = v.fits;
        calm = t.to j (8 - b j) w (omega arith) v.calm;
        least = λ c x y.
            v.least c x (over j c w (omega (arith, v.fits)) y (λ p r. n c p (calm_move f₀ g₀ j i (8 - c) (sym r) y)));
      }
