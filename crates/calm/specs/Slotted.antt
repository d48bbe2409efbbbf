-- A slot taken, a link set: what the laws of `Taken` are asked for. Assumes nothing.
use Rattle.std.specs.Prelude.{◌≡◌, refl, ◌≢◌, ℕ, ◌+◌, ◌-◌, ◌*◌, ◌/◌, ◌^◌, ◌≤◌, ◌<◌}
use Rattle.std.proofs.Common.{sym, ap, ◌∙◌, le-div_iff_mul-le, arith, shr_lt, pow_pos, pow_mono, pow-add}
use Rattle.std.proofs.Math.Nat.{mul-add-div_right}
use Rattle.std.proofs.lemmas.Nat.{shr_le}
use Rattle.logic.specs.Cases.{same, tri}
use Rattle.calm.specs.Calm.{under}
use Rattle.calm.specs.Taken.{Taken}

-- a slot at depth 8 - c stands there and nowhere else
depth_one : (j i c k : ℕ) → j < 256 → i < 256 → c ≤ 8 → k ≤ 8 → (256 + j) / 2 ^ c ≡ (256 + i) / 2 ^ k → c ≡ k
depth_one j i c k jb ib ch kh e =
    tri c k (λ l _. absurd (go j i c k jb ib kh l e)) (λ q _ _. q) (λ l _ _. absurd (go i j k c ib jb ch l (sym e)))
  where
    -- with fewer bits off it is at least twice as large
    go : (j i c k : ℕ) → j < 256 → i < 256 → k ≤ 8 → c < k → (256 + j) / 2 ^ c ≡ (256 + i) / 2 ^ k → ⊥
    go j i c k jb ib kh l e =
        let a : 2 ^ (8 - c) ≤ (256 + j) / 2 ^ c = low j c (omega arith) in
        let b : (256 + i) / 2 ^ k < 2 ^ (9 - k) = high i k ib kh in
        omega (arith, pow_mono {i = 9 - k} {j = 8 - c} (omega arith))
      where
        low : (j c : ℕ) → c ≤ 8 → 2 ^ (8 - c) ≤ (256 + j) / 2 ^ c
        low j c h =
            let s : 8 - c + c ≡ 8 = omega arith in
            let t : 2 ^ (8 - c) * 2 ^ c ≡ 256 = sym (pow-add 2 (8 - c) c) ∙ ap (λ (x : ℕ). 2 ^ x) s in
            (le-div_iff_mul-le (pow_pos c)).1 (omega arith)

        high : (i k : ℕ) → i < 256 → k ≤ 8 → (256 + i) / 2 ^ k < 2 ^ (9 - k)
        high i k b h = let s : 9 - k + k ≡ 9 = omega arith in shr_lt (9 - k) k (rw s (omega arith))

-- a cell's slot of 8 - c bits
pub slot_of : (j c : ℕ) → c ≤ 8 → (256 + j) / 2 ^ c ≡ 2 ^ (8 - c) + j / 2 ^ c
slot_of j c h =
    let s : 8 - c + c ≡ 8 = omega arith in
    let t : 256 ≡ 2 ^ (8 - c) * 2 ^ c = sym (sym (pow-add 2 (8 - c) c) ∙ ap (λ (x : ℕ). 2 ^ x) s) in
    rw t (mul-add-div_right (pow_pos c) (2 ^ (8 - c)) j)

pub slot_shares : (j i c k : ℕ) → j < 256 → i < 256 → c ≤ 8 → k ≤ 8 → (256 + j) / 2 ^ c ≡ (256 + i) / 2 ^ k
    → (c ≡ k) × (j / 2 ^ c ≡ i / 2 ^ c)
slot_shares j i c k jb ib ch kh e =
    let q = depth_one j i c k jb ib ch kh e in
    let w : (256 + j) / 2 ^ c ≡ (256 + i) / 2 ^ c = rw (← q) at e in
    (q, omega (arith, slot_of j c ch, slot_of i c ch))

-- a slot is one of the 511
pub slot_range : (j c : ℕ) → j < 256 → c ≤ 8 → (1 ≤ (256 + j) / 2 ^ c) × ((256 + j) / 2 ^ c < 512)
slot_range j c jb h = (omega (arith, slot_of j c h, pow_pos (8 - c)), omega (arith, shr_le (256 + j) c))

-- ---- slot s of depth d over cell i is taken

module _ (f₀ g₀ f g : ℕ → ℕ) (i d : ℕ) (ib : i < 256) (high : d ≤ 8)
    (others : (r : ℕ) → 1 ≤ r → r < 512 → r ≢ (256 + i) / 2 ^ (8 - d) → f r ≡ f₀ r)
    (none : f₀ ((256 + i) / 2 ^ (8 - d)) ≡ 0) (some : 1 ≤ f ((256 + i) / 2 ^ (8 - d)))
    (links : (j : ℕ) → j < 256 → g j ≡ g₀ j) where
  abbrev s : ℕ
  s = (256 + i) / 2 ^ (8 - d)

  pub slot_taken : Taken f₀ g₀ f g i d
  slot_taken = record {
    cell = ib;
    depth = omega arith;
    to = λ j e b h z k kb q.
        let w = z k kb q in (
          sym (links k kb) ∙ w.0,
          λ c l. same ((256 + k) / 2 ^ c) s
              (λ x _. rw x none)
              (λ x _. (let r = slot_range k c kb (omega arith) in sym (others ((256 + k) / 2 ^ c) r.0 r.1 x) ∙ w.1 c l)),
        );
    from = λ j e b h z n k kb q.
        let w = z k kb q in (
          links k kb ∙ w.0,
          λ c l. same ((256 + k) / 2 ^ c) s
              (λ x _. absurd (let y = slot_shares k i c (8 - d) kb ib (omega arith) (omega arith) x in
              n (omega (arith, y.0)) (sym q ∙ under i k c e (omega arith) y.1)))
              (λ x _. (let r = slot_range k c kb (omega arith) in others ((256 + k) / 2 ^ c) r.0 r.1 x ∙ w.1 c l)),
        );
    not = λ e h l z. omega (arith, some, (z i ib refl).1 (8 - d) (omega arith));
    links = λ j b e. sym (links j b) ∙ e;
    same = λ j b e _. links j b ∙ e;
  }

-- ---- cell i gets a link

module _ (f₀ g₀ f g : ℕ → ℕ) (i : ℕ) (ib : i < 256)
    (slots : (r : ℕ) → 1 ≤ r → r < 512 → f r ≡ f₀ r)
    (none : g₀ i ≡ 0) (some : 1 ≤ g i)
    (others : (j : ℕ) → j < 256 → j ≢ i → g j ≡ g₀ j) where
  pub link_taken : Taken f₀ g₀ f g i 9
  link_taken = record {
    cell = ib;
    depth = omega arith;
    to = λ j e b h z k kb q.
        let w = z k kb q in (
          free k kb w.0,
          λ c l. (let r = slot_range k c kb (omega arith) in sym (slots ((256 + k) / 2 ^ c) r.0 r.1) ∙ w.1 c l),
        );
    from = λ j e b h z n k kb q.
        let w = z k kb q in (
          same k i (λ x _. absurd (n (omega arith) (sym q ∙ ap (λ (y : ℕ). y / 2 ^ e) x))) (λ x _. others k kb x ∙ w.0),
          λ c l. (let r = slot_range k c kb (omega arith) in slots ((256 + k) / 2 ^ c) r.0 r.1 ∙ w.1 c l),
        );
    not = λ e h l z. omega (arith, some, (z i ib refl).0);
    links = free;
    same = λ j b e n. others j b (n refl) ∙ e;
  }
    where
      free : (k : ℕ) → k < 256 → g k ≡ 0 → g₀ k ≡ 0
      free k kb e = same k i (λ x _. rw x none) (λ x _. sym (others k kb x) ∙ e)
