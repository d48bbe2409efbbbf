-- The index of a byte by the set bits of a mask alone, the lowest first: r holds the bits so far, p is the place of the next one,
-- and `left` is what is left of the mask. Assumes nothing.
--
--     mask 00110000   byte 01111000      left 00110000   r 0     p 1
--                                        left 00100000   r 1     p 2
--                                        left 00000000   r 11    p 4
use Rattle.std.specs.Prelude.{◌≡◌, cond, ℕ, zero, suc, ◌+◌, ◌-◌, ◌*◌, ◌/◌, ◌%◌, ◌^◌, ◌≤◌, ◌<◌, eqb}
use Rattle.std.proofs.Common.{sym, ap, ◌∙◌, arith, pow_mono, ne_eqb}
use Rattle.std.proofs.Math.Nat.{pow-succ'}
use Rattle.std.specs.Int.Bits.{bit_and, bit_xor, and_step, xor_step, and_self, xor_self}
use Rattle.std.proofs.lemmas.Nat.{and_mask, and_le_r, ones-le}
use Rattle.std.specs.Int.Count.{ones}
use Rattle.logic.specs.Cases.{same}
use Rattle.masks.specs.Index.{gather, index, gather_lt, index-full, half_lt, ones_even, ones_odd}
use Rattle.masks.specs.Mask.{ones_255}

-- a mask without its lowest set bit, and that bit
abbrev pub rest : ℕ → ℕ
rest m = bit_and m (m - 1)

abbrev pub lowest : ℕ → ℕ
lowest m = bit_xor m (rest m)

-- what the bit b of a byte adds at place p
abbrev pub placed : ℕ → ℕ → ℕ → ℕ
placed y b p = cond (eqb (bit_and y b) 0) 0 p

-- ---- by cases on the mask's lowest place

rest_odd : (m : ℕ) → m % 2 ≡ 1 → rest m ≡ m - 1
rest_odd m q =
    let h : (m - 1) / 2 ≡ m / 2 = omega arith in
    let s : rest m ≡ bit_and (m / 2) (m / 2) * 2 + 0 = and_step m (m - 1) ∙ rw (h, q) (omega arith) in
    s ∙ rw (and_self (m / 2)) (omega arith)

lowest_odd : (m : ℕ) → m % 2 ≡ 1 → lowest m ≡ 1
lowest_odd m q =
    let h : (m - 1) / 2 ≡ m / 2 = omega arith in
    let z : (m - 1) % 2 ≡ 0 = omega arith in
    rw (rest_odd m q) (xor_step m (m - 1) ∙ rw (h, z, q, xor_self (m / 2)) (omega arith))

module _ (m : ℕ) (some : 1 ≤ m) (q : m % 2 ≡ 0) where
  rest_even : rest m ≡ rest (m / 2) * 2
  rest_even =
      let h : (m - 1) / 2 ≡ m / 2 - 1 = omega arith in
      and_step m (m - 1) ∙ rw (h, q) (omega arith)

  lowest_even : lowest m ≡ lowest (m / 2) * 2
  lowest_even =
      let h : rest m / 2 ≡ rest (m / 2) = omega (arith, rest_even) in
      let z : rest m % 2 ≡ 0 = omega (arith, rest_even) in
      xor_step m (rest m) ∙ rw (h, z, q) (omega arith)

-- a bit of a byte's half is the next bit of the byte
placed_even : (y b p : ℕ) → placed y (b * 2) p ≡ placed (y / 2) b p
placed_even y b p =
    let h : b * 2 / 2 ≡ b = omega arith in
    let z : b * 2 % 2 ≡ 0 = omega arith in
    let s : bit_and y (b * 2) ≡ bit_and (y / 2) b * 2 = and_step y (b * 2) ∙ rw (h, z) (omega arith) in
    same (bit_and (y / 2) b) 0
    (λ e d. rw (s, e))
    (λ n d. rw (s, d, ne_eqb (bit_and (y / 2) b * 2) 0 (λ w. omega arith)))

placed_odd : (y : ℕ) → placed y 1 1 ≡ y % 2
placed_odd y =
    let s : bit_and y 1 ≡ y % 2 = and_mask y 1 in
    same (y % 2) 0 (λ e d. rw (s, d) (sym e)) (λ n d. rw (s, d) (omega arith))

placed_times : (y b p : ℕ) → placed y b p ≡ p * placed y b 1
placed_times y b p = same (bit_and y b) 0 (λ e d. rw d (omega arith)) (λ n d. rw d (omega arith))

-- ---- one set bit

pub rest_lt : (m : ℕ) → 1 ≤ m → rest m < m
rest_lt m h = omega (arith, and_le_r m (m - 1))

ones_rest : (k m : ℕ) → 1 ≤ m → m < 2 ^ k → ones m ≡ suc (ones (rest m))
ones_rest zero m h l = absurd (omega arith)
ones_rest (suc k) m h l =
    same (m % 2) 0
    (λ q e.
    let i = ones_rest k (m / 2) (omega arith) (half_lt k m l) in
    let r = rest_even m h q in
    let b : rest m / 2 ≡ rest (m / 2) = omega arith in
    ones_even m q ∙ i ∙ ap suc (sym (ones_even (rest m) (omega arith) ∙ ap ones b)))
    (λ q e.
    let r = rest_odd m (omega arith) in
    let b : rest m / 2 ≡ m / 2 = omega arith in
    ones_odd m (omega arith) ∙ ap suc (sym (ones_even (rest m) (omega arith) ∙ ap ones b)))

gather_rest : (k m y : ℕ) → 1 ≤ m → m < 2 ^ k → gather k m y ≡ gather k (rest m) y * 2 + placed y (lowest m) 1
unfolding gather
gather_rest zero m y h l = absurd (omega arith)
gather_rest (suc k) m y h l =
    same (m % 2) 0
    (λ q e.
    let r = rest_even m h q in
    let b : rest m / 2 ≡ rest (m / 2) = omega arith in
    let z : rest m % 2 ≡ 0 = omega arith in
    rw (e, z, b, lowest_even m h q, placed_even y (lowest (m / 2)) 1)
    (gather_rest k (m / 2) (y / 2) (omega arith) (half_lt k m l)))
    (λ q e.
    let r = rest_odd m (omega arith) in
    let b : rest m / 2 ≡ m / 2 = omega arith in
    let z : rest m % 2 ≡ 0 = omega arith in
    rw (e, z, b, lowest_odd m (omega arith), placed_odd y))

-- ---- the mask of all bits

pub index_whole : (m y : ℕ) → m ≡ 255 → y < 256 → (y ≡ index m y) × (y < 2 ^ ones m) × (y < 256)
index_whole m y e h = rw (e, ones_255) (sym (index-full y h), h, h)

-- ---- the loop

pub record Stepped (m y left r p : ℕ) : Type 0 where
  pub fit : left < 256
  pub fewer : ones left ≤ ones m
  pub place : p ≡ 2 ^ (ones m - ones left)
  pub less : r < p
  pub whole : r + p * index left y ≡ index m y

pub stepped_start : (m y : ℕ) → m < 256 → Stepped m y m 0 1
stepped_start m y h =
    let z : ones m - ones m ≡ 0 = omega arith in
    record { fit = h; fewer = omega arith; place = rw z; less = omega arith; whole = omega arith }

module _ (m y left r p : ℕ) (s : Stepped m y left r p) where
  pub place-small : m < 256 → p ≤ 256
  place-small h = rw s.place (pow_mono {i = ones m - ones left} {j = 8} (omega (arith, ones-le 8 m h)))

  pub stepped_more : 1 ≤ left → Stepped m y (rest left) (r + placed y (lowest left) p) (p * 2)
  stepped_more h =
      let o = ones_rest 8 left h s.fit in
      let e : ones m - ones (rest left) ≡ suc (ones m - ones left) = omega (arith, s.fewer) in
      let t = placed_times y (lowest left) p in
      let g = gather_rest 8 left y h s.fit in
      let b = bound (bit_and y (lowest left)) p in
      record {
        fit = omega (arith, rest_lt left h, s.fit);
        fewer = omega (arith, s.fewer);
        place = rw (e, pow-succ' 2 (ones m - ones left)) (omega (arith, s.place));
        less = omega (arith, s.less);
        whole = step p (index (rest left) y) (placed y (lowest left) 1) (placed y (lowest left) p) (index left y) t g ∙ s.whole;
      }
    where
      bound : (x p : ℕ) → cond (eqb x 0) 0 p ≤ p
      bound x p = same x 0 (λ q e. rw e (omega arith)) (λ q e. rw e (omega arith))

      step : (p g d e f : ℕ) → e ≡ p * d → f ≡ g * 2 + d → r + e + p * 2 * g ≡ r + p * f
      step p g d e f a b = rw (a, b) (omega arith)

  -- nothing is left
  pub stepped_end : m < 256 → left ≡ 0 → (r ≡ index m y) × (r < 2 ^ ones m) × (r < 256)
  stepped_end h z =
      let g : index left y < 2 ^ ones left = gather_lt 8 left y s.fit in
      let e : ones left ≡ 0 = omega (arith, ones-le 0 left (omega arith)) in
      let i : index left y ≡ 0 = below (ones left) e g in
      let w : r ≡ index m y = none p (index left y) i ∙ s.whole in
      (w, rw w (gather_lt 8 m y h), omega (arith, s.less, place-small h))
    where
      below : (n : ℕ) → n ≡ 0 → {i : ℕ} → i < 2 ^ n → i ≡ 0
      below n q l = let k = rw q at l in omega arith

      none : (p i : ℕ) → i ≡ 0 → r ≡ r + p * i
      none p i q = rw q (omega arith)
