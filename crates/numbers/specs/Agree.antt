-- How many leading bits of two addresses of W bits are equal: as many as their exclusive or has leading zeros. The law of it: the
-- first l bits agree exactly where l is at most that number. Assumes nothing.
--
--     10.1.4.0     00001010 00000001 00000100 00000000
--     10.1.6.0     00001010 00000001 00000110 00000000      agreement 22
use Rattle.std.specs.Prelude.{◌≡◌, ◌≢◌, false, not, ℕ, suc, ◌+◌, ◌-◌, ◌*◌, ◌/◌, ◌%◌, ◌^◌, ◌≤◌, ◌<◌, leb, eqb}
use Rattle.std.proofs.Common.{sym, ap, ◌∙◌, div-lt_iff_lt-mul, mod-lt, div-add-mod', arith, pow_pos, pow_mono, eq-eqb, ne_eqb}
use Rattle.std.proofs.Math.Nat.{pow-succ', zero-mod}
use Rattle.std.proofs.Math.Arith.{lt-one, digits_div}
use Rattle.std.specs.Int.Bits.{bit_xor, xor_add_and, xor_self}
use Rattle.std.proofs.lemmas.Nat.{and_le_l, and_le_r, xor_shr, xor_lt, leading_length, leading_le}
use Rattle.std.specs.Int.Count.{count_leading_zeros}
use Rattle.logic.specs.Cases.{same, most}

abbrev pub agreement : ℕ → ℕ → ℕ → ℕ
agreement W a b = count_leading_zeros W (bit_xor a b)

-- ---- an exclusive or that is 0, whole or in its high part

xor_zero : (a b : ℕ) → bit_xor a b ≡ 0 → a ≡ b
xor_zero a b e =
    omega (arith, e, xor_add_and a b, and_le_l a b, and_le_r a b)

small : (n k : ℕ) → n < 2 ^ k → n / 2 ^ k ≡ 0
small n k h = lt-one ((div-lt_iff_lt-mul (pow_pos k)).1 (omega arith))

low : (n k : ℕ) → n / 2 ^ k ≡ 0 → n < 2 ^ k
low n k e = let h : n < 1 * 2 ^ k = (div-lt_iff_lt-mul (pow_pos k)).0 (omega arith) in omega arith

-- two numbers are equal above their k low bits exactly where the exclusive or is below 2 ^ k
above_to : (a b k : ℕ) → a / 2 ^ k ≡ b / 2 ^ k → bit_xor a b < 2 ^ k
above_to a b k e = low (bit_xor a b) k (xor_shr a b k ∙ ap (λ (x : ℕ). bit_xor x (b / 2 ^ k)) e ∙ xor_self (b / 2 ^ k))

above_from : (a b k : ℕ) → bit_xor a b < 2 ^ k → a / 2 ^ k ≡ b / 2 ^ k
above_from a b k h = xor_zero (a / 2 ^ k) (b / 2 ^ k) (sym (xor_shr a b k) ∙ small (bit_xor a b) k h)

-- ---- the law

-- no wider than the addresses
pub agreement_le : (W a b : ℕ) → agreement W a b ≤ W
agreement_le W a b = leading_le W (bit_xor a b)

module _ (W a b l : ℕ) (ha : a < 2 ^ W) (hb : b < 2 ^ W) (top : l ≤ W) where
  zeros : (m : ℕ) × (agreement W a b + m ≡ W) × (bit_xor a b < 2 ^ m) × (2 ^ m ≤ 2 * bit_xor a b + 1)
  zeros = leading_length W (bit_xor a b) (xor_lt W a b ha hb)

  pub agree_from : a / 2 ^ (W - l) ≡ b / 2 ^ (W - l) → l ≤ agreement W a b
  agree_from e =
      let below = above_to a b (W - l) e in
      most zeros.0 (W - l) (λ q _. omega (arith, zeros.1))
      (λ q _. absurd (omega (arith, zeros.3, pow_mono {i = suc (W - l)} {j = zeros.0} q, pow-succ' 2 (W - l))))

  pub agree_to : l ≤ agreement W a b → a / 2 ^ (W - l) ≡ b / 2 ^ (W - l)
  agree_to e =
      above_from a b (W - l)
      (omega (arith, zeros.2, pow_mono {i = zeros.0} {j = W - l} (omega (arith, zeros.1))))

  -- as the test that code makes
  pub agrees : leb l (agreement W a b) ≡ eqb (a / 2 ^ (W - l)) (b / 2 ^ (W - l))
  agrees =
      let x = a / 2 ^ (W - l) in
      let y = b / 2 ^ (W - l) in
      most l (agreement W a b) (λ q e. e ∙ sym (eq-eqb x y (agree_to q)))
      (λ q e. e ∙ sym (ne_eqb x y (λ z. omega (arith, agree_from z))))

-- ---- the bits after a length: an address and the one before it first differ at the lowest set bit

before : (a p : ℕ) → 0 < p → a % p ≢ 0 → a / p ≡ (a - 1) / p
before a p h n =
    let s = div-add-mod' a p in
    let b : a % p - 1 < p = omega (arith, mod-lt a h) in
    let e : a - 1 ≡ a / p * p + (a % p - 1) = omega arith in
    sym (rw e (digits_div (a / p) b))

at_start : (a p : ℕ) → 0 < p → 1 ≤ a → a % p ≡ 0 → a / p ≡ (a - 1) / p → ⊥
at_start a p h o z e =
    let s = div-add-mod' a p in
    let b : (a - 1) / p < a / p = (div-lt_iff_lt-mul h).1 (omega arith) in
    omega arith

pub stray_zero : (W l : ℕ) → false ≡ not (eqb (0 % 2 ^ (W - l)) 0)
stray_zero W l = let e : 0 % 2 ^ (W - l) ≡ 0 = zero-mod (2 ^ (W - l)) in rw e

pub stray_some : (W a l : ℕ) → 1 ≤ a → a < 2 ^ W → l ≤ W → leb l (agreement W a (a - 1)) ≡ not (eqb (a % 2 ^ (W - l)) 0)
stray_some W a l o ha h =
    let p = 2 ^ (W - l) in
    agrees W a (a - 1) l ha (omega arith) h
    ∙ same (a % p) 0 (λ q e. rw e (ne_eqb (a / p) ((a - 1) / p) (at_start a p (pow_pos (W - l)) o q)))
    (λ n e. rw e (eq-eqb (a / p) ((a - 1) / p) (before a p (pow_pos (W - l)) n)))
