-- The number that bytes write down, the high one first, for any number of bytes. Assumes nothing.
--
--     10.1.4.0      number = 10 * 2 ^ 24 + 1 * 2 ^ 16 + 4 * 2 ^ 8 + 0
use Rattle.std.specs.Prelude.{◌≡◌, List, [], ◌∷◌, ◌++◌, ℕ, suc, ◌+◌, ◌*◌, ◌^◌, ◌≤◌, ◌<◌, length, get_or, take}
use Rattle.std.specs.Prelude.{drop}
use Rattle.std.proofs.Common.{sym, ap, ◌∙◌, arith, add-mul, mul_assoc, add_assoc, zero-mul, one-mul, mul-le-mul_right}
use Rattle.std.proofs.Common.{add-one, length-append, drop_of_length-le, drop-cons}
use Rattle.std.proofs.Common.{pow-add, pow_pos}
use Rattle.std.proofs.Math.Arith.{digits_lt}

abbrev pub AreBytes : List ℕ → Type 0
AreBytes bs = (i : ℕ) → get_or bs i 0 < 256

unfoldable pub number : List ℕ → ℕ
number [] = 0
number (b ∷ bs) = b * 2 ^ (8 * length bs) + number bs

-- that of the n bytes from a place on
abbrev pub number_at : ℕ → List ℕ → ℕ → ℕ
number_at n bs i = number (take n (drop i bs))

-- 256 more
pub pow_byte : (n : ℕ) → 256 * 2 ^ (8 * n) ≡ 2 ^ (8 * suc n)
pow_byte n = let e : 8 + 8 * n ≡ 8 * suc n = omega arith in sym (pow-add 2 8 (8 * n)) ∙ ap (λ (k : ℕ). 2 ^ k) e

pub number_lt : (bs : List ℕ) → AreBytes bs → number bs < 2 ^ (8 * length bs)
unfolding number
number_lt [] h = omega arith
number_lt (b ∷ bs) h = rw (← pow_byte (length bs)) (digits_lt (h 0) (number_lt bs (λ i. h (suc i))))

-- two runs of bytes one after the other
pub number_append : (xs ys : List ℕ) → number (xs ++ ys) ≡ number xs * 2 ^ (8 * length ys) + number ys
unfolding number
number_append [] ys = omega arith
number_append (x ∷ xs) ys =
    let m = length xs in
    let n = length ys in
    let e : 8 * length (xs ++ ys) ≡ 8 * m + 8 * n = omega (arith, length-append xs ys) in
    let p : 2 ^ (8 * length (xs ++ ys)) ≡ 2 ^ (8 * m) * 2 ^ (8 * n) = ap (λ (k : ℕ). 2 ^ k) e ∙ pow-add 2 (8 * m) (8 * n) in
    rw (p, number_append xs ys, add-mul, ← mul_assoc, add_assoc)

-- ---- zeros behind a place

-- a byte that is not 0 makes the number so
pub number_some : (bs : List ℕ) (k : ℕ) → k < length bs → 1 ≤ get_or bs k 0 → 1 ≤ number (drop k bs)
unfolding number
number_some bs k h n =
    let m = length (drop (suc k) bs) in
    rw (drop-cons bs k 0 h)
    (let z : 2 ^ (8 * m) ≤ get_or bs k 0 * 2 ^ (8 * m) = rw (one-mul (2 ^ (8 * m))) at (mul-le-mul_right (2 ^ (8 * m)) n) in
    omega (arith, pow_pos (8 * m)))

-- one that is 0 may be passed
pub number_pass : (bs : List ℕ) (k : ℕ) → k < length bs → get_or bs k 0 ≡ 0 → number (drop (k + 1) bs) ≡ number (drop k bs)
unfolding number
number_pass bs k h e =
    let p = 2 ^ (8 * length (drop (suc k) bs)) in
    rw (add-one k) (sym (ap number (drop-cons bs k 0 h) ∙ omega (arith, zero-mul p, ap (λ (b : ℕ). b * p) e)))

pub number_end : (bs : List ℕ) (k : ℕ) → length bs ≤ k → number (drop k bs) ≡ 0
unfolding number
number_end bs k h = ap number (drop_of_length-le bs h)

-- ---- one byte changed
