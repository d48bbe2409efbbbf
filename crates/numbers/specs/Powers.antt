-- Powers of 2. Assumes nothing.
use Rattle.std.specs.Prelude.{◌≡◌, ℕ, zero, suc, ◌+◌, ◌-◌, ◌*◌, ◌/◌, ◌^◌, ◌≤◌}
use Rattle.std.proofs.Common.{sym, ap, ◌∙◌, mul_assoc, arith, pow_pos, pow-add}
use Rattle.std.proofs.Math.Nat.{pow-succ', mul-add-div_right}

-- the power before it, twice
pub half : (n : ℕ) → 1 ≤ n → 2 ^ n ≡ 2 * 2 ^ (n - 1)
half zero h = absurd (omega arith)
half (suc n) h = let e : suc n - 1 ≡ n = omega arith in rw e (omega (arith, pow-succ' 2 n))

-- the first e bits of a byte i that stands below q, the other m cut off
pub cut : (q i e m : ℕ) → e + m ≡ 8 → (q * 256 + i) / 2 ^ m ≡ q * 2 ^ e + i / 2 ^ m
cut q i e m h =
    let p : 2 ^ e * 2 ^ m ≡ 256 = sym (pow-add 2 e m) ∙ ap (λ (n : ℕ). 2 ^ n) h in
    let r : q * 256 ≡ q * 2 ^ e * 2 ^ m = ap (λ (n : ℕ). q * n) (sym p) ∙ sym (mul_assoc q (2 ^ e) (2 ^ m)) in
    ap (λ (n : ℕ). (n + i) / 2 ^ m) r ∙ mul-add-div_right (pow_pos m) (q * 2 ^ e) i
