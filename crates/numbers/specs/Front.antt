-- A number of L bytes: its first bytes as a number, the byte behind them, and the first bits of that. Assumes nothing.
--
--     10.1.4.0, L = 4      front 2 = 10.1 = 2561      byte_of 2 = 4, of which the first 6 bits have the value 1
use Rattle.std.specs.Prelude.{◌≡◌, ℕ, suc, ◌+◌, ◌-◌, ◌*◌, ◌/◌, ◌%◌, ◌^◌, ◌≤◌, ◌<◌}
use Rattle.std.proofs.Common.{sym, ap, ap₂, ◌∙◌, mod-lt, arith, pow_pos, shr-shr, shr_lt}
use Rattle.std.proofs.Math.Pow.{split, field}

-- the first 8 * i bits
abbrev pub front : ℕ → ℕ → ℕ → ℕ
front L a i = a / 2 ^ (8 * L - 8 * i)

-- the byte behind them
abbrev pub byte_of : ℕ → ℕ → ℕ → ℕ
byte_of L a i = a / 2 ^ (8 * L - 8 - 8 * i) % 256

-- its first d bits
abbrev pub value : ℕ → ℕ → ℕ → ℕ → ℕ
value L a k d = byte_of L a k / 2 ^ (8 - d)

pub byte_lt : (L a i : ℕ) → byte_of L a i < 256
byte_lt L a i = omega arith

pub front_more : (L a i : ℕ) → i < L → front L a (suc i) ≡ front L a i * 256 + byte_of L a i
front_more L a i h =
    let s = 8 * L - 8 - 8 * i in
    let e : 8 * L - 8 * suc i ≡ s = omega arith in
    let f : s + 8 ≡ 8 * L - 8 * i = omega arith in
    ap (λ (n : ℕ). a / 2 ^ n) e ∙ sym (split (a / 2 ^ s) 8)
    ∙ ap (λ (x : ℕ). x * 256 + byte_of L a i) (shr-shr a s 8 ∙ ap (λ (n : ℕ). a / 2 ^ n) f)

pub front-up : (L a m j k : ℕ) → m + j ≡ k → k ≤ L → front L a k / 2 ^ (8 * m) ≡ front L a j
front-up L a m j k e h =
    let d : 8 * L - 8 * k + 8 * m ≡ 8 * L - 8 * j = omega arith in
    shr-shr a (8 * L - 8 * k) (8 * m) ∙ ap (λ (n : ℕ). a / 2 ^ n) d

pub front_lt : (L a k : ℕ) → k ≤ L → a < 2 ^ (8 * L) → front L a k < 2 ^ (8 * k)
front_lt L a k h b = let e : 8 * k + (8 * L - 8 * k) ≡ 8 * L = omega arith in shr_lt (8 * k) (8 * L - 8 * k) (rw e b)

-- ---- a prefix of length 8 * k + d: the front, then d bits

module _ (L a k d : ℕ) (top : k < L) (deep : d ≤ 8) where
  value_bits : value L a k d ≡ a / 2 ^ (8 * L - (8 * k + d)) % 2 ^ d
  value_bits =
      let s = 8 * L - 8 - 8 * k in
      let e : d + (8 - d) ≡ 8 = omega arith in
      let f : s + (8 - d) ≡ 8 * L - (8 * k + d) = omega arith in
      ap (λ (n : ℕ). a / 2 ^ s % 2 ^ n / 2 ^ (8 - d)) (sym e) ∙ field (a / 2 ^ s) d (8 - d)
      ∙ ap (λ (x : ℕ). x % 2 ^ d) (shr-shr a s (8 - d) ∙ ap (λ (n : ℕ). a / 2 ^ n) f)

  pub value_lt : value L a k d < 2 ^ d
  value_lt = rw value_bits (mod-lt (a / 2 ^ (8 * L - (8 * k + d))) (pow_pos d))

  prefix_split : a / 2 ^ (8 * L - (8 * k + d)) ≡ front L a k * 2 ^ d + value L a k d
  prefix_split =
      let s = 8 * L - (8 * k + d) in
      let e : s + d ≡ 8 * L - 8 * k = omega arith in
      sym (split (a / 2 ^ s) d) ∙ ap₂ (λ (x y : ℕ). x * 2 ^ d + y) (shr-shr a s d ∙ ap (λ (n : ℕ). a / 2 ^ n) e) (sym value_bits)

  -- with zeros behind it, it is the address
  pub prefix_whole : a % 2 ^ (8 * L - (8 * k + d)) ≡ 0 → (front L a k * 2 ^ d + value L a k d) * 2 ^ (8 * L - (8 * k + d)) ≡ a
  prefix_whole z =
      let s = 8 * L - (8 * k + d) in
      ap (λ (x : ℕ). x * 2 ^ s) (sym prefix_split) ∙ omega (arith, split a s)
