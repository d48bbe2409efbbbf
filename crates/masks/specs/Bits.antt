-- The bits of a number, lowest first: what and, or and exclusive or do to each, and that they tell the number. Assumes nothing.
--
--     n = 01100000      bit n 5 = bit n 6 = 1, the others are 0
use Rattle.std.specs.Prelude.{◌≡◌, refl, true, cond, ℕ, zero, suc, ◌+◌, ◌-◌, ◌/◌, ◌%◌, ◌^◌, ◌≤◌, ◌<◌, min, max, leb, eqb}
use Rattle.std.proofs.Common.{sym, ◌∙◌, arith, shr-shr, eqb-true}
use Rattle.std.proofs.Math.Nat.{pow-succ'}
use Rattle.std.proofs.Math.Arith.{digits_mod, lt-one}
use Rattle.std.specs.Int.Bits.{bit_and, bit_xor, bit_or, differ, and_step, xor_step, or_step}
use Rattle.std.proofs.lemmas.Nat.{and_shr, xor_shr, or_shr, and_le_r}
use Rattle.logic.specs.Every.{all_b}
use Rattle.logic.specs.Reflects.{all_to_lem}

unfoldable pub bit : ℕ → ℕ → ℕ
bit n i = n / 2 ^ i % 2

pub bit_lt : (n i : ℕ) → bit n i < 2
unfolding bit
bit_lt n i = omega arith

-- ---- and, or, exclusive or

pub and_bit : (a b i : ℕ) → bit (bit_and a b) i ≡ min (bit a i) (bit b i)
unfolding bit
and_bit a b i =
    let h : min (a / 2 ^ i % 2) (b / 2 ^ i % 2) < 2 = omega arith in
    rw (and_shr a b i, and_step (a / 2 ^ i) (b / 2 ^ i)) (digits_mod (bit_and (a / 2 ^ i / 2) (b / 2 ^ i / 2)) h)

pub or_bit : (a b i : ℕ) → bit (bit_or a b) i ≡ max (bit a i) (bit b i)
unfolding bit
or_bit a b i =
    let h : max (a / 2 ^ i % 2) (b / 2 ^ i % 2) < 2 = omega arith in
    rw (or_shr a b i, or_step (a / 2 ^ i) (b / 2 ^ i)) (digits_mod (bit_or (a / 2 ^ i / 2) (b / 2 ^ i / 2)) h)

differ_lt : (x y : ℕ) → x < 2 → y < 2 → differ x y < 2
differ_lt zero y h k = k
differ_lt (suc x) zero h k = h
differ_lt (suc x) (suc y) h k = differ_lt x y (omega arith) (omega arith)

pub xor_bit : (a b i : ℕ) → bit (bit_xor a b) i ≡ differ (bit a i) (bit b i)
unfolding bit
xor_bit a b i =
    let h = differ_lt (a / 2 ^ i % 2) (b / 2 ^ i % 2) (omega arith) (omega arith) in
    rw (xor_shr a b i, xor_step (a / 2 ^ i) (b / 2 ^ i)) (digits_mod (bit_xor (a / 2 ^ i / 2) (b / 2 ^ i / 2)) h)

pub differ_to : (x y : ℕ) → differ x y ≡ 0 → x ≡ y
differ_to zero y e = sym e
differ_to (suc x) zero e = e
differ_to (suc x) (suc y) e = let q = differ_to x y e in omega arith

pub differ_same : (x : ℕ) → differ x x ≡ 0
differ_same zero = refl
differ_same (suc x) = differ_same x

-- ---- a number is told by its bits

bit_half : (n i : ℕ) → bit (n / 2) i ≡ bit n (suc i)
unfolding bit
bit_half n i = let e : suc i ≡ 1 + i = omega arith in rw (e, ← shr-shr n 1 i)

pub bit_shift : (n e i : ℕ) → bit (n / 2 ^ e) i ≡ bit n (e + i)
unfolding bit
bit_shift n e i = rw (shr-shr n e i)

pub zero_bit : (i : ℕ) → bit 0 i ≡ 0
unfolding bit
zero_bit zero = refl
zero_bit (suc i) = sym (bit_half 0 i) ∙ zero_bit i

pub same_bits : (k a b : ℕ) → a < 2 ^ k → b < 2 ^ k → ((i : ℕ) → i < k → bit a i ≡ bit b i) → a ≡ b
unfolding bit
same_bits zero a b h l f = lt-one h ∙ sym (lt-one l)
same_bits (suc k) a b h l f =
    let p = pow-succ' 2 k in
    let half : a / 2 ≡ b / 2 = same_bits k (a / 2) (b / 2) (omega arith) (omega arith) (λ i q.
    bit_half a i ∙ f (suc i) (omega arith) ∙ sym (bit_half b i)) in
    let low : a / 1 % 2 ≡ b / 1 % 2 = f 0 (omega arith) in
    omega arith

pub no_bits : (k n : ℕ) → n < 2 ^ k → ((i : ℕ) → i < k → bit n i ≡ 0) → n ≡ 0
no_bits k n h f = same_bits k n 0 h (omega (arith, h)) (λ i l. f i l ∙ sym (zero_bit i))

-- ---- all bits of b are bits of m

pub inside_to : (m b i : ℕ) → bit_and m b ≡ b → bit b i ≤ bit m i
inside_to m b i e = let s : bit b i ≡ min (bit m i) (bit b i) = rw e at (and_bit m b i) in omega arith

pub inside_from : (k m b : ℕ) → b < 2 ^ k → ((i : ℕ) → i < k → bit b i ≤ bit m i) → bit_and m b ≡ b
inside_from k m b h f =
    same_bits k (bit_and m b) b (omega (arith, and_le_r m b)) h (λ i l. and_bit m b i ∙ (let q = f i l in omega arith))

-- ---- the high bits of a byte

highs : all_b (λ e. all_b (λ i. eqb (bit (256 - 2 ^ e) i) (cond (leb e i) 1 0)) 8) 9 ≡ true
unfolding all_b bit
highs = refl

pub high_bit : (e i : ℕ) → e ≤ 8 → i < 8 → bit (256 - 2 ^ e) i ≡ cond (leb e i) 1 0
high_bit e i h l =
    let row = all_to_lem (λ e. all_b (λ i. eqb (bit (256 - 2 ^ e) i) (cond (leb e i) 1 0)) 8) 9 highs e (omega arith) in
    eqb-true (bit (256 - 2 ^ e) i) (cond (leb e i) 1 0)
    (all_to_lem (λ i. eqb (bit (256 - 2 ^ e) i) (cond (leb e i) 1 0)) 8 row i l)
