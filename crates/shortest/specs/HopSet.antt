-- Sets of hops as numbers: hop h is bit h - 1, and hop 0 is in no set. Assumes nothing.
--
--     the set of the hops 2 and 3 is 6; its lowest hop is 2
use Rattle.std.specs.Prelude.{◌≡◌, refl, Bool, true, false, ◌&&◌, ◌||◌, ℕ, zero, suc, ◌-◌, ◌/◌, ◌%◌, ◌^◌, ◌≤◌, ◌<◌, min, max, eqb}
use Rattle.std.proofs.Common.{sym, ap, ◌∙◌, arith, pow_pos, pow_mono, eq-eqb, ne_eqb}
use Rattle.std.proofs.lemmas.Bool.{false≢true}
use Rattle.std.proofs.Math.Nat.{pow-succ', div-div-eq-div-mul}
use Rattle.std.specs.Int.Bits.{bit_and, bit_or, and_step, or_step}
use Rattle.std.specs.Int.Count.{count_trailing_zeros}
use Rattle.logic.specs.Cases.{same}

-- bit k of m
unfoldable pub bit : ℕ → ℕ → Bool
bit m zero = eqb (m % 2) 1
bit m (suc k) = bit (m / 2) k

-- hop h is in the set m
unfoldable pub has : ℕ → ℕ → Bool
has m zero = false
has m (suc k) = bit m k

-- the set of the hop h
abbrev pub only : ℕ → ℕ
only h = 2 ^ (h - 1)

-- the lowest hop of a set of hops up to N
abbrev pub lowest : ℕ → ℕ → ℕ
lowest N m = suc (count_trailing_zeros N m)

-- ---- both, either, none

-- a bit is set or not
bit_case : {P : Type 0} (x : ℕ) → (x % 2 ≡ 1 → P) → (x % 2 ≡ 0 → P) → P
bit_case x y z = same (x % 2) 1 (λ e _. y e) (λ n _. z (omega arith))

digit_min : (x y : ℕ) → eqb (min (x % 2) (y % 2)) 1 ≡ (eqb (x % 2) 1 && eqb (y % 2) 1)
digit_min x y =
    bit_case x
    (λ e. bit_case y (λ d. rw (e, d)) (λ d. rw (e, d)))
    (λ e. bit_case y (λ d. rw (e, d)) (λ d. rw (e, d)))

digit_max : (x y : ℕ) → eqb (max (x % 2) (y % 2)) 1 ≡ (eqb (x % 2) 1 || eqb (y % 2) 1)
digit_max x y =
    bit_case x
    (λ e. bit_case y (λ d. rw (e, d)) (λ d. rw (e, d)))
    (λ e. bit_case y (λ d. rw (e, d)) (λ d. rw (e, d)))

and_half : (x y : ℕ) → bit_and x y / 2 ≡ bit_and (x / 2) (y / 2)
and_half x y = omega (arith, and_step x y)

and_odd : (x y : ℕ) → bit_and x y % 2 ≡ min (x % 2) (y % 2)
and_odd x y = omega (arith, and_step x y)

or_half : (x y : ℕ) → bit_or x y / 2 ≡ bit_or (x / 2) (y / 2)
or_half x y = omega (arith, or_step x y)

or_odd : (x y : ℕ) → bit_or x y % 2 ≡ max (x % 2) (y % 2)
or_odd x y = omega (arith, or_step x y)

bit-and : (k x y : ℕ) → bit (bit_and x y) k ≡ (bit x k && bit y k)
unfolding bit
bit-and zero x y = ap (λ (z : ℕ). eqb z 1) (and_odd x y) ∙ digit_min x y
bit-and (suc k) x y = ap (λ (z : ℕ). bit z k) (and_half x y) ∙ bit-and k (x / 2) (y / 2)

bit-or : (k x y : ℕ) → bit (bit_or x y) k ≡ (bit x k || bit y k)
unfolding bit
bit-or zero x y = ap (λ (z : ℕ). eqb z 1) (or_odd x y) ∙ digit_max x y
bit-or (suc k) x y = ap (λ (z : ℕ). bit z k) (or_half x y) ∙ bit-or k (x / 2) (y / 2)

bit_none : (k : ℕ) → bit 0 k ≡ false
unfolding bit
bit_none zero = refl
bit_none (suc k) = bit_none k

pub has_and : (x y h : ℕ) → has (bit_and x y) h ≡ (has x h && has y h)
unfolding has
has_and x y zero = refl
has_and x y (suc k) = bit-and k x y

pub has_or : (x y h : ℕ) → has (bit_or x y) h ≡ (has x h || has y h)
unfolding has
has_or x y zero = refl
has_or x y (suc k) = bit-or k x y

pub has_none : (h : ℕ) → has 0 h ≡ false
unfolding has
has_none zero = refl
has_none (suc k) = bit_none k

pub has_zero : (m : ℕ) → has m 0 ≡ false
unfolding has
has_zero m = refl

-- the bit as the code tests it
pub bit_shr : (k m : ℕ) → bit m k ≡ eqb (m / 2 ^ k % 2) 1
unfolding bit
bit_shr zero m = let e : m / 1 ≡ m = omega arith in rw e
bit_shr (suc k) m =
    bit_shr k (m / 2)
    ∙ ap (λ (z : ℕ). eqb (z % 2) 1) (div-div-eq-div-mul m 2 (2 ^ k) ∙ ap (λ (z : ℕ). m / z) (sym (pow-succ' 2 k)))

pub has_shr : (m h : ℕ) → 1 ≤ h → has m h ≡ eqb (m / 2 ^ (h - 1) % 2) 1
unfolding has
has_shr m zero p = absurd (omega arith)
has_shr m (suc k) p = let e : suc k - 1 ≡ k = omega arith in rw e (bit_shr k m)

-- ---- one hop

eqb_suc : (j k : ℕ) → eqb j k ≡ eqb (suc j) (suc k)
eqb_suc j k =
    same j k
    (λ q t. t ∙ sym (eq-eqb (suc j) (suc k) (omega arith)))
    (λ n t. t ∙ sym (ne_eqb (suc j) (suc k) (λ z. n (omega arith))))

bit-only : (j k : ℕ) → bit (2 ^ j) k ≡ eqb j k
unfolding bit
bit-only zero zero = refl
bit-only zero (suc k) = bit_none k ∙ sym (ne_eqb 0 (suc k) (λ e. omega arith))
bit-only (suc j) zero = let e : 2 ^ suc j % 2 ≡ 0 = omega arith in rw e (sym (ne_eqb (suc j) 0 (λ e. omega arith)))
bit-only (suc j) (suc k) = let e : 2 ^ suc j / 2 ≡ 2 ^ j = omega arith in rw e (bit-only j k ∙ eqb_suc j k)

pub has-only : (h k : ℕ) → 1 ≤ h → has (only h) k ≡ eqb h k
unfolding has
has-only zero k p = absurd (omega arith)
has-only (suc h) zero p = sym (ne_eqb (suc h) 0 (λ e. omega arith))
has-only (suc h) (suc k) p =
    let e : suc h - 1 ≡ h = omega arith in
    rw e (bit-only h k ∙ eqb_suc h k)

pub only_lt : (N h : ℕ) → 1 ≤ h → h ≤ N → only h < 2 ^ N
only_lt N zero p q = absurd (omega arith)
only_lt N (suc h) p q = let e : suc h - 1 ≡ h = omega arith in rw e (omega (arith, pow_pos h, pow_mono {i = suc h} {j = N} q))

pub only_pos : (h : ℕ) → 0 < only h
only_pos h = pow_pos (h - 1)

-- ---- the lowest hop

bit-low : (N m : ℕ) → 0 < m → m < 2 ^ N → bit m (count_trailing_zeros N m) ≡ true
unfolding bit count_trailing_zeros
bit-low zero m p q = absurd (omega arith)
bit-low (suc N) m p q =
    same (m % 2) 1
    (λ e t. rw e t)
    (λ n t. (let z : m % 2 ≡ 0 = omega arith in rw z (bit-low N (m / 2) (omega arith) (omega arith))))

pub has-low : (N m : ℕ) → 0 < m → m < 2 ^ N → has m (lowest N m) ≡ true
unfolding has
has-low N m p q = bit-low N m p q

bit_bound : (N m k : ℕ) → m < 2 ^ N → bit m k ≡ true → k < N
unfolding bit
bit_bound zero m k q e = let z : m ≡ 0 = omega arith in absurd (false≢true (sym (bit_none k) ∙ (rw z at e)))
bit_bound (suc N) m zero q e = omega arith
bit_bound (suc N) m (suc k) q e = omega (arith, bit_bound N (m / 2) k (omega arith) e)

pub has_bound : (N m h : ℕ) → m < 2 ^ N → has m h ≡ true → (1 ≤ h) × (h ≤ N)
unfolding has
has_bound N m zero q e = absurd (false≢true e)
has_bound N m (suc k) q e = (omega arith, bit_bound N m k q e)
