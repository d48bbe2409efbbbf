-- A slot and its ancestors in one array. Assumes nothing.
--
--     slot 19 = 2^4 + 3, then 9, 4, 2, 1
use Rattle.std.specs.Prelude.{◌≡◌, ℕ, zero, suc, ◌+◌, ◌*◌, ◌/◌, ◌^◌, ◌<◌, ◌≤◌, cond, ◌≢◌, ◌⊎◌, ◌==◌, refl}
use Rattle.std.proofs.Common.{◌∙◌, inl, inr, arith, eq-eqb, ne_eqb}
use Rattle.std.proofs.Math.Nat.{pow-succ'}
use Rattle.logic.specs.Cases.{same}

-- 1 where two numbers are one
unfoldable pub is : ℕ → ℕ → ℕ
is a b = cond (a == b) 1 0

pub is_same : (a b : ℕ) → a ≡ b → is a b ≡ 1
unfolding is
is_same a b e = rw (eq-eqb a b e)

pub is_other : (a b : ℕ) → a ≢ b → is a b ≡ 0
unfolding is
is_other a b n = rw (ne_eqb a b n)

-- 1 where s is r, r / 2, .. of n numbers
unfoldable pub above : ℕ → ℕ → ℕ → ℕ
above zero r s = 0
above (suc n) r s = cond (r == s) 1 (above n (r / 2) s)

pub above_zero : (r s : ℕ) → above 0 r s ≡ 0
unfolding above
above_zero r s = refl

pub above_here : (n r s : ℕ) → r ≡ s → above (suc n) r s ≡ 1
unfolding above
above_here n r s e = rw (eq-eqb r s e)

pub above_next : (n r s : ℕ) → r ≢ s → above (suc n) r s ≡ above n (r / 2) s
unfolding above
above_next n r s e = rw (ne_eqb r s e)

-- nothing is above a smaller number
pub above_less : (n r s : ℕ) → r < s → above n r s ≡ 0
unfolding above
above_less zero r s h = refl
above_less (suc n) r s h = rw (ne_eqb r s (λ e. omega arith)) (above_less n (r / 2) s (omega arith))

-- 1 is above all
pub above_one : (n r : ℕ) → 1 ≤ r → r < 2 ^ n → above n r 1 ≡ 1
above_one zero r h w = absurd (omega arith)
above_one (suc n) r h w =
    same r 1
    (λ e _. above_here n r 1 e)
    (λ m _. above_next n r 1 m ∙ above_one n (r / 2) (omega arith) (omega (arith, pow-succ' 2 n)))

-- a slot is above r where it is r or one of its halves is
pub above_split : (n r s : ℕ) → 1 ≤ s → r < 2 ^ n → above n r s ≡ is r s + (above n r (2 * s) + above n r (2 * s + 1))
above_split zero r s h w =
    rw (
      is_other r s (λ e. omega arith),
      above_less 0 r s (omega arith),
      above_less 0 r (2 * s) (omega arith),
      above_less 0 r (2 * s + 1) (omega arith),
    )
above_split (suc n) r s h w =
    let low = above_less (suc n) r (2 * s) in
    let high = above_less (suc n) r (2 * s + 1) in
    let top = half n (r / 2) in
    let small : r / 2 < 2 ^ n = omega (arith, pow-succ' 2 n) in
    same r s
    (λ e _. rw (above_here n r s e, is_same r s e, low (omega arith), high (omega arith)))
    (λ m _. rw (above_next n r s m, is_other r s m)
    (same r (2 * s)
    (λ e _. rw (above_here n r (2 * s) e, high (omega arith)) (top (omega arith) small))
    (λ m₂ _. rw (above_next n r (2 * s) m₂)
    (same r (2 * s + 1)
    (λ e _. rw (above_here n r (2 * s + 1) e, above_less n (r / 2) (2 * s) (omega arith)) (top (omega arith) small))
    (λ m₃ _. rw (above_next n r (2 * s + 1) m₃, above_split n (r / 2) s h small, is_other (r / 2) s (λ e. omega arith)))))))
  where
    half : (n q : ℕ) → q ≡ s → q < 2 ^ n → above n q s ≡ 1
    half zero q e w = absurd (omega arith)
    half (suc n) q e w = above_here n q s e

-- of the last row, and above r in it: r itself
pub above_last : (n r s : ℕ) → r < 2 * s → r < 2 ^ n → above n r s ≡ is r s
above_last zero r s h w = rw (is_other r s (λ e. omega arith)) (above_less 0 r s (omega arith))
above_last (suc n) r s h w =
    same r s
    (λ e _. rw (above_here n r s e, is_same r s e))
    (λ m _. rw (above_next n r s m, is_other r s m) (above_less n (r / 2) s (omega arith)))

-- it is 0 or 1
pub above-bit : (n r s : ℕ) → (above n r s ≡ 0) ⊎ (above n r s ≡ 1)
unfolding above
above-bit zero r s = inl refl
above-bit (suc n) r s = same r s (λ _ e. rw e (inr refl)) (λ _ e. rw e (above-bit n (r / 2) s))
