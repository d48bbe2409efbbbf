-- The highest number below n that passes a test, 0 where none does. Assumes nothing.
use Rattle.std.specs.Prelude.{◌≡◌, refl, ◌≢◌, ◌⊎◌, Bool, true, false, cond}
use Rattle.std.proofs.Common.{sym, ap, ◌∙◌, inl, inr, ⊎_elim, true≢false}
use Prim.Native.Nat.{ℕ, zero, suc, ◌-◌, ◌≤◌, ◌<◌}
use native.Mathlib.Omega.{arith}
use Rattle.logic.specs.Cases.{bool}

unfoldable pub top : (ℕ → Bool) → ℕ → ℕ
top p zero = 0
top p (suc n) = cond (p n) n (top p n)

lower : (k n : ℕ) → k < suc n → k ≢ n → k < n
lower k n h z = omega arith

-- one passes that n does not: it is below n
other : (p : ℕ → Bool) (n k : ℕ) → k < suc n → p k ≡ true → p n ≡ false → k < n
other p n k h e q = lower k n h (λ z. true≢false (sym e ∙ ap p z ∙ q))

pub top_ge : (p : ℕ → Bool) (n k : ℕ) → k < n → p k ≡ true → k ≤ top p n
unfolding top
top_ge p zero k h e = absurd (omega arith)
top_ge p (suc n) k h e = bool (p n) (λ q. rw q (omega arith)) (λ q. rw q (top_ge p n k (other p n k h e q) e))

-- it passes and is below n, or is 0
pub top_case : (p : ℕ → Bool) (n : ℕ) → ((p (top p n) ≡ true) × (top p n < n)) ⊎ (top p n ≡ 0)
unfolding top
top_case p zero = inr refl
top_case p (suc n) =
    bool (p n) (λ q. rw q (inl (q, omega arith)))
    (λ q. rw q (⊎_elim
    (λ (w : (p (top p n) ≡ true) × (top p n < n)). inl (w.0, omega (arith, w.1)))
    (λ (w : top p n ≡ 0). inr w)
    (top_case p n)))

pub top_is : (p : ℕ → Bool) (n k : ℕ) → k < n → p k ≡ true → (p (top p n) ≡ true) × (top p n < n)
unfolding top
top_is p zero k h e = absurd (omega arith)
top_is p (suc n) k h e =
    bool (p n) (λ q. rw q (q, omega arith))
    (λ q. rw q (let r = top_is p n k (other p n k h e q) e in (r.0, omega (arith, r.1))))

pub top_none : (p : ℕ → Bool) (n : ℕ) → ((k : ℕ) → k < n → p k ≡ false) → top p n ≡ 0
unfolding top
top_none p zero f = refl
top_none p (suc n) f = rw (f n (omega arith)) (top_none p n (λ k h. f k (omega arith)))

pub top_bound : (p : ℕ → Bool) (n b : ℕ) → ((k : ℕ) → k < n → p k ≡ true → k ≤ b) → top p n ≤ b
top_bound p n b f = ⊎_elim
    (λ (w : (p (top p n) ≡ true) × (top p n < n)). f (top p n) w.1 w.0)
    (λ (w : top p n ≡ 0). omega arith)
    (top_case p n)

pub top_one : (p : ℕ → Bool) (n k : ℕ) → k < n → p k ≡ true → ((j : ℕ) → j < n → p j ≡ true → j ≤ k) → top p n ≡ k
top_one p n k h e f = omega (arith, top_ge p n k h e, top_bound p n k f)

-- the same where the tests are the same
pub top_same : (p q : ℕ → Bool) (n : ℕ) → ((k : ℕ) → k < n → p k ≡ q k) → top p n ≡ top q n
unfolding top
top_same p q zero f = refl
top_same p q (suc n) f = rw (f n (omega arith), top_same p q n (λ k h. f k (omega arith)))

-- ---- in a loop from n down: what is left gives the same

module _ (p : ℕ → Bool) (s e : ℕ) (h : 1 ≤ s) (q : top p s ≡ e) where
  pub seek_found : p (s - 1) ≡ true → s - 1 ≡ e
  unfolding top
  seek_found t = let w : s ≡ suc (s - 1) = omega arith in let z : top p (suc (s - 1)) ≡ e = rw w at q in rw t at z

  pub seek_on : p (s - 1) ≡ false → top p (s - 1) ≡ e
  unfolding top
  seek_on t = let w : s ≡ suc (s - 1) = omega arith in let z : top p (suc (s - 1)) ≡ e = rw w at q in rw t at z

pub seek_end : (p : ℕ → Bool) (s e : ℕ) → s ≤ 1 → 1 ≤ s → p 0 ≡ false → top p s ≡ e → 0 ≡ e
unfolding top
seek_end p s e l h a q =
    let z : s ≡ 1 = omega arith in
    let w : top p 1 ≡ e = rw z at q in
    rw a at w
