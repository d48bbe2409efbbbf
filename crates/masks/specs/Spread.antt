-- The byte of an index, from its lowest bit on: r holds the bits so far, p is the place of the next one. Assumes nothing.
use Rattle.std.specs.Prelude.{◌≡◌, cond, ℕ, suc, ◌+◌, ◌-◌, ◌*◌, ◌/◌, ◌%◌, ◌^◌, ◌≤◌, ◌<◌, eqb}
use Rattle.std.proofs.Common.{sym, ◌∙◌, mul_assoc, mul_comm, arith, pow_mono}
use Rattle.std.proofs.Math.Nat.{pow-succ'}
use Rattle.logic.specs.Cases.{same}
use Rattle.masks.specs.Index.{scatter, scatter_lt}

-- what is put at place p, and what is left of the index
abbrev pub low : ℕ → ℕ → ℕ
low m v = cond (eqb (m % 2) 0) 0 (v % 2)

abbrev pub left : ℕ → ℕ → ℕ
left m v = cond (eqb (m % 2) 0) v (v / 2)

abbrev pub spreads : ℕ → ℕ → ℕ → ℕ → ℕ → ℕ
spreads k m v r p = r + p * scatter k m v

even : (r p s : ℕ) → r + p * (s * 2) ≡ r + p * 0 + p * 2 * s
even r p s =
    let a = mul_comm (p * 2) s in
    omega (arith, mul_assoc p s 2, mul_assoc s p 2, mul_comm s p)

odd : (r p s d : ℕ) → r + p * (s * 2 + d) ≡ r + p * d + p * 2 * s
odd r p s d = omega arith

spread_more : (k m v r p : ℕ) → spreads (suc k) m v r p ≡ spreads k (m / 2) (left m v) (r + p * low m v) (p * 2)
unfolding scatter
spread_more k m v r p =
    same (m % 2) 0
    (λ q e. rw e (even r p (scatter k (m / 2) v)))
    (λ q e. rw e (odd r p (scatter k (m / 2) (v / 2)) (v % 2)))

-- ---- the loop

pub spread_start : (m v : ℕ) → spreads 8 m v 0 1 ≡ scatter 8 m v
spread_start m v = omega arith

pub spread_step : (k m v r p t : ℕ) → 1 ≤ k → spreads k m v r p ≡ t
    → spreads (k - 1) (m / 2) (left m v) (r + p * low m v) (p * 2) ≡ t
spread_step k m v r p t h e =
    let q : k ≡ suc (k - 1) = omega arith in
    sym (spread_more (k - 1) m v r p) ∙ rw q at e

pub spread_power : (k p : ℕ) → 1 ≤ k → k ≤ 8 → p ≡ 2 ^ (8 - k) → p * 2 ≡ 2 ^ (8 - (k - 1))
spread_power k p h l e = let q : 8 - (k - 1) ≡ suc (8 - k) = omega arith in rw (q, e) (omega (arith, pow-succ' 2 (8 - k)))

pub spread_places : (k p : ℕ) → p ≡ 2 ^ (8 - k) → p ≤ 256
spread_places k p e = rw e (pow_mono {i = 8 - k} {j = 8} (omega arith))

pub spread_small : (k m v r p a b : ℕ) → spreads k m v r p ≡ scatter 8 a b → r < 256
spread_small k m v r p a b e = omega (arith, scatter_lt 8 a b)

pub spread_end : (k m v r p a b : ℕ) → k ≡ 0 → spreads k m v r p ≡ scatter 8 a b → (r ≡ scatter 8 a b) × (r < 256)
unfolding scatter
spread_end k m v r p a b z e =
    let w : spreads 0 m v r p ≡ scatter 8 a b = rw z at e in
    let o : r + p * 0 ≡ r = omega arith in
    (sym o ∙ w, spread_small k m v r p a b e)

pub low-place : (p d : ℕ) → p ≤ 256 → d < 2 → p * d ≤ 256
low-place p d h l = same d 0 (λ e _. rw e (omega arith)) (λ n _. let e : d ≡ 1 = omega arith in rw e (omega arith))
