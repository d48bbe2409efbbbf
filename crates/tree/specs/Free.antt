-- The search for a free array, and what it finds. Assumes nothing.
use Rattle.std.specs.Prelude.{◌≡◌, cond, ℕ, zero, suc, ◌+◌, ◌≤◌, ◌<◌, eqb}
use Rattle.std.proofs.Common.{ap, arith, ne_eqb}
use Rattle.logic.specs.Cases.{same}
use Rattle.tree.specs.Arrays.{Arrays, used_in}

-- the first free array from a on, among n
unfoldable pub first_free : Arrays → ℕ → ℕ → ℕ
first_free t a zero = 0
first_free t a (suc n) = cond (eqb (t.tag a) 0) a (first_free t (suc a) n)

pub record Found (t : Arrays) (a n r : ℕ) : Type 0 where
  pub low : a ≤ r
  pub high : r < a + n
  pub free : t.tag r ≡ 0

pub used-full : (t : Arrays) (lo n : ℕ) → used_in t lo n ≤ n
used-full t lo zero = omega arith
used-full t lo (suc n) =
    same (t.tag (lo + suc n)) 0 (λ q b. rw b (omega (arith, used-full t lo n))) (λ q b. rw b (omega (arith, used-full t lo n)))

-- one that is used counts
pub used_some : (t : Arrays) (lo n a : ℕ) → lo < a → a ≤ lo + n → 1 ≤ t.tag a → 1 ≤ used_in t lo n
used_some t lo zero a h w u = absurd (omega arith)
used_some t lo (suc n) a h w u =
    same a (lo + suc n)
    (λ e _. rw (ne_eqb (t.tag (lo + suc n)) 0 (λ z. omega (arith, ap t.tag e))) (omega arith))
    (λ m _. omega (arith, used_some t lo n a h (omega arith) u))

-- the first of them apart
used_first : (t : Arrays) (lo n : ℕ) → used_in t lo (suc n) ≡ cond (eqb (t.tag (lo + 1)) 0) 0 1 + used_in t (suc lo) n
used_first t lo zero = omega arith
used_first t lo (suc n) = let e : suc lo + suc n ≡ lo + suc (suc n) = omega arith in rw e (omega (arith, used_first t lo n))

-- fewer used than there are: one is found
pub found : (t : Arrays) (lo n : ℕ) → used_in t lo n < n → Found t (lo + 1) n (first_free t (lo + 1) n)
unfolding first_free
found t lo zero h = absurd (omega arith)
found t lo (suc n) h =
    same (t.tag (lo + 1)) 0
    (λ q e. rw e (record { low = omega arith; high = omega arith; free = q }))
    (λ q e. (let x : used_in t (suc lo) n < n = omega (arith, rw e at (used_first t lo n)) in
    let s : suc (lo + 1) ≡ suc lo + 1 = omega arith in
    let f = found t (suc lo) n x in
    rw (e, s) (record { low = omega (arith, f.low); high = omega (arith, f.high); free = f.free })))
