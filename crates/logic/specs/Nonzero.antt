-- A number that is 0 for none, as an option of the code. Assumes nothing.
use Rattle.std.specs.Prelude.{◌≡◌, ◌≢◌, ℕ, cond, eqb, Option, Some, None}
use Rattle.logic.specs.Cases.{same}

abbrev pub nonzero : ℕ → Option ℕ
nonzero n = cond (eqb n 0) None (Some n)

-- what an arm of a match on one says of the number
pub nonzero_some : (n a : ℕ) → nonzero n ≡ Some a → (n ≡ a) × (n ≢ 0)
nonzero_some n a e = same n 0 (λ _ t. let q = rw t at e in cc) (λ m t. (let q = rw t at e in cc, m))

pub nonzero_none : (n : ℕ) → nonzero n ≡ None → n ≡ 0
nonzero_none n e = same n 0 (λ z _. z) (λ _ t. let q = rw t at e in cc)
