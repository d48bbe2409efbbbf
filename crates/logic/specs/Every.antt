-- Every number below n passes a test. Assumes nothing.
use Rattle.std.specs.Prelude.{Bool, true, ◌&&◌, ℕ, zero, suc}

-- p 0 .. p (n - 1) are all true
unfoldable pub all_b : (ℕ → Bool) → ℕ → Bool
all_b p zero = true
all_b p (suc n) = all_b p n && p n
