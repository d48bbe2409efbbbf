-- How many slots of an array are taken. Assumes nothing.
use Rattle.std.specs.Prelude.{cond, ℕ, zero, suc, ◌+◌, eqb}

-- how many of the slots 1 .. n are taken
unfoldable pub taken : (ℕ → ℕ) → ℕ → ℕ
taken f zero = 0
taken f (suc n) = taken f n + cond (eqb (f (n + 1)) 0) 0 1
