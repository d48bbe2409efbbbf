-- Laws of the search for a free array of a range, and of numbers told as options. Assumes nothing.
use Rattle.std.proofs.Common.{◌≡◌, ℕ, suc, ◌+◌, ◌-◌, ◌<◌, ◌≤◌, ◌≢◌, ◌∙◌, add-one, arith, eq-eqb, ne_eqb}
use Rattle.std.specs.Prelude.{Option, Some, None}
use Rattle.logic.specs.Cases.{same}
use Rattle.logic.specs.Nonzero.{nonzero}
use Rattle.tree.specs.Arrays.{Arrays}
use Rattle.tree.specs.Free.{first_free}

pub free_hit : (t : Arrays) (a to : ℕ) → a < to → t.tag a ≡ 0 → a ≡ first_free t a (to - a)
unfolding first_free
free_hit t a to h e = let d : to - a ≡ suc (to - (a + 1)) = omega arith in rw (d, eq-eqb (t.tag a) 0 e)

pub free_miss : (t : Arrays) (a to : ℕ) → a < to → t.tag a ≢ 0 → first_free t a (to - a) ≡ first_free t (a + 1) (to - (a + 1))
unfolding first_free
free_miss t a to h e = let d : to - a ≡ suc (to - (a + 1)) = omega arith in rw (d, ne_eqb (t.tag a) 0 e, add-one a)

pub free_none : (t : Arrays) (a to : ℕ) → to ≤ a → first_free t a (to - a) ≡ 0
unfolding first_free
free_none t a to h = let d : to - a ≡ 0 = omega arith in rw d

pub some_nonzero : (a n : ℕ) → a ≡ n → 1 ≤ a → Some a ≡ nonzero n
some_nonzero a n e h = rw (← e, ne_eqb a 0 (λ z. omega arith))

pub none_nonzero : (n : ℕ) → 0 ≡ n → None ≡ nonzero n
none_nonzero n e = rw (← e)

pub nonzero_not : (n : ℕ) (r : Option ℕ) → r ≡ nonzero n → ((x : ℕ) → r ≡ Some x → ⊥) → n ≡ 0
nonzero_not n r e p = same n 0 (λ z _. z) (λ _ t. absurd (p n (e ∙ rw t)))
