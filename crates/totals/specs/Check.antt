-- Whether the totals of one array are right, by one test a slot. Assumes nothing.
use Rattle.std.specs.Prelude.{◌≡◌, ℕ, ◌+◌, ◌-◌, ◌*◌, ◌<◌, ◌≤◌, Bool, ◌&&◌, ◌==◌}
use Rattle.std.proofs.Common.{arith}
use Rattle.logic.specs.Every.{all_b}
use Rattle.logic.specs.Reflects.{Reflects, reflects_eq, reflects_and, reflects_all, reflects_as}
use Rattle.sizes.specs.Sizes.{cell_count, cell_slots, inner_slots}
use Rattle.tree.specs.Arrays.{Arrays}
use Rattle.totals.specs.Sums.{some, sum, Sums}

-- a slot that stands above two others: its own prefix, if it holds one, and what these have
abbrev pub inner_of : Arrays → (ℕ → ℕ → ℕ) → ℕ → ℕ → ℕ
inner_of t T a s = some (t.slot a s) + (T a (2 * s) + T a (2 * s + 1))

-- the slot above a cell: its own prefix, if it holds one, and what the array below the cell has in all
abbrev pub outer_of : Arrays → (ℕ → ℕ → ℕ) → ℕ → ℕ → ℕ
outer_of t T a i = some (t.slot a (cell_slots + i)) + sum T (t.link a i) 1

abbrev pub inner_b : Arrays → (ℕ → ℕ → ℕ) → ℕ → ℕ → Bool
inner_b t T a s = T a (s + 1) == inner_of t T a (s + 1)

abbrev pub outer_b : Arrays → (ℕ → ℕ → ℕ) → ℕ → ℕ → Bool
outer_b t T a i = T a (cell_slots + i) == outer_of t T a i

unfoldable pub sums_b : Arrays → (ℕ → ℕ → ℕ) → ℕ → Bool
sums_b t T a = all_b (inner_b t T a) inner_slots && all_b (outer_b t T a) cell_count

-- the conditions on one array
pub record SumsAt (t : Arrays) (T : ℕ → ℕ → ℕ) (a : ℕ) : Type 0 where
  pub inner : (s : ℕ) → 1 ≤ s → s < cell_slots → T a s ≡ inner_of t T a s
  pub outer : (i : ℕ) → i < cell_count → T a (cell_slots + i) ≡ outer_of t T a i

pub sums_reflects : (t : Arrays) (T : ℕ → ℕ → ℕ) (a : ℕ) → Reflects (sums_b t T a) (SumsAt t T a)
unfolding sums_b
sums_reflects t T a =
    reflects_as
    (λ z. record {
      inner = λ s l h. (let e : s - 1 + 1 ≡ s = omega arith in rw e at (z.0 (s - 1) (omega arith)));
      outer = z.1;
    })
    (λ z. (λ s h. z.inner (s + 1) (omega arith) (omega arith), z.outer))
    (reflects_and
    (reflects_all (inner_b t T a) (λ s. T a (s + 1) ≡ inner_of t T a (s + 1)) inner_slots (λ s h. reflects_eq (T a (s + 1)) _))
    (reflects_all (outer_b t T a) (λ i. T a (cell_slots + i) ≡ outer_of t T a i) cell_count (λ i h. reflects_eq _ _)))

-- of all arrays, and of one of them
pub sums_all : (A : ℕ) (t : Arrays) (T : ℕ → ℕ → ℕ) → ((a : ℕ) → 1 ≤ a → a ≤ A → SumsAt t T a) → Sums A t T
sums_all A t T f = record { inner = λ a s h w. (f a h w).inner s; outer = λ a i h w. (f a h w).outer i }

pub sums_one : (A : ℕ) (t : Arrays) (T : ℕ → ℕ → ℕ) → Sums A t T → (a : ℕ) → 1 ≤ a → a ≤ A → SumsAt t T a
sums_one A t T c a h w = record { inner = λ s. c.inner a s h w; outer = λ i. c.outer a i h w }
