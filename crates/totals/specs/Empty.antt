-- An array without route and link has totals 0; hanging one below a cell, or freeing it, keeps every total. Assumes nothing.
use Rattle.std.specs.Prelude.{◌≡◌, ℕ, ◌+◌, ◌-◌, ◌*◌, ◌<◌, ◌≤◌, refl}
use Rattle.std.proofs.Common.{◌∙◌, arith}
use Rattle.sizes.specs.Sizes.{cell_count, cell_slots, slot_end}
use Rattle.tree.specs.Arrays.{Arrays}
use Rattle.tree.specs.HungBelow.{HungBelow}
use Rattle.totals.specs.Sums.{some, some_none, sum, Sums, sum_none}
use Rattle.totals.specs.Check.{SumsAt}

module _ (A : ℕ) (t : Arrays) (T : ℕ → ℕ → ℕ) (a : ℕ) (c : Sums A t T) (h : 1 ≤ a) (w : a ≤ A)
    (f : (s : ℕ) → 1 ≤ s → s < slot_end → t.slot a s ≡ 0) (g : (i : ℕ) → i < cell_count → t.link a i ≡ 0) where
  pub last_row : (s : ℕ) → cell_slots ≤ s → s < slot_end → T a s ≡ 0
  last_row s y x =
      let i = s - cell_slots in
      let e : cell_slots + i ≡ s = omega arith in
      let q : T a s ≡ some (t.slot a s) + sum T (t.link a i) 1 = rw e at (c.outer a i h w (omega arith)) in
      q ∙ rw (some_none (t.slot a s) (f s (omega arith) x), sum_none T (t.link a i) 1 (g i (omega arith)))

-- and totals 0 are right there
pub none_sums : (t : Arrays) (T : ℕ → ℕ → ℕ) (a : ℕ) → ((s : ℕ) → 1 ≤ s → s < slot_end → t.slot a s ≡ 0)
    → ((i : ℕ) → i < cell_count → t.link a i ≡ 0) → ((s : ℕ) → 1 ≤ s → s < slot_end → T a s ≡ 0) → SumsAt t T a
none_sums t T a f g z = record {
  inner = λ s l h. rw (
    z s l (omega arith),
    z (2 * s) (omega arith) (omega arith),
    z (2 * s + 1) (omega arith) (omega arith),
    f s l (omega arith),
    some_none 0 refl,
  );
  outer = λ i h. rw (
    z (cell_slots + i) (omega arith) (omega arith),
    f (cell_slots + i) (omega arith) (omega arith),
    g i h,
    some_none 0 refl,
    sum_none T 0 1 refl,
  );
}

module _ (A L : ℕ) (t u : Arrays) (T : ℕ → ℕ → ℕ) (p i a : ℕ) (g : HungBelow A L t u p i a) where
  pub low : 1 ≤ a
  low = omega (arith, g.some)
