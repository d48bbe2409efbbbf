-- Totals of arrays: for each slot how many prefixes are held at it and below it, arrays further down included. Assumes nothing.
--
--     array 1: slot 256 + 10 holds 10.0.0.0/8, link of cell 10 ──► array 2: slots 18 and 19 hold 10.32.0.0/12 and 10.48.0.0/12
--     totals of 2: 18 and 19: 1, 9: 2, 4: 2, 2: 2, 1: 2        of 1: 256 + 10: 1 + 2, 133: 3, 66: 3 .. 1: 3
use Rattle.std.specs.Prelude.{◌≡◌, ℕ, zero, suc, ◌+◌, ◌*◌, ◌/◌, ◌^◌, ◌<◌, ◌≤◌, cond, ◌==◌}
use Rattle.std.proofs.Math.Path.{refl}
use Rattle.std.proofs.Common.{arith, eq-eqb, ne_eqb}
use Rattle.sizes.specs.Sizes.{cell_count, cell_slots, slot_end}
use Rattle.routes.specs.Room.{level}
use Rattle.tree.specs.Arrays.{Arrays, down, at, node, depth_of, slot_of}

-- 1 for a hop, 0 for none
unfoldable pub some : ℕ → ℕ
some h = cond (h == 0) 0 1

pub some_none : (h : ℕ) → h ≡ 0 → some h ≡ 0
unfolding some
some_none h e = rw (eq-eqb h 0 e)

pub some_one : (h : ℕ) → 1 ≤ h → some h ≡ 1
unfolding some
some_one h p = rw (ne_eqb h 0 (λ e. omega arith))

-- the total of slot s of array a: array 0 has none
unfoldable pub sum : (ℕ → ℕ → ℕ) → ℕ → ℕ → ℕ
sum T zero s = 0
sum T (suc a) s = T (suc a) s

-- the conditions, each on one array and what its links lead to
pub record Sums (A : ℕ) (t : Arrays) (T : ℕ → ℕ → ℕ) : Type 0 where
  pub inner : (a s : ℕ) → 1 ≤ a → a ≤ A → 1 ≤ s → s < cell_slots → T a s ≡ some (t.slot a s) + (T a (2 * s) + T a (2 * s + 1))
  pub outer : (a i : ℕ) → 1 ≤ a → a ≤ A → i < cell_count
      → T a (cell_slots + i) ≡ some (t.slot a (cell_slots + i)) + sum T (t.link a i) 1

-- how many are inside the prefix v of l bits: one total, of the array that the path leads to; 0 where the path ends earlier
unfoldable pub counted : Arrays → (ℕ → ℕ → ℕ) → ℕ → ℕ → ℕ
counted t T v l = sum T (node t (v / 2 ^ depth_of l) (level l)) (slot_of v l)

pub sum_none : (T : ℕ → ℕ → ℕ) (a s : ℕ) → a ≡ 0 → sum T a s ≡ 0
unfolding sum
sum_none T a s e = rw e

pub sum_some : (T : ℕ → ℕ → ℕ) (a s : ℕ) → 1 ≤ a → sum T a s ≡ T a s
unfolding sum
sum_some T zero s h = absurd (omega arith)
sum_some T (suc a) s h = refl

pub sum_ext : (T U : ℕ → ℕ → ℕ) (a s : ℕ) → (1 ≤ a → U a s ≡ T a s) → sum U a s ≡ sum T a s
unfolding sum
sum_ext T U zero s e = refl
sum_ext T U (suc a) s e = e (omega arith)

-- the conditions with array 0, that has nothing
module _ (A : ℕ) (t : Arrays) (T : ℕ → ℕ → ℕ) (c : Sums A t T) where
  pub sum_inner : (a s : ℕ) → a ≤ A → 1 ≤ s → s < cell_slots
      → sum T a s ≡ some (at t a s) + (sum T a (2 * s) + sum T a (2 * s + 1))
  unfolding sum at some
  sum_inner zero s w l h = refl
  sum_inner (suc a) s w l h = c.inner (suc a) s (omega arith) w l h

  pub sum_outer : (a i : ℕ) → a ≤ A → i < cell_count
      → sum T a (cell_slots + i) ≡ some (at t a (cell_slots + i)) + sum T (down t a i) 1
  unfolding sum at down some
  sum_outer zero i w h = refl
  sum_outer (suc a) i w h = c.outer (suc a) i (omega arith) w h

-- other arrays and totals, where links, totals and the slots that hold something are the same
pub sums_ext : (A : ℕ) (t u : Arrays) (T U : ℕ → ℕ → ℕ)
    → ((a s : ℕ) → 1 ≤ a → a ≤ A → 1 ≤ s → s < slot_end → some (u.slot a s) ≡ some (t.slot a s))
    → ((a i : ℕ) → 1 ≤ a → a ≤ A → i < cell_count → u.link a i ≡ t.link a i)
    → ((a s : ℕ) → 1 ≤ a → 1 ≤ s → s < slot_end → U a s ≡ T a s) → Sums A t T → Sums A u U
sums_ext A t u T U f g h c = record {
  inner = λ a s l w x y. rw (
    h a s l x (omega arith),
    f a s l w x (omega arith),
    h a (2 * s) l (omega arith) (omega arith),
    h a (2 * s + 1) l (omega arith) (omega arith),
  ) (c.inner a s l w x y);
  outer = λ a i l w x. rw (
    h a (cell_slots + i) l (omega arith) (omega arith),
    f a (cell_slots + i) l w (omega arith) (omega arith),
    g a i l w x,
    sum_ext T U (t.link a i) 1 (λ z. h (t.link a i) 1 z (omega arith) (omega arith)),
  ) (c.outer a i l w x);
}
