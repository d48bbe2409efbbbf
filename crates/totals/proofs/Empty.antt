-- An array without route and link has totals 0; hanging one below a cell, or freeing it, keeps every total. Assumes nothing.
use Rattle.std.specs.Prelude.{◌≡◌, ℕ, zero, suc, ◌+◌, ◌*◌, ◌^◌, ◌<◌, ◌≤◌, refl}
use Rattle.std.proofs.Common.{sym, ◌∙◌, inl, arith, pow_pos}
use Rattle.laws.specs.Collect.{dbl}
use Rattle.logic.specs.Cases.{less}
use Rattle.sizes.specs.Sizes.{cell_count, cell_slots, slot_end}
use Rattle.tree.specs.Arrays.{Arrays}
use Rattle.tree.specs.HungBelow.{HungBelow, cell-cases, other}
use Rattle.totals.specs.Sums.{some_none, Sums, sum_none, sum_some}
use Rattle.totals.specs.Empty.{last_row, low}

module _ (A : ℕ) (t : Arrays) (T : ℕ → ℕ → ℕ) (a : ℕ) (c : Sums A t T) (h : 1 ≤ a) (w : a ≤ A)
    (f : (s : ℕ) → 1 ≤ s → s < slot_end → t.slot a s ≡ 0) (g : (i : ℕ) → i < cell_count → t.link a i ≡ 0) where
  -- rows from the last up
  rows : (m s : ℕ) → 1 ≤ s → s < slot_end → cell_slots ≤ s * 2 ^ m → T a s ≡ 0
  rows zero s l x p = last_row A t T a c h w f g s (omega arith) x
  rows (suc m) s l x p =
      let e = dbl s m in
      less s cell_slots
      (λ y _. c.inner a s h w l y
      ∙ rw (
        some_none (t.slot a s) (f s l x),
        rows m (2 * s) (omega arith) (omega arith) (omega (arith, e, pow_pos m)),
        rows m (2 * s + 1) (omega arith) (omega arith) (omega (arith, e, pow_pos m)),
      ))
      (λ y _. (last_row A t T a c h w f g) s y x)

  pub empty_none : (s : ℕ) → 1 ≤ s → s < slot_end → T a s ≡ 0
  empty_none s l x = rows 8 s l x (omega arith)

module _ (A L : ℕ) (t u : Arrays) (T : ℕ → ℕ → ℕ) (p i a : ℕ) (g : HungBelow A L t u p i a) where
  -- the array gained
  pub gain_sums : Sums A t T → Sums A u T
  gain_sums c =
      let none = empty_none A t T a c (low A L t u T p i a g) g.within g.no_slot g.no_link in
      record {
        inner = λ b s h w l x. rw (g.slots b s h l (omega arith)) (c.inner b s h w l x);
        outer = λ b j h w x. rw (g.slots b (cell_slots + j) h (omega arith) (omega arith))
            (cell-cases b j p i
            (λ e d. c.outer b j h w x ∙ rw (e, d, g.on, g.off)
            (rw (sum_none T 0 1 refl, sum_some T a 1 (low A L t u T p i a g), none 1 (omega arith) (omega arith))))
            (λ n. rw (g.links b j h x n) (c.outer b j h w x)));
      }

  -- the array freed: its totals are 0 before and after
  pub free_sums : Sums A u T → Sums A t T
  free_sums c =
      let none = empty_none A u T a c (low A L t u T p i a g) g.within (λ s l x. g.slots a s (low A L t u T p i a g) l x
      ∙ g.no_slot s l x)
      (λ j x. g.links a j (low A L t u T p i a g) x (inl (λ e. other A L t u p i a g (sym e))) ∙ g.no_link j x) in
      record {
        inner = λ b s h w l x. rw (← (g.slots b s h l (omega arith))) (c.inner b s h w l x);
        outer = λ b j h w x. rw (← (g.slots b (cell_slots + j) h (omega arith) (omega arith)))
            (cell-cases b j p i
            (λ e d. c.outer b j h w x ∙ rw (e, d, g.on, g.off)
            (rw (sum_none T 0 1 refl, sum_some T a 1 (low A L t u T p i a g), none 1 (omega arith) (omega arith))))
            (λ n. rw (← (g.links b j h x n)) (c.outer b j h w x)));
      }
