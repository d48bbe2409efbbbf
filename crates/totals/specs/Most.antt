-- What is to be taken away from a total is there: a slot's total is at most those of its ancestors, so each mark is at most the
-- total that it lowers. Assumes nothing.
use Rattle.std.specs.Prelude.{◌≡◌, ℕ, zero, suc, ◌+◌, ◌-◌, ◌*◌, ◌/◌, ◌%◌, ◌<◌, ◌≤◌}
use Rattle.std.proofs.Common.{sym, ◌∙◌, ⊎_elim, arith}
use Rattle.std.proofs.Math.Path.{ap}
use borrow.Author.Tests.{ne_eqb}
use Rattle.logic.specs.Cases.{same, less}
use Rattle.sizes.specs.Sizes.{cell_slots, slot_end}
use Rattle.tree.specs.Arrays.{Arrays, lev, node}
use Rattle.tree.specs.Shape.{Shape}
use Rattle.tree.specs.Tree.{node_suc, node-level, node-up, down_some}
use Rattle.totals.specs.Sums.{some_one, Sums, sum_some}
use Rattle.totals.specs.Cover.{above, above_zero, above_next, above_less, above-bit, above_one}
use Rattle.totals.specs.Marks.{part, cell_slot_of, mark}

module _ (A L : ℕ) (t : Arrays) (T : ℕ → ℕ → ℕ) (shape : Shape A L t) (c : Sums A t T) where
  -- a held slot has a total
  pub own_some : (a s : ℕ) → 1 ≤ a → a ≤ A → 1 ≤ s → s < slot_end → 1 ≤ t.slot a s → 1 ≤ T a s
  own_some a s h w l x p =
      let one = some_one (t.slot a s) p in
      less s cell_slots
      (λ y _. omega (arith, c.inner a s h w l y, one))
      (λ y _. (let e : cell_slots + (s - cell_slots) ≡ s = omega arith in
      let q = c.outer a (s - cell_slots) h w (omega arith) in
      omega (arith, rw e at q, one)))

  -- one up
  up_one : (a r : ℕ) → 1 ≤ a → a ≤ A → 2 ≤ r → r < slot_end → T a r ≤ T a (r / 2)
  up_one a r h w l x =
      let q = c.inner a (r / 2) h w (omega arith) (omega arith) in
      same (r % 2) 0
      (λ e _. (let d : 2 * (r / 2) ≡ r = omega arith in omega (arith, rw d at q)))
      (λ n _. (let d : 2 * (r / 2) + 1 ≡ r = omega arith in omega (arith, rw d at q)))

  up_all : (n a r s : ℕ) → 1 ≤ a → a ≤ A → 1 ≤ r → r < slot_end → 1 ≤ s → above n r s ≡ 1 → T a r ≤ T a s
  up_all zero a r s h w l x y e = absurd (omega (arith, above_zero r s))
  up_all (suc n) a r s h w l x y e =
      same r s
      (λ q _. rw q (omega arith))
      (λ m _. same r 1
      (λ q _. absurd (omega (arith, above_less (suc n) r s (omega arith))))
      (λ k _. (let f = sym (above_next n r s m) ∙ e in
      omega (arith, up_one a r h w (omega arith) x, up_all n a (r / 2) s h w (omega arith) (omega arith) y f))))

  pub part_most : (b r a s : ℕ) → 1 ≤ a → a ≤ A → 1 ≤ r → r < slot_end → 1 ≤ s → 1 ≤ T b r → part b r a s ≤ T a s
  unfolding part
  part_most b r a s h w l x y p =
      same a b
      (λ q e. rw e (⊎_elim
      (λ (o : above 9 r s ≡ 0). rw o (omega arith))
      (λ (o : above 9 r s ≡ 1). rw o (omega (arith, rw (← q) at p, up_all 9 a r s h w l x y o)))
      (above-bit 9 r s)))
      (λ n e. rw e (omega arith))

  -- an array further down has no mark
  pub mark_off : (k v r a s : ℕ) → 1 ≤ node t v k → k + 1 < lev t a → mark t v k r a s ≡ 0
  unfolding mark part
  mark_off zero v r a s p h = rw (ne_eqb a 1 (λ e. omega (arith, shape.root, ap t.tag e)))
  mark_off (suc k) v r a s p h =
      let u = node-level A L t shape v (suc k) p in
      let up = mark_off k (v / 256) (cell_slot_of v) a s (node-up A L t shape v k p) (omega arith) in
      rw (ne_eqb a (node t v (suc k)) (λ e. omega (arith, u.level, ap (lev t) e)), up)

  -- the cell's total above an array that has something
  pub cell_some : (k v r : ℕ) → 1 ≤ node t v (suc k) → 1 ≤ r → r < slot_end → 1 ≤ T (node t v (suc k)) r
      → 1 ≤ T (node t (v / 256) k) (cell_slot_of v)
  cell_some k v r p l x g =
      let b = node t (v / 256) k in
      let a = node t v (suc k) in
      let y = v % 256 in
      let u = node-level A L t shape (v / 256) k (node-up A L t shape v k p) in
      let w = (node-level A L t shape v (suc k) p).within in
      let e : t.link b y ≡ a = sym (node_suc t v k ∙ down_some t b y u.some) in
      let q = rw e at (c.outer b y u.some u.within (omega arith)) in
      omega (arith, q, sum_some T a 1 p, up_all 9 a r 1 p w l x (omega arith) (above_one 9 r l x))
