-- No total of a table is over 511 times its arrays, so that none wraps. Assumes nothing.
use Rattle.std.specs.Prelude.{◌≡◌, ℕ, ◌+◌, ◌-◌, ◌*◌, ◌^◌, ◌<◌, ◌≤◌}
use Rattle.std.proofs.Common.{mul-le-mul_right, arith, pow-add}
use Rattle.logic.specs.Cases.{same}
use Rattle.sizes.specs.Sizes.{cell_slots, last_slot, slot_end}
use Rattle.routes.specs.Collect.{routes}
use Rattle.tree.specs.Arrays.{Arrays, par, cell, lev, node}
use Rattle.tree.specs.Shape.{Shape}
use Rattle.tree.specs.Tree.{path, reach, used-level, parent_links, is_child}
use Rattle.tree.specs.Need.{binary, depth_low, depth_high}
use Rattle.tree.specs.Taken.{First}
use Rattle.totals.specs.Sums.{Sums, sum_some}
use Rattle.totals.proofs.Counted.{total_slot, total_root}
use Rattle.totals.specs.Bound.{list_most, part_most}

module _ (A L : ℕ) (t : Arrays) (T : ℕ → ℕ → ℕ) (s : Shape A L t) (c : Sums A t T) (r : First A t) where
  -- a slot of length d ≥ 1
  deep_most : (a k d x v : ℕ) → node t v k ≡ a → 1 ≤ a → v < 2 ^ (8 * k) → 8 * k + d ≤ 8 * L → 1 ≤ d → d ≤ 8 → x < 2 ^ d
      → T a (2 ^ d + x) ≤ last_slot * A
  deep_most a k d x v n g h w l m b =
      let e = 8 * L - (8 * k + d) in
      let small : v * 2 ^ d + x < 2 ^ (8 * k + d) = omega (arith, pow-add 2 (8 * k) d, mul-le-mul_right (2 ^ d) h, b) in
      omega (
        arith,
        sum_some T a (2 ^ d + x) g,
        rw n at (total_slot A L t T s c r e k d x v (omega arith) l m b),
        (part_most A L t T s c r) (v * 2 ^ d + x) (8 * k + d) e (omega arith) small,
      )

  later_most : (a q : ℕ) → 1 ≤ a → a ≤ A → 1 ≤ t.tag a → 2 ≤ q → q < slot_end → T a q ≤ last_slot * A
  later_most a q g w u l h =
      let b = binary slot_end q (omega arith) (omega arith) in
      let z = used-level A L t s a g w u in
      let k = lev t a - 1 in
      let p = reach A L t s k a g w (omega arith) in
      let d1 = depth_low b.d b.x q b.whole b.less l in
      let d8 = depth_high b.d b.x q b.whole h in
      rw b.whole (deep_most a k b.d b.x (path t k a) p.leads g p.small (omega arith) d1 d8 b.less)

  -- slot 1 of an array below a cell: no more than the cell's slot
  below_most : (a : ℕ) → 2 ≤ a → a ≤ A → 1 ≤ t.tag a → T a 1 ≤ last_slot * A
  below_most a g w u =
      let p = parent_links A L t s a g w u in
      let z = is_child A L t s a g w u in
      let b = par t a in
      let i = cell t a in
      let q = rw p.back at (c.outer b i p.some p.within (omega arith)) in
      let m = later_most b (cell_slots + i) p.some p.within (omega (arith, z.used)) (omega arith) (omega arith) in
      omega (arith, q, sum_some T a 1 (omega arith), m)

  -- every total of a used array
  pub total_most : (a q : ℕ) → 1 ≤ a → a ≤ A → 1 ≤ t.tag a → 1 ≤ q → q < slot_end → T a q ≤ last_slot * A
  unfolding routes
  total_most a q g w u l h =
      same q 1
      (λ e _. rw e (same a 1
      (λ o _. rw o (omega (arith, sum_some T 1 1 (omega arith), total_root A L t T s c r, (list_most A L t T s c r))))
      (λ n _. below_most a (omega arith) w u)))
      (λ n _. later_most a q g w u (omega arith) h)
