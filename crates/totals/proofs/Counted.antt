-- A total is the number of prefixes of the table's list inside its prefix. Assumes nothing.
use Rattle.std.specs.Prelude.{◌≡◌, ℕ, zero, suc, ◌+◌, ◌-◌, ◌*◌, ◌/◌, ◌%◌, ◌^◌, ◌<◌, ◌≤◌, length}
use Rattle.std.proofs.Common.{sym, ap, ap₂, ◌∙◌, mod-lt, pow_pos, pow_mono}
use Rattle.std.proofs.Math.Nat.{pow-succ'}
use native.Mathlib.Omega.{arith}
use Rattle.std.proofs.Math.Pow.{split}
use Rattle.sizes.specs.Sizes.{cell_count, cell_slots}
use Rattle.routes.specs.Room.{level}
use Rattle.logic.specs.Cases.{less}
use Rattle.routes.specs.Collect.{collect, routes}
use Rattle.laws.specs.Collect.{dbl}
use Rattle.tree.specs.Arrays.{Arrays, node, depth_of, held}
use Rattle.tree.specs.Shape.{Shape}
use Rattle.tree.specs.Need.{held_at}
use Rattle.tree.specs.Taken.{First}
use Rattle.inside.specs.Inside.{inside}
use Rattle.inside.proofs.Below.{routes-inside}
use Rattle.totals.specs.Sums.{some, sum, Sums, counted, sum_inner, sum_outer, sum_none}
use Rattle.totals.specs.Counted.{collect-count, collect_last, collect_at, root_node, low-node, last_down, down-node, at_one}

module _ (A L : ℕ) (t : Arrays) (T : ℕ → ℕ → ℕ) (s : Shape A L t) (c : Sums A t T) (r : First A t) where
  abbrev f : ℕ → ℕ → ℕ
  f = held t

  -- what an array has in all, the root's length 0 aside
  halves : (v k : ℕ) → sum T (node t v (suc k)) 1 ≡ sum T (node t v (suc k)) 2 + sum T (node t v (suc k)) 3
  unfolding some
  halves v k =
      sum_inner A t T c (node t v (suc k)) 1 (low-node A L t T s c r v (suc k)) (omega arith) (omega arith)
      ∙ rw (at_one A L t T s c r v k) (omega arith)

  -- one slot from the next
  step_inner : (k d x v : ℕ) → 1 ≤ d → d < 8 → x < 2 ^ d
      → sum T (node t v k) (2 ^ d + x) ≡ some (f (v * 2 ^ d + x) (8 * k + d))
      + (sum T (node t v k) (2 ^ suc d + 2 * x) + sum T (node t v k) (2 ^ suc d + (2 * x + 1)))
  step_inner k d x v h w b =
      let two = pow-succ' 2 d in
      let y : 2 * (2 ^ d + x) ≡ 2 ^ suc d + 2 * x = omega (arith, two) in
      let z : 2 * (2 ^ d + x) + 1 ≡ 2 ^ suc d + (2 * x + 1) = omega (arith, two) in
      let g : 2 ^ d + x < cell_slots = omega (arith, two, pow_mono {i = suc d} {j = 8} (omega arith)) in
      sum_inner A t T c (node t v k) (2 ^ d + x) (low-node A L t T s c r v k) (omega (arith, pow_pos d)) g
      ∙ rw (z, y, held_at t v k d x h (omega arith) b)

  step_outer : (k x v : ℕ) → x < cell_count
      → sum T (node t v k) (cell_slots + x) ≡ some (f (v * 256 + x) (8 * k + 8)) + sum T
      (node t (v * 256 + x) (suc k)) 1
  step_outer k x v b =
      sum_outer A t T c (node t v k) x (low-node A L t T s c r v k) b
      ∙ rw (down-node A L t T s c r v k x b, held_at t v k 8 x (omega arith) (omega arith) b)

  -- a total is what lies below its slot: from the last bit up
  pub total_slot : (e k d x v : ℕ) → 8 * k + d + e ≡ 8 * L → 1 ≤ d → d ≤ 8 → x < 2 ^ d
      → sum T (node t v k) (2 ^ d + x) ≡ length (collect f e (v * 2 ^ d + x) (8 * k + d))
  total_slot zero k d x v p h w b =
      let ed : d ≡ 8 = omega arith in
      let bx : x < cell_count = rw ed at b in
      let y = v * 256 + x in
      let none = sum_none T (node t y (suc k)) 1 (last_down A L t T s c r y k (omega arith)) in
      rw ed (step_outer k x v bx ∙ rw (collect_last f y (8 * k + 8), none) (omega arith))
  total_slot (suc e) k d x v p h w b =
      let z = v * 2 ^ d + x in
      let l = 8 * k + d in
      let two = pow-succ' 2 d in
      less d 8
      (λ g _.
      (let low = total_slot e k (suc d) (2 * x) v (omega arith) (omega arith) g (omega (arith, two)) in
      let high = total_slot e k (suc d) (2 * x + 1) v (omega arith) (omega arith) g (omega (arith, two)) in
      let one = collect_at f e _ (8 * k + suc d) (2 * z) (suc l) (omega (arith, dbl v d)) (omega arith) in
      let other = collect_at f e _ (8 * k + suc d) (2 * z + 1) (suc l) (omega (arith, dbl v d)) (omega arith) in
      step_inner k d x v h g b ∙ rw (low ∙ one, high ∙ other) (sym (collect-count f e z l))))
      (λ g _.
      (let ed : d ≡ 8 = omega arith in
      let bx : x < cell_count = rw ed at b in
      let y = v * 256 + x in
      let m = 8 * k + 8 in
      let low = total_slot e (suc k) 1 0 y (omega arith) (omega arith) (omega arith) (omega arith) in
      let high = total_slot e (suc k) 1 1 y (omega arith) (omega arith) (omega arith) (omega arith) in
      let one = collect_at f e (y * 2 + 0) (8 * suc k + 1) (2 * y) (suc m) (omega arith) (omega arith) in
      let other = collect_at f e (y * 2 + 1) (8 * suc k + 1) (2 * y + 1) (suc m) (omega arith) (omega arith) in
      rw ed (step_outer k x v bx
      ∙ ap (λ (n : ℕ). some (f y m) + n) (halves y k ∙ ap₂ ◌+◌ (low ∙ one) (high ∙ other))
      ∙ sym (collect-count f e y m))))

  -- the root's length 0: all there is
  pub total_root : sum T 1 1 ≡ length (collect f (8 * L) 0 0)
  unfolding node held
  total_root =
      let m = 8 * L - 1 in
      let some = s.some_level in
      let e : 8 * L ≡ suc m = omega (arith, some) in
      let low = total_slot m 0 1 0 0 (omega (arith, some)) (omega arith) (omega arith) (omega arith) in
      let high = total_slot m 0 1 1 0 (omega (arith, some)) (omega arith) (omega arith) (omega arith) in
      rw e (sum_inner A t T c 1 1 s.many (omega arith) (omega arith)
      ∙ rw (low, high) (sym (collect-count f m 0 0)))

  pub counted-collect : (v l : ℕ) → l ≤ 8 * L → v < 2 ^ l → counted t T v l ≡ length (collect f (8 * L - l) v l)
  unfolding counted
  counted-collect v zero h b =
      let e : v ≡ 0 = omega arith in
      let w : 8 * L - 0 ≡ 8 * L = omega arith in
      rw (e, w) (rw (root_node t) total_root)
  counted-collect v (suc l) h b =
      let d = depth_of (suc l) in
      let k = level (suc l) in
      let m = 8 * L - suc l in
      let e : 8 * k + d ≡ suc l = omega arith in
      total_slot m k d (v % 2 ^ d) (v / 2 ^ d) (omega arith) (omega arith) (omega arith) (mod-lt v (pow_pos d))
      ∙ collect_at f m (v / 2 ^ d * 2 ^ d + v % 2 ^ d) (8 * k + d) v (suc l) (split v d) e

  -- the answer is the count over the whole list
  pub counted-inside : (v l : ℕ) → l ≤ 8 * L → v < 2 ^ l
      → counted t T v l ≡ inside (8 * L) (routes (8 * L) (held t)) (v * 2 ^ (8 * L - l)) l
  counted-inside v l h b = counted-collect v l h b ∙ sym (routes-inside (8 * L) f v l h b)
