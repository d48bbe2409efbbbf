-- What is added to the totals where a slot is taken: 1 at the slot and its ancestors in its array, and in each array above at the
-- cell's slot and its ancestors. Assumes nothing.
--
--     slot 19 of array 2, below cell 10 of array 1        array 2: 19, 9, 4, 2, 1        array 1: 266, 133, 66, 33, .. 1
use Rattle.std.specs.Prelude.{◌≡◌, ℕ, zero, suc, ◌+◌, ◌*◌, ◌/◌, ◌<◌, ◌≤◌}
use native.Mathlib.Omega.{arith}
use Rattle.logic.specs.Cases.{same}
use Rattle.sizes.specs.Sizes.{cell_count, cell_slots, slot_end}
use Rattle.tree.specs.Arrays.{Arrays, node}
use Rattle.tree.specs.Shape.{Shape}
use Rattle.tree.specs.Tree.{node-up}
use Rattle.totals.specs.Sums.{sum, sum_none, sum_some}
use Rattle.totals.specs.Cover.{is, is_other}
use Rattle.totals.specs.Marks.{cell_slot_of, mark, spot, mark_zero, mark_suc, part_split, part_last, spot_off, part_one, one_cell}
use Rattle.totals.specs.Marks.{sum_zero}

pub mark_inner : (t : Arrays) (k v r a s : ℕ) → r < slot_end → 1 ≤ s → s < cell_slots
    → mark t v k r a s ≡ spot (node t v k) r a s + (mark t v k r a (2 * s) + mark t v k r a (2 * s + 1))
unfolding node
mark_inner t zero v r a s w h l =
    rw (mark_zero t v r a s, mark_zero t v r a (2 * s), mark_zero t v r a (2 * s + 1)) (part_split 1 r a s w h)
mark_inner t (suc k) v r a s w h l =
    let up = mark_inner t k (v / 256) (cell_slot_of v) a s (omega arith) h l in
    let off = spot_off (node t (v / 256) k) (cell_slot_of v) a s (omega arith) in
    rw (mark_suc t v k r a s, mark_suc t v k r a (2 * s), mark_suc t v k r a (2 * s + 1))
    (omega (arith, part_split (node t v (suc k)) r a s w h, up, off))

module _ (A L : ℕ) (t : Arrays) (shape : Shape A L t) where
  sum_suc : (v k r b : ℕ) → 1 ≤ r → r < slot_end → 1 ≤ node t v (suc k)
      → sum (mark t v (suc k) r) b 1 ≡ is b (node t v (suc k)) + sum (mark t (v / 256) k (cell_slot_of v)) b 1
  sum_suc v k r b h w p =
      let m = mark t v (suc k) r in
      let up = mark t (v / 256) k (cell_slot_of v) in
      let c = node t v (suc k) in
      same b 0
      (λ e _. rw (sum_none m b 1 e, sum_none up b 1 e, is_other b c (λ q. omega arith)))
      (λ n _. rw (
        sum_some m b 1 (omega arith),
        sum_some up b 1 (omega arith),
        mark_suc t v k r b 1,
        (part_one A L t shape) c r b h w,
      ))

  pub mark_outer : (k v r a i : ℕ) → 1 ≤ r → r < slot_end → 1 ≤ a → a ≤ A → i < cell_count → 1 ≤ node t v k
      → mark t v k r a (cell_slots + i) ≡ spot (node t v k) r a (cell_slots + i) + sum (mark t v k r) (t.link a i) 1
  unfolding node
  mark_outer zero v r a i h w g x b p =
      rw (sum_zero A L t shape v r a i h w g x b, mark_zero t v r a (cell_slots + i))
      (omega (arith, part_last 1 r a (cell_slots + i) w (omega arith)))
  mark_outer (suc k) v r a i h w g x b p =
      rw (sum_suc v k r (t.link a i) h w p, mark_suc t v k r a (cell_slots + i))
      (omega (
        arith,
        part_last (node t v (suc k)) r a (cell_slots + i) w (omega arith),
        mark_outer k (v / 256) (cell_slot_of v) a i (omega arith) (omega arith) g x b (node-up A L t shape v k p),
        (one_cell A L t shape) a i v k g x b p,
      ))
