-- What is added to the totals where a slot is taken: 1 at the slot and its ancestors in its array, and in each array above at the
-- cell's slot and its ancestors. Assumes nothing.
--
--     slot 19 of array 2, below cell 10 of array 1        array 2: 19, 9, 4, 2, 1        array 1: 266, 133, 66, 33, .. 1
use Rattle.std.specs.Prelude.{◌≡◌, ℕ, zero, suc, ◌+◌, ◌-◌, ◌*◌, ◌/◌, ◌%◌, ◌^◌, ◌<◌, ◌≤◌, cond, ◌≢◌, ◌==◌, refl}
use Rattle.std.proofs.Common.{sym, ap, ◌∙◌}
use native.Mathlib.Omega.{arith}
use Rattle.logic.specs.Cases.{same}
use Rattle.sizes.specs.Sizes.{cell_count, cell_slots, slot_end, level_bound}
use Rattle.tree.specs.Arrays.{Arrays, lev, node}
use Rattle.tree.specs.Shape.{Shape}
use Rattle.tree.specs.Tree.{decode, node_suc, node-level, node_tag, node-up, down_some, child}
use Rattle.totals.specs.Sums.{sum, sum_none, sum_some}
use Rattle.totals.specs.Local.{path_same}
use Rattle.totals.specs.Cover.{is, is_same, is_other, above, above_one, above_split, above_last}

-- slot r of array b and its ancestors there
unfoldable pub part : ℕ → ℕ → ℕ → ℕ → ℕ
part b r a s = cond (a == b) (above 9 r s) 0

-- the slot of the cell that leads to the array of the path v
abbrev pub cell_slot_of : ℕ → ℕ
cell_slot_of v = cell_slots + v % 256

-- what is added to the total of slot s of array a, where slot r of the array of the path v of k levels changes
unfoldable pub mark : Arrays → ℕ → ℕ → ℕ → ℕ → ℕ → ℕ
mark t v zero r a s = part 1 r a s
mark t v (suc k) r a s = part (node t v (suc k)) r a s + mark t (v / 256) k (cell_slot_of v) a s

-- slot s of array a is slot r of array b
unfoldable pub spot : ℕ → ℕ → ℕ → ℕ → ℕ
spot b r a s = cond (a == b) (is r s) 0

-- ---- in one array

pub mark_zero : (t : Arrays) (v r a s : ℕ) → mark t v zero r a s ≡ part 1 r a s
unfolding mark
mark_zero t v r a s = refl

pub mark_suc : (t : Arrays) (v k r a s : ℕ)
    → mark t v (suc k) r a s ≡ part (node t v (suc k)) r a s + mark t (v / 256) k (cell_slot_of v) a s
unfolding mark
mark_suc t v k r a s = refl

pub part_split : (b r a s : ℕ) → r < slot_end → 1 ≤ s
    → part b r a s ≡ spot b r a s + (part b r a (2 * s) + part b r a (2 * s + 1))
unfolding part spot
part_split b r a s w h = same a b (λ q e. rw e (above_split 9 r s h w)) (λ n e. rw e)

pub part_last : (b r a s : ℕ) → r < slot_end → cell_slots ≤ s → part b r a s ≡ spot b r a s
unfolding part spot
part_last b r a s w h = same a b (λ q e. rw e (above_last 9 r s (omega arith) w)) (λ n e. rw e)

-- a slot is below no other of its row
pub spot_off : (b r a s : ℕ) → s < r → spot b r a s ≡ 0
unfolding spot
spot_off b r a s h = same a b (λ q e. rw e (is_other r s (λ z. omega arith))) (λ n e. rw e)

-- ---- from an array to the one above

module _ (A L : ℕ) (t : Arrays) (shape : Shape A L t) where
  pub part_one : (b r a : ℕ) → 1 ≤ r → r < slot_end → part b r a 1 ≡ is a b
  unfolding part is
  part_one b r a h w = same a b (λ q e. rw e (above_one 9 r h w)) (λ n e. rw e)

  not_root : (a i : ℕ) → 1 ≤ a → a ≤ A → i < cell_count → t.link a i ≢ 1
  not_root a i h w b e =
      let c = child A L t shape a i h w b (omega arith) in
      omega (arith, shape.root, c.named, ap t.tag e)

  -- a cell leads to an array of the path only as the path does
  cell_back : (a i v k : ℕ) → 1 ≤ a → a ≤ A → i < cell_count → 1 ≤ node t v (suc k) → t.link a i ≡ node t v (suc k)
      → (a ≡ node t (v / 256) k) × (i ≡ v % 256)
  cell_back a i v k h w b p x =
      let c = child A L t shape a i h w b (omega arith) in
      let u = node-level A L t shape v (suc k) p in
      let deep : lev t a + 1 < level_bound = omega (arith, c.deep, shape.levels) in
      decode a (node t (v / 256) k) i (v % 256) (lev t a + 1) (k + 2) b (omega arith) deep (omega (arith, u.level))
      (sym c.named ∙ ap t.tag x ∙ node_tag A L t shape v k p)

  pub one_cell : (a i v k : ℕ) → 1 ≤ a → a ≤ A → i < cell_count → 1 ≤ node t v (suc k)
      → spot (node t (v / 256) k) (cell_slot_of v) a (cell_slots + i) ≡ is (t.link a i) (node t v (suc k))
  unfolding spot
  one_cell a i v k h w b p =
      let up = node t (v / 256) k in
      let here = node_suc t v k ∙ down_some t up (v % 256) (node-up A L t shape v k p) in
      let back = cell_back a i v k h w b p in
      same a up
      (λ q e. same i (v % 256)
      (λ z _. rw (e, is_same (cell_slot_of v) (cell_slots + i) (omega arith)) (sym (is_same _ _ (rw (q, z) (sym here)))))
      (λ z _. rw (e, is_other (cell_slot_of v) (cell_slots + i) (λ x. omega arith)) (sym (is_other _ _ (λ x. z (back x).1)))))
      (λ n e. rw e (sym (is_other _ _ (λ x. n (back x).0))))

  -- what is added to the total of a whole array
  pub sum_zero : (v r a i : ℕ) → 1 ≤ r → r < slot_end → 1 ≤ a → a ≤ A → i < cell_count
      → sum (mark t v zero r) (t.link a i) 1 ≡ 0
  sum_zero v r a i h w g x b =
      let m = mark t v zero r in
      let d = t.link a i in
      same d 0
      (λ e _. sum_none m d 1 e)
      (λ n _. sum_some m d 1 (omega arith) ∙ mark_zero t v r d 1 ∙ part_one 1 r d h w ∙ is_other _ _ (not_root a i g x b))

-- links alone make the marks
pub mark_same : (t u : Arrays) → ((c i : ℕ) → 1 ≤ c → i < cell_count → u.link c i ≡ t.link c i) → (k v r a s : ℕ)
    → mark u v k r a s ≡ mark t v k r a s
unfolding mark
mark_same t u f zero v r a s = refl
mark_same t u f (suc k) v r a s =
    let e = path_same t u (suc k) v (λ j h p i b. f (node t (v / 2 ^ (8 * (suc k - j))) j) i p b) in
    rw (e, mark_same t u f k (v / 256) (cell_slot_of v) a s)
