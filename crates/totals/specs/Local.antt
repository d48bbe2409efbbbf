-- The answer is a function of the arrays on the path: two tables that agree on these give the same. Assumes nothing.
use Rattle.std.specs.Prelude.{◌≡◌, ℕ, zero, suc, ◌+◌, ◌-◌, ◌*◌, ◌/◌, ◌%◌, ◌^◌, ◌<◌, ◌≤◌}
use Rattle.std.proofs.Math.Path.{refl, sym, ap}
use Rattle.std.proofs.Common.{◌∙◌}
use native.Mathlib.Omega.{arith}
use Rattle.std.proofs.Math.Pow.{shr-shr}
use Rattle.sizes.specs.Sizes.{cell_count, slot_end}
use Rattle.routes.specs.Room.{level}
use Rattle.logic.specs.Cases.{same}
use Rattle.tree.specs.Arrays.{Arrays, node, depth_of, slot_of}
use Rattle.tree.specs.Need.{slot_some, slot_within}
use Rattle.tree.specs.Tree.{down_some, down_zero}
use Rattle.totals.specs.Sums.{counted, sum_none, sum_some}

-- array a has the same links and totals
pub record Alike (t u : Arrays) (T U : ℕ → ℕ → ℕ) (a : ℕ) : Type 0 where
  pub links : (i : ℕ) → i < cell_count → u.link a i ≡ t.link a i
  pub totals : (s : ℕ) → 1 ≤ s → s < slot_end → U a s ≡ T a s

module _ (t u : Arrays) where
  -- the array of level j above the prefix v of level k, where the links are the same
  abbrev Linked : ℕ → ℕ → ℕ → Type 0
  Linked k v j =
      let a = node t (v / 2 ^ (8 * (k - j))) j in
      1 ≤ a → (i : ℕ) → i < cell_count → u.link a i ≡ t.link a i

  pub path_same : (k v : ℕ) → ((j : ℕ) → j < k → Linked k v j) → node u v k ≡ node t v k
  unfolding node
  path_same zero v f = refl
  path_same (suc k) v f =
      let a = node t (v / 256) k in
      rw (path_same k (v / 256) (λ j h p. (let e : 8 * (suc k - j) ≡ 8 + 8 * (k - j) = omega arith in
      let q : v / 256 / 2 ^ (8 * (k - j)) ≡ v / 2 ^ (8 * (suc k - j)) =
      shr-shr v 8 (8 * (k - j)) ∙ ap (λ (n : ℕ). v / 2 ^ n) (sym e) in
      rw q (f j (omega arith) (rw q at p)))))
      (same a 0
      (λ z _. down_zero u a (v % 256) z ∙ sym (down_zero t a (v % 256) z))
      (λ n _. (let h : 1 ≤ a = omega arith in
      let e : 8 * (suc k - k) ≡ 8 = omega arith in
      down_some u a (v % 256) h ∙ (rw e at (f k (omega arith))) h (v % 256) (omega arith) ∙ sym (down_some t a (v % 256) h))))

  -- the arrays of the first 8 * j bits of the prefix, from level 0 to its own
  pub local : (T U : ℕ → ℕ → ℕ) (v l : ℕ)
      → ((j : ℕ) → j ≤ level l → 1 ≤ node t (v / 2 ^ (l - 8 * j)) j → Alike t u T U (node t (v / 2 ^ (l - 8 * j)) j))
      → counted u U v l ≡ counted t T v l
  unfolding counted
  local T U v l f =
      let d = depth_of l in
      let k = level l in
      let a = node t (v / 2 ^ d) k in
      let x = slot_of v l in
      rw (path_same k (v / 2 ^ d) (λ j h p i b. (let e : l - 8 * j ≡ d + 8 * (k - j) = omega arith in
      let q : v / 2 ^ d / 2 ^ (8 * (k - j)) ≡ v / 2 ^ (l - 8 * j) =
      shr-shr v d (8 * (k - j)) ∙ ap (λ (n : ℕ). v / 2 ^ n) (sym e) in
      rw q ((f j (omega arith) (rw q at p)).links i b))))
      (same a 0
      (λ z _. sum_none U a x z ∙ sym (sum_none T a x z))
      (λ n _. (let h : 1 ≤ a = omega arith in
      sum_some U a x h ∙ (f k (omega arith) h).totals x (slot_some v l) (slot_within v l) ∙ sym (sum_some T a x h))))
