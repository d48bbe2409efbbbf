-- What is to be taken away from a total is there: a slot's total is at most those of its ancestors, so each mark is at most the
-- total that it lowers. Assumes nothing.
use Rattle.std.specs.Prelude.{ℕ, zero, suc, ◌/◌, ◌<◌, ◌≤◌}
use Rattle.std.proofs.Common.{arith}
use Rattle.std.proofs.Math.Path.{ap}
use borrow.Author.Tests.{ne_eqb}
use Rattle.logic.specs.Cases.{same}
use Rattle.sizes.specs.Sizes.{slot_end}
use Rattle.tree.specs.Arrays.{Arrays, lev, node}
use Rattle.tree.specs.Shape.{Shape}
use Rattle.tree.specs.Tree.{node-level, node-up}
use Rattle.totals.specs.Sums.{Sums}
use Rattle.totals.specs.Marks.{part, cell_slot_of, mark, mark_zero, mark_suc}
use Rattle.totals.specs.Most.{part_most, mark_off, cell_some}

module _ (A L : ℕ) (t : Arrays) (T : ℕ → ℕ → ℕ) (shape : Shape A L t) (c : Sums A t T) where
  pub mark_most : (k v r a s : ℕ) → 1 ≤ node t v k → 1 ≤ r → r < slot_end → 1 ≤ T (node t v k) r → 1 ≤ a → a ≤ A → 1 ≤ s
      → mark t v k r a s ≤ T a s
  unfolding node part
  mark_most zero v r a s p l x g h w y = rw (mark_zero t v r a s) (part_most A L t T shape c 1 r a s h w l x y g)
  mark_most (suc k) v r a s p l x g h w y =
      let u = node-level A L t shape v (suc k) p in
      let z = cell_slot_of v in
      let up = node-up A L t shape v k p in
      let own = part_most A L t T shape c (node t v (suc k)) r a s h w l x y g in
      same a (node t v (suc k))
      (λ q _. rw (mark_suc t v k r a s, (mark_off A L t T shape c) k (v / 256) z a s up (omega (arith, u.level, ap (lev t) q)))
      (omega (arith, own)))
      (λ n _. rw (mark_suc t v k r a s, ne_eqb a (node t v (suc k)) n)
      (omega (arith, mark_most k (v / 256) z a s up (omega arith) (omega arith) (cell_some A L t T shape c k v r p l x g) h w y)))
