-- A total is the number of prefixes of the table's list inside its prefix. Assumes nothing.
use Rattle.std.specs.Prelude.{◌≡◌, ℕ, zero, suc, ◌+◌, ◌*◌, ◌/◌, ◌%◌, ◌<◌, ◌≤◌, length, refl}
use Rattle.std.proofs.Common.{sym, ◌∙◌, ne_eqb}
use native.Mathlib.Omega.{arith}
use Rattle.sizes.specs.Sizes.{cell_count}
use Rattle.logic.specs.Cases.{same}
use Rattle.routes.specs.Collect.{own, collect}
use Rattle.tree.specs.Arrays.{Arrays, down, at, node, held}
use Rattle.tree.specs.Shape.{Shape}
use Rattle.tree.specs.Tree.{node-level, node_suc, used-level}
use Rattle.tree.specs.Need.{at_some}
use Rattle.tree.specs.SlotSet.{at_none}
use Rattle.tree.specs.Taken.{First}
use Rattle.inside.specs.Below.{collect-length}
use Rattle.totals.specs.Sums.{some, Sums}

own-length : (d v l h : ℕ) → length (own d v l h) ≡ some h
unfolding some
own-length d v l zero = refl
own-length d v l (suc h) = rw (ne_eqb (suc h) 0 (λ e. omega arith))

module _ (f : ℕ → ℕ → ℕ) where
  -- what lies below u, a prefix of l bits with e bits below it
  abbrev size : ℕ → ℕ → ℕ → ℕ
  size e u l = length (collect f e u l)

  pub collect-count : (e u l : ℕ) → size (suc e) u l ≡ some (f u l) + (size e (2 * u) (suc l) + size e (2 * u + 1) (suc l))
  collect-count e u l = collect-length f e u l ∙ rw (own-length (suc e) u l (f u l))

  pub collect_last : (u l : ℕ) → size zero u l ≡ some (f u l)
  unfolding collect
  collect_last u l = own-length zero u l (f u l)

  -- the same prefix, in other words
  pub collect_at : (e u l u' l' : ℕ) → u ≡ u' → l ≡ l' → size e u l ≡ size e u' l'
  collect_at e u l u' l' p q = rw (p, q)

pub root_node : (t : Arrays) → node t 0 0 ≡ 1
unfolding node
root_node t = refl

module _ (A L : ℕ) (t : Arrays) (T : ℕ → ℕ → ℕ) (s : Shape A L t) (c : Sums A t T) (r : First A t) where
  abbrev pub f : ℕ → ℕ → ℕ
  f = held t

  pub low-node : (v k : ℕ) → node t v k ≤ A
  low-node v k = same (node t v k) 0 (λ e _. omega arith) (λ n _. (node-level A L t s v k (omega arith)).within)

  -- below the last level is nothing
  pub last_down : (v k : ℕ) → suc k ≡ L → node t v (suc k) ≡ 0
  last_down v k e =
      same (node t v (suc k)) 0
      (λ z _. z)
      (λ n _. (let u = node-level A L t s v (suc k) (omega arith) in
      let h = (used-level A L t s (node t v (suc k)) u.some u.within (omega (arith, u.level))).1 in
      absurd (omega (arith, u.level, h))))

  -- the array below a cell
  pub down-node : (v k x : ℕ) → x < cell_count → down t (node t v k) x ≡ node t (v * 256 + x) (suc k)
  down-node v k x h =
      let e : (v * 256 + x) / 256 ≡ v = omega arith in
      let g : (v * 256 + x) % 256 ≡ x = omega arith in
      sym (node_suc t (v * 256 + x) k ∙ rw (e, g))

  -- below the root no array holds anything of length 0
  pub at_one : (v k : ℕ) → at t (node t v (suc k)) 1 ≡ 0
  at_one v k =
      let a = node t v (suc k) in
      same a 0
      (λ e _. at_none t a 1 e)
      (λ n _. (let u = node-level A L t s v (suc k) (omega arith) in
      at_some t a 1 u.some ∙ r a u.some u.within (omega (arith, u.level))))
