-- Arrays of this shape are a tree: one path leads to each used array. Assumes nothing.
use Rattle.std.specs.Prelude.{◌≡◌, refl}
use Rattle.std.proofs.Math.Path.{sym, ap}
use Rattle.std.proofs.Common.{◌∙◌, ⊎_elim, pow-add}
use Prim.Native.Nat.{ℕ, zero, suc, ◌+◌, ◌*◌, ◌/◌, ◌%◌, ◌^◌, ◌≤◌, ◌<◌}
use native.Mathlib.Omega.{arith}
use Rattle.logic.specs.Cases.{same}
use Rattle.sizes.specs.Sizes.{cell_count, level_bound}
use Rattle.array.specs.Tag.{tag_of}
use Rattle.tree.specs.Arrays.{Arrays, par, cell, lev, down, at, node}
use Rattle.tree.specs.Shape.{Child, ParentLinks, Shape}
use Rattle.tree.specs.Tree.{pow8, decode, node-level, node-up, node_tag}

module _ (A L : ℕ) (t : Arrays) (s : Shape A L t) where
  -- two paths of one length that meet are one
  meet : (k v w : ℕ) → 1 ≤ node t v k → node t v k ≡ node t w k → v < 2 ^ (8 * k) → w < 2 ^ (8 * k) → v ≡ w
  meet zero v w p e a b = omega arith
  meet (suc k) v w p e a b =
      let x = node_tag A L t s v k p in
      let y = node_tag A L t s w k (omega arith) in
      let z : t.tag (node t v (suc k)) ≡ t.tag (node t w (suc k)) = ap t.tag e in
      let l = (node-level A L t s v (suc k) p).level in
      let d = decode (node t (v / 256) k) (node t (w / 256) k) (v % 256) (w % 256) (k + 2) (k + 2) (omega arith) (omega arith)
      (omega arith) (omega arith) (sym x ∙ z ∙ y) in
      let q = meet k (v / 256) (w / 256) (node-up A L t s v k p) d.0 (omega (arith, pow8 k)) (omega (arith, pow8 k)) in
      omega (arith, d.1)

  pub node_inj : (k j v w : ℕ) → 1 ≤ node t v k → node t v k ≡ node t w j → v < 2 ^ (8 * k) → w < 2 ^ (8 * j) → (k ≡ j) × (v ≡ w)
  node_inj k j v w p e a b =
      let x = (node-level A L t s v k p).level in
      let y = (node-level A L t s w j (omega arith)).level in
      let z : lev t (node t v k) ≡ lev t (node t w j) = ap (lev t) e in
      let q : j ≡ k = omega arith in
      (sym q, meet k v w p (rw q at e) a (rw q at b))
