-- Arrays of this shape are a tree: one path leads to each used array. Assumes nothing.
use Rattle.std.specs.Prelude.{◌≡◌, refl}
use Rattle.std.proofs.Math.Path.{sym, ap}
use Rattle.std.proofs.Common.{◌∙◌, ⊎_elim, pow-add}
use Prim.Native.Nat.{ℕ, zero, suc, ◌+◌, ◌*◌, ◌/◌, ◌%◌, ◌^◌, ◌≤◌, ◌<◌}
use native.Mathlib.Omega.{arith}
use Rattle.logic.specs.Cases.{same}
use Rattle.sizes.specs.Sizes.{cell_count, level_bound}
use Rattle.array.specs.Tag.{tag_of}
use Rattle.tree.specs.Arrays.{Arrays, par, cell, lev, down, at, node}
use Rattle.tree.specs.Shape.{Child, ParentLinks, Shape}

-- eight bits more
pub pow8 : (k : ℕ) → 2 ^ (8 * suc k) ≡ 256 * 2 ^ (8 * k)
pow8 k = let e : 8 * suc k ≡ 8 + 8 * k = omega arith in rw e (pow-add 2 8 (8 * k))

pub decode : (p q i j x y : ℕ) → i < cell_count → j < cell_count → x < level_bound → y < level_bound → tag_of p i x ≡ tag_of q j y
    → (p ≡ q) × (i ≡ j)
decode p q i j x y a b c d e = let h : p ≡ q = omega arith in (h, omega arith)

pub down_zero : (t : Arrays) (a i : ℕ) → a ≡ 0 → down t a i ≡ 0
unfolding down
down_zero t a i e = rw e

pub down_some : (t : Arrays) (a i : ℕ) → 1 ≤ a → down t a i ≡ t.link a i
unfolding down
down_some t zero i h = absurd (omega arith)
down_some t (suc a) i h = refl

pub node_suc : (t : Arrays) (v k : ℕ) → node t v (suc k) ≡ down t (node t (v / 256) k) (v % 256)
unfolding node
node_suc t v k = refl

-- an array of level k
pub record Level (A : ℕ) (t : Arrays) (a k : ℕ) : Type 0 where
  pub some : 1 ≤ a
  pub within : a ≤ A
  pub level : lev t a ≡ k + 1

module _ (A L : ℕ) (t : Arrays) (s : Shape A L t) where
  -- a link that leads somewhere
  pub child : (a i : ℕ) → 1 ≤ a → a ≤ A → i < cell_count → 1 ≤ t.link a i → Child A L t a i (t.link a i)
  child a i h w j p =
      ⊎_elim (λ (z : t.link a i ≡ 0). absurd (omega arith)) (λ (c : Child A L t a i (t.link a i)). c) (s.links a i h w j)

  pub parent_links : (a : ℕ) → 2 ≤ a → a ≤ A → 1 ≤ t.tag a → ParentLinks A t a
  parent_links a h w p = ⊎_elim (λ (z : t.tag a ≡ 0). absurd (omega arith)) (λ (c : ParentLinks A t a). c) (s.tags a h w)

  -- a used array that is not the root is its parent's child
  pub is_child : (a : ℕ) → 2 ≤ a → a ≤ A → 1 ≤ t.tag a → Child A L t (par t a) (cell t a) a
  is_child a h w p =
      let g = parent_links a h w p in
      rw g.back at (child (par t a) (cell t a) g.some g.within (omega arith) (omega (arith, g.back)))

  pub node-level : (v k : ℕ) → 1 ≤ node t v k → Level A t (node t v k) k
  unfolding node
  node-level v zero p = record { some = p; within = s.many; level = omega (arith, s.root) }
  node-level v (suc k) p =
      same (node t (v / 256) k) 0
      (λ z _. absurd (omega (arith, down_zero t (node t (v / 256) k) (v % 256) z)))
      (λ n _.
      let u = node-level (v / 256) k (omega arith) in
      let e = down_some t (node t (v / 256) k) (v % 256) u.some in
      let c = child (node t (v / 256) k) (v % 256) u.some u.within (omega arith) (omega arith) in
      rw e (record { some = c.some; within = c.within; level = omega (arith, c.named, c.deep, s.levels, u.level) }))

  -- the parent of an array on a path
  pub node-up : (v k : ℕ) → 1 ≤ node t v (suc k) → 1 ≤ node t (v / 256) k
  node-up v k p =
      same (node t (v / 256) k) 0
      (λ z _. absurd (omega (arith, node_suc t v k, down_zero t (node t (v / 256) k) (v % 256) z)))
      (λ n _. omega arith)

  pub node_tag : (v k : ℕ) → 1 ≤ node t v (suc k) → t.tag (node t v (suc k)) ≡ tag_of (node t (v / 256) k) (v % 256) (k + 2)
  node_tag v k p =
      let u = node-level (v / 256) k (node-up v k p) in
      let e : node t v (suc k) ≡ t.link (node t (v / 256) k) (v % 256) = node_suc t v k ∙ down_some t (node t (v / 256) k)
      (v % 256) u.some in
      let c = child (node t (v / 256) k) (v % 256) u.some u.within (omega arith) (omega arith) in
      rw e (omega (arith, c.named, u.level))

-- the path that the tags tell
unfoldable pub path : Arrays → ℕ → ℕ → ℕ
path t zero a = 0
path t (suc n) a = path t n (par t a) * 256 + cell t a

pub record Reached (t : Arrays) (n a : ℕ) : Type 0 where
  pub leads : node t (path t n a) n ≡ a
  pub small : path t n a < 2 ^ (8 * n)

module _ (A L : ℕ) (t : Arrays) (s : Shape A L t) where
  -- only the root has level 0
  is_root : (a : ℕ) → 1 ≤ a → a ≤ A → lev t a ≡ 1 → a ≡ 1
  is_root a h w e =
      same a 1 (λ q _. q) (λ n _.
      let c = is_child A L t s a (omega arith) w (omega arith) in
      absurd (omega (arith, c.named, c.used, c.deep, s.levels)))

  pub used-level : (a : ℕ) → 1 ≤ a → a ≤ A → 1 ≤ t.tag a → (1 ≤ lev t a) × (lev t a ≤ L)
  used-level a h w p =
      same a 1 (λ q _. rw q (omega (arith, s.root, s.some_level))) (λ n _.
      let c = is_child A L t s a (omega arith) w p in
      (omega (arith, c.named, c.used, c.deep, s.levels), omega (arith, c.named, c.used, c.deep, s.levels)))

  pub reach : (n a : ℕ) → 1 ≤ a → a ≤ A → lev t a ≡ suc n → Reached t n a
  unfolding path node
  reach zero a h w e = record { leads = sym (is_root a h w e); small = omega arith }
  reach (suc n) a h w e =
      let g : 2 ≤ a = same a 1 (λ q _. absurd (omega (arith, s.root, ap (lev t) q))) (λ m _. omega arith) in
      let u = parent_links A L t s a g w (omega arith) in
      let c = is_child A L t s a g w (omega arith) in
      let r = reach n (par t a) u.some u.within (omega (arith, c.named, c.used, c.deep, s.levels)) in
      let x : (path t n (par t a) * 256 + cell t a) / 256 ≡ path t n (par t a) = omega arith in
      let y : (path t n (par t a) * 256 + cell t a) % 256 ≡ cell t a = omega arith in
      record {
        leads = rw (x, y, r.leads) (down_some t (par t a) (cell t a) u.some ∙ u.back);
        small = omega (arith, pow8 n, r.small);
      }
