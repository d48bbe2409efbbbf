-- An empty array hung below a cell, or taken from it: the shape stays and nothing held changes. Assumes nothing.
use Rattle.std.specs.Prelude.{◌≡◌, ◌⊎◌, ◌≢◌}
use Rattle.std.proofs.Math.Path.{refl, sym}
use Rattle.std.proofs.Common.{ap, ap₂, ◌∙◌, inr, eq-eqb, ne_eqb}
use Rattle.std.proofs.Math.Logic.{inl, ⊎_elim}
use Prim.Native.Nat.{ℕ, zero, suc, ◌+◌, ◌/◌, ◌%◌, ◌^◌, ◌≤◌, ◌<◌}
use native.Mathlib.Omega.{arith}
use Rattle.logic.specs.Cases.{same}
use Rattle.sizes.specs.Sizes.{slot_end, cell_count, level_bound}
use Rattle.routes.specs.Room.{level}
use Rattle.array.specs.Tag.{tag_of, level_in}
use Rattle.tree.specs.Arrays.{Arrays, par, cell, lev, down, at, node, depth_of, slot_of, held, used_in}
use Rattle.tree.specs.Shape.{Child, ParentLinks, Shape, HasSlot, HasLink, Filled}
use Rattle.tree.specs.Tree.{decode, down_some, down_zero}
use Rattle.tree.specs.Need.{at_some, slot_some, slot_within}

-- u is t with the empty array a hung below cell i of p
pub record HungBelow (A L : ℕ) (t u : Arrays) (p i a : ℕ) : Type 0 where
  pub some : 2 ≤ a
  pub within : a ≤ A
  pub parent : 1 ≤ p
  pub inside : p ≤ A
  pub cells : i < cell_count
  pub used : 1 ≤ lev t p
  pub deep : lev t p < L
  pub free : t.tag a ≡ 0
  pub named : u.tag a ≡ tag_of p i (lev t p + 1)
  pub tags : (c : ℕ) → 1 ≤ c → c ≢ a → u.tag c ≡ t.tag c
  pub off : t.link p i ≡ 0
  pub on : u.link p i ≡ a
  pub links : (c j : ℕ) → 1 ≤ c → j < cell_count → (c ≢ p) ⊎ (j ≢ i) → u.link c j ≡ t.link c j
  pub slots : (c s : ℕ) → 1 ≤ c → 1 ≤ s → s < slot_end → u.slot c s ≡ t.slot c s
  pub no_link : (j : ℕ) → j < cell_count → t.link a j ≡ 0
  pub no_slot : (s : ℕ) → 1 ≤ s → s < slot_end → t.slot a s ≡ 0

-- cell i of p, or another
pub cell-cases : {P : Type 0} (c j p i : ℕ) → (c ≡ p → j ≡ i → P) → ((c ≢ p) ⊎ (j ≢ i) → P) → P
cell-cases c j p i x y = same c p (λ e _. same j i (λ d _. x e d) (λ n _. y (inr n))) (λ n _. y (inl n))

module _ (A L : ℕ) (t u : Arrays) (p i a : ℕ) (h : HungBelow A L t u p i a) where
  pub other : p ≢ a
  other e = let z : t.tag p ≡ t.tag a = ap t.tag e in omega (arith, h.used, h.free)

  lev_same : (c : ℕ) → 1 ≤ c → c ≢ a → lev u c ≡ lev t c
  lev_same c k n = ap level_in (h.tags c k n)

  par_is : L < level_bound → par u a ≡ p
  par_is l = omega (arith, h.named, h.cells, h.deep)

  cell_is_lem : L < level_bound → cell u a ≡ i
  cell_is_lem l = omega (arith, h.named, h.cells, h.deep)

  pub hang_shape : Shape A L t → Shape A L u
  hang_shape s = record {
    many = s.many;
    some_level = s.some_level;
    levels = s.levels;
    root = h.tags 1 (omega arith) (omega (arith, h.some)) ∙ s.root;
    links = λ c j k w b. cell-cases c j p i
        (λ e d. rw (e, d, h.on) (inr (record {
          some = omega (arith, h.some);
          within = h.within;
          used = rw (lev_same p h.parent other) h.used;
          deep = rw (lev_same p h.parent other) h.deep;
          named = rw (lev_same p h.parent other) h.named;
        })))
        (λ n. rw (h.links c j k b n) (⊎_elim (λ (z : t.link c j ≡ 0). inl z)
        (λ (z : Child A L t c j (t.link c j)). inr (keeps c j k z)) (s.links c j k w b)));
    tags = λ c k w. same c a
        (λ e _. rw e (inr (record {
          some = rw (par_is s.levels) h.parent;
          within = rw (par_is s.levels) h.inside;
          back = rw (par_is s.levels, cell_is_lem s.levels) h.on;
        })))
        (λ n _. ⊎_elim (λ (z : t.tag c ≡ 0). inl (h.tags c (omega arith) n ∙ z))
        (λ (z : ParentLinks A t c). inr (hung_keeps c k n z))
        (s.tags c k w));
  }
    where
      keeps : (c j : ℕ) → 1 ≤ c → Child A L t c j (t.link c j) → Child A L u c j (t.link c j)
      keeps c j k z =
          let n : c ≢ a = λ e. (let q : t.tag c ≡ t.tag a = ap t.tag e in omega (arith, z.used, h.free)) in
          let m : t.link c j ≢ a = λ e. (let q : t.tag (t.link c j) ≡ t.tag a = ap t.tag e in
          omega (arith, z.named, h.free)) in
          record {
            some = z.some;
            within = z.within;
            used = rw (lev_same c k n) z.used;
            deep = rw (lev_same c k n) z.deep;
            named = rw (lev_same c k n) (h.tags (t.link c j) z.some m ∙ z.named);
          }

      hung_keeps : (c : ℕ) → 2 ≤ c → c ≢ a → ParentLinks A t c → ParentLinks A u c
      hung_keeps c k n z =
          let e : u.tag c ≡ t.tag c = h.tags c (omega arith) n in
          record {
            some = rw e z.some;
            within = rw e z.within;
            back = rw e (cell-cases (par t c) (cell t c) p i
                (λ x y. absurd (omega (arith, z.back, rw (← x, ← y) at h.off)))
                (λ m. h.links (par t c) (cell t c) z.some (omega arith) m ∙ z.back));
          }

  -- and the other way
  pub unhang_shape : Shape A L u → Shape A L t
  unhang_shape s = record {
    many = s.many;
    some_level = s.some_level;
    levels = s.levels;
    root = sym (h.tags 1 (omega arith) (omega (arith, h.some))) ∙ s.root;
    links = λ c j k w b. cell-cases c j p i
        (λ e d. rw (e, d) (inl h.off))
        (λ n. rw (← (h.links c j k b n)) (⊎_elim (λ (z : u.link c j ≡ 0). inl z)
        (λ (z : Child A L u c j (u.link c j)). inr (keeps c j k b n z)) (s.links c j k w b)));
    tags = λ c k w. same c a
        (λ e _. rw e (inl h.free))
        (λ n _. ⊎_elim (λ (z : u.tag c ≡ 0). inl (sym (h.tags c (omega arith) n) ∙ z))
        (λ (z : ParentLinks A u c). inr (hung_keeps c k n z)) (s.tags c k w));
  }
    where
      keeps : (c j : ℕ) → 1 ≤ c → j < cell_count → (c ≢ p) ⊎ (j ≢ i) → Child A L u c j (u.link c j)
          → Child A L t c j (u.link c j)
      keeps c j k b ne z =
          let n : c ≢ a = λ e. (let q : u.link c j ≡ 0 = h.links c j k b ne ∙ rw e (h.no_link j b) in
          omega (arith, z.some)) in
          let m : u.link c j ≢ a = λ e. (let q : u.tag (u.link c j) ≡ u.tag a = ap u.tag e in
          away (sym z.named ∙ q ∙ h.named)) in
          record {
            some = z.some;
            within = z.within;
            used = rw (← (lev_same c k n)) z.used;
            deep = rw (← (lev_same c k n)) z.deep;
            named = rw (← (lev_same c k n)) (sym (h.tags (u.link c j) z.some m) ∙ z.named);
          }
        where
          away : tag_of c j (lev u c + 1) ≡ tag_of p i (lev t p + 1) → ⊥
          away e =
              let d = decode c p j i (lev u c + 1) (lev t p + 1) b h.cells (omega (arith, z.deep, s.levels))
              (omega (arith, h.deep, s.levels)) e in
              ⊎_elim (λ (m : c ≢ p). m d.0) (λ (m : j ≢ i). m d.1) ne

      hung_keeps : (c : ℕ) → 2 ≤ c → c ≢ a → ParentLinks A u c → ParentLinks A t c
      hung_keeps c k n z =
          let e : u.tag c ≡ t.tag c = h.tags c (omega arith) n in
          record {
            some = rw (← e) z.some;
            within = rw (← e) z.within;
            back = rw (← e) (cell-cases (par u c) (cell u c) p i
                (λ x y. absurd (n (sym z.back ∙ ap₂ u.link x y ∙ h.on)))
                (λ m. sym (h.links (par u c) (cell u c) z.some (omega arith) m) ∙ z.back));
          }

  -- ---- nothing held changes

  -- a path leads to the same array, or to a where it led to none
  pub node-cases : Shape A L t → (v k : ℕ) → (node u v k ≡ node t v k) ⊎ ((node u v k ≡ a) × (node t v k ≡ 0))
  unfolding node
  node-cases s v zero = inl refl
  node-cases s v (suc k) = ⊎_elim
      (λ (e : node u (v / 256) k ≡ node t (v / 256) k). rw e (keep (node t (v / 256) k) (v % 256) (omega arith)))
      (λ (e : (node u (v / 256) k ≡ a) × (node t (v / 256) k ≡ 0)).
      rw (e.0, e.1) (inl (down_some u a (v % 256) (omega (arith, h.some)) ∙ h.links a (v % 256) (omega (arith, h.some))
      (omega arith) (inl (λ q. other (sym q))) ∙ h.no_link (v % 256) (omega arith) ∙ sym (down_zero t 0 (v % 256) refl))))
      (node-cases s (v / 256) k)
    where
      keep : (b j : ℕ) → j < cell_count → (down u b j ≡ down t b j) ⊎ ((down u b j ≡ a) × (down t b j ≡ 0))
      keep b j w =
          same b 0
          (λ z _. inl (down_zero u b j z ∙ sym (down_zero t b j z)))
          (λ n _. (let g : 1 ≤ b = omega arith in
          rw (down_some u b j g, down_some t b j g)
          (cell-cases b j p i (λ x y. rw (x, y) (inr (h.on, h.off))) (λ m. inl (h.links b j g w m)))))

  at_same : (b s : ℕ) → 1 ≤ s → s < slot_end → at u b s ≡ at t b s
  unfolding at
  at_same zero s k w = refl
  at_same (suc b) s k w = h.slots (suc b) s (omega arith) k w

  at_empty : (s : ℕ) → 1 ≤ s → s < slot_end → at u a s ≡ 0
  at_empty s k w = at_same a s k w ∙ at_some t a s (omega (arith, h.some)) ∙ h.no_slot s k w

  pub hang_held : Shape A L t → (v l : ℕ) → held u v l ≡ held t v l
  unfolding held at
  hang_held s v l =
      let d = depth_of l in
      let x = slot_of v l in
      let lo = slot_some v l in
      let hi = slot_within v l in
      ⊎_elim
      (λ (e : node u (v / 2 ^ d) (level l) ≡ node t (v / 2 ^ d) (level l)). rw e (at_same (node t (v / 2 ^ d) (level l)) x lo hi))
      (λ (e : (node u (v / 2 ^ d) (level l) ≡ a) × (node t (v / 2 ^ d) (level l) ≡ 0)). rw (e.0, e.1) (at_empty x lo hi))
      (node-cases s (v / 2 ^ d) (level l))

  -- ---- the array that may be empty moves

  pub hang_filled : Filled A t p → Filled A u a
  hang_filled f c k w n x =
      same c p
      (λ e _. rw e (inr (record { i = i; high = h.cells; some = omega (arith, h.on, h.some) })))
      (λ m _. ⊎_elim
      (λ (z : HasSlot t c). inl (record {
        s = z.s;
        low = z.low;
        high = z.high;
        some = rw (h.slots c z.s (omega arith) (omega (arith, z.low)) z.high) z.some;
      }))
      (λ (z : HasLink t c). inr (record {
        i = z.i;
        high = z.high;
        some = rw (h.links c z.i (omega arith) z.high (inl m)) z.some;
      }))
      (f c k w m (rw (← (h.tags c (omega arith) n)) x)))

  pub unhang_filled : Filled A u a → Filled A t p
  unhang_filled f c k w m x =
      let n : c ≢ a = λ e. (let q : t.tag c ≡ t.tag a = ap t.tag e in omega (arith, h.free)) in
      ⊎_elim
      (λ (z : HasSlot u c). inl (record {
        s = z.s;
        low = z.low;
        high = z.high;
        some = rw (← (h.slots c z.s (omega arith) (omega (arith, z.low)) z.high)) z.some;
      }))
      (λ (z : HasLink u c). inr (record {
        i = z.i;
        high = z.high;
        some = rw (← (h.links c z.i (omega arith) z.high (inl m))) z.some;
      }))
      (f c k w n (rw (h.tags c (omega arith) n) x))

  -- of the arrays lo + 1 .. lo + n
  pub used_out : (lo n : ℕ) → (a ≤ lo) ⊎ (lo + n < a) → used_in u lo n ≡ used_in t lo n
  used_out lo zero w = refl
  used_out lo (suc n) w =
      let k : lo + suc n ≢ a = λ e. ⊎_elim (λ (z : a ≤ lo). omega arith) (λ (z : lo + suc n < a). omega arith) w in
      let v : (a ≤ lo) ⊎ (lo + n < a) = ⊎_elim (λ (z : a ≤ lo). inl z) (λ (z : lo + suc n < a). inr (omega arith)) w in
      rw (h.tags (lo + suc n) (omega arith) k, used_out lo n v)

  pub used-inside : (lo n : ℕ) → lo < a → a ≤ lo + n → used_in u lo n ≡ used_in t lo n + 1
  used-inside lo zero w z = absurd (omega arith)
  used-inside lo (suc n) w z =
      same (lo + suc n) a
      (λ e _. (let x : u.tag (lo + suc n) ≢ 0 = λ z. omega (arith, h.named, ap u.tag e) in
      let y : t.tag (lo + suc n) ≡ 0 = ap t.tag e ∙ h.free in
      rw (ne_eqb (u.tag (lo + suc n)) 0 x, eq-eqb (t.tag (lo + suc n)) 0 y) (omega (arith, used_out lo n (inr (omega arith))))))
      (λ m _. rw (h.tags (lo + suc n) (omega arith) m, used-inside lo n w (omega arith)) (omega arith))
