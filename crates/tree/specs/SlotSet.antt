-- One slot changed: the shape stays, and what is held changes at one prefix. Assumes nothing.
use Rattle.std.specs.Prelude.{◌≡◌, ◌⊎◌, ◌≢◌}
use Rattle.std.proofs.Math.Path.{refl, sym}
use Rattle.std.proofs.Common.{ap, ap₂, ◌∙◌, inl, inr, ⊎_elim, mod-lt, mul-le-mul_right, pow_pos, pow_mono, pow-add, shr_lt}
use Prim.Native.Nat.{ℕ, zero, suc, ◌+◌, ◌-◌, ◌*◌, ◌/◌, ◌%◌, ◌^◌, ◌≤◌, ◌<◌}
use native.Mathlib.Omega.{arith}
use Rattle.std.proofs.Math.Pow.{split, high, low}
use Rattle.logic.specs.Cases.{same, tri}
use Rattle.sizes.specs.Sizes.{slot_end, cell_count}
use Rattle.routes.specs.Route.{remove, key}
use Rattle.laws.specs.Collect.{Off, routes-remove}
use Rattle.routes.specs.Collect.{routes, route_of}
use Rattle.routes.specs.Room.{level}
use Rattle.tree.specs.Arrays.{Arrays, par, cell, at, node, depth_of, slot_of, held}
use Rattle.tree.specs.Shape.{Child, ParentLinks, Shape}
use Rattle.tree.specs.Tree.{down_zero, down_some, node-level}
use Rattle.tree.specs.Need.{at_some, slot_some, slot_within}

-- u is t but for slot s of array b, which holds h
pub record TreeSlotSet (t u : Arrays) (b s h : ℕ) : Type 0 where
  pub tags : (c : ℕ) → 1 ≤ c → u.tag c ≡ t.tag c
  pub links : (c i : ℕ) → 1 ≤ c → i < cell_count → u.link c i ≡ t.link c i
  pub here : u.slot b s ≡ h
  pub slots : (c r : ℕ) → 1 ≤ c → 1 ≤ r → r < slot_end → (c ≢ b) ⊎ (r ≢ s) → u.slot c r ≡ t.slot c r

-- tags and links alone make the shape and the paths
module _ (t u : Arrays) (tags : (c : ℕ) → 1 ≤ c → u.tag c ≡ t.tag c)
    (links : (c i : ℕ) → 1 ≤ c → i < cell_count → u.link c i ≡ t.link c i) where
  pub same_shape : (A L : ℕ) → Shape A L t → Shape A L u
  same_shape A L s = record {
    many = s.many;
    some_level = s.some_level;
    levels = s.levels;
    root = tags 1 (omega arith) ∙ s.root;
    links = λ a i h w b. rw (links a i h b) (⊎_elim (λ (z : t.link a i ≡ 0). inl z)
        (λ (z : Child A L t a i (t.link a i)). inr (record {
          some = z.some;
          within = z.within;
          used = rw (tags a h) z.used;
          deep = rw (tags a h) z.deep;
          named = rw (tags a h) (tags (t.link a i) z.some ∙ z.named);
        })) (s.links a i h w b));
    tags = λ a h w. ⊎_elim (λ (z : t.tag a ≡ 0). inl (tags a (omega arith) ∙ z))
        (λ (z : ParentLinks A t a). (let e = tags a (omega arith) in inr (record {
          some = rw e z.some;
          within = rw e z.within;
          back = rw e (links (par t a) (cell t a) z.some (omega arith) ∙ z.back);
        }))) (s.tags a h w);
  }

  pub same_node : (v k : ℕ) → node u v k ≡ node t v k
  unfolding node
  same_node v zero = refl
  same_node v (suc k) =
      rw (same_node (v / 256) k) (same (node t (v / 256) k) 0
      (λ z _. down_zero u (node t (v / 256) k) (v % 256) z ∙ sym (down_zero t (node t (v / 256) k) (v % 256) z))
      (λ n _. (let h : 1 ≤ node t (v / 256) k = omega arith in
      down_some u (node t (v / 256) k) (v % 256) h ∙ links (node t (v / 256) k) (v % 256) h (omega arith)
      ∙ sym (down_some t (node t (v / 256) k) (v % 256) h))))

-- two slots that are one have one length and value
pub slot_one : (d e x y : ℕ) → x < 2 ^ d → y < 2 ^ e → 2 ^ d + x ≡ 2 ^ e + y → (d ≡ e) × (x ≡ y)
slot_one d e x y h w q =
    tri d e
    (λ l _. absurd (omega (arith, pow_mono {i = suc d} {j = e} l)))
    (λ z _ _. (z, omega (arith, ap (λ (n : ℕ). 2 ^ n) z)))
    (λ l _ _. absurd (omega (arith, pow_mono {i = suc e} {j = d} l)))

-- where a slot of level k and length d stands: the prefix q, x
pub record Place (A L : ℕ) (t : Arrays) (b q k d x : ℕ) : Type 0 where
  pub leads : node t q k ≡ b
  pub array : 1 ≤ b
  pub head : q < 2 ^ (8 * k)
  pub deep : d ≤ 8
  pub own : (1 ≤ d) ⊎ (k ≡ 0)
  pub small : x < 2 ^ d

level_at : (k d : ℕ) → d ≤ 8 → (1 ≤ d) ⊎ (k ≡ 0) → (8 * k + d - 1) / 8 ≡ k
level_at k d h w = ⊎_elim (λ (z : 1 ≤ d). omega arith) (λ (z : k ≡ 0). omega arith) w

pub held_place : (A L : ℕ) (t : Arrays) (b q k d x : ℕ) → Place A L t b q k d x
    → held t (q * 2 ^ d + x) (8 * k + d) ≡ t.slot b (2 ^ d + x)
unfolding held
held_place A L t b q k d x p =
    let f : (8 * k + d - 1) / 8 ≡ k = level_at k d p.deep p.own in
    let e : 8 * k + d - 8 * k ≡ d = omega arith in
    rw (f, e, high q d p.small, low q d p.small, p.leads) (at_some t b (2 ^ d + x) p.array)

pub at_none : (t : Arrays) (c s : ℕ) → c ≡ 0 → at t c s ≡ 0
unfolding at
at_none t c s e = rw e

-- what is held is nothing, or stands in a slot of a used array
pub held-cases : (A L : ℕ) (t : Arrays) → Shape A L t → (P : ℕ → Type 0) → P 0
    → ((a s : ℕ) → 1 ≤ a → a ≤ A → 1 ≤ t.tag a → 1 ≤ s → s < slot_end → P (t.slot a s)) → (v l : ℕ) → P (held t v l)
unfolding held
held-cases A L t sh P none some v l =
    let a = node t (v / 2 ^ depth_of l) (level l) in
    same a 0
    (λ z _. rw (at_none t a (slot_of v l) z) none)
    (λ n _. (let p = node-level A L t sh (v / 2 ^ depth_of l) (level l) (omega arith) in
    rw (at_some t a (slot_of v l) p.some)
    (some a (slot_of v l) p.some p.within (omega (arith, p.level)) (slot_some v l) (slot_within v l))))

module _ (A L : ℕ) (t u : Arrays) (b q k d x h : ℕ) (s : Shape A L t) (p : Place A L t b q k d x)
    (g : TreeSlotSet t u b (2 ^ d + x) h) where
  pub slot_set_here : held u (q * 2 ^ d + x) (8 * k + d) ≡ h
  slot_set_here = held_place A L u b q k d x here ∙ g.here
    where
      here : Place A L u b q k d x
      here =
          record {
            leads = same_node t u g.tags g.links q k ∙ p.leads;
            array = p.array;
            head = p.head;
            deep = p.deep;
            own = p.own;
            small = p.small;
          }
