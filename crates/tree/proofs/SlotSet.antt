-- One slot changed: the shape stays, and what is held changes at one prefix. Assumes nothing.
use Rattle.std.specs.Prelude.{◌≡◌, ◌⊎◌, ◌≢◌}
use Rattle.std.proofs.Math.Path.{refl, sym}
use Rattle.std.proofs.Common.{ap, ap₂, ◌∙◌, inl, inr, ⊎_elim, mod-lt, mul-le-mul_right, pow_pos, pow_mono, pow-add, shr_lt}
use Prim.Native.Nat.{ℕ, zero, suc, ◌+◌, ◌-◌, ◌*◌, ◌/◌, ◌%◌, ◌^◌, ◌≤◌, ◌<◌}
use native.Mathlib.Omega.{arith}
use Rattle.std.proofs.Math.Pow.{split, high, low}
use Rattle.logic.specs.Cases.{same, tri}
use Rattle.sizes.specs.Sizes.{slot_end, cell_count}
use Rattle.routes.specs.Route.{remove, key}
use Rattle.laws.specs.Collect.{Off, routes-remove}
use Rattle.routes.specs.Collect.{routes, route_of}
use Rattle.routes.specs.Room.{level}
use Rattle.tree.specs.Arrays.{Arrays, par, cell, at, node, depth_of, slot_of, held}
use Rattle.tree.specs.Shape.{Child, ParentLinks, Shape}
use Rattle.tree.specs.Tree.{down_zero, down_some, node-level}
use Rattle.tree.proofs.Tree.{node_inj}
use Rattle.tree.specs.Need.{at_some, slot_some, slot_within}
use Rattle.tree.specs.SlotSet.{TreeSlotSet, same_node, slot_one, Place, at_none, slot_set_here}

module _ (A L : ℕ) (t u : Arrays) (b q k d x h : ℕ) (s : Shape A L t) (p : Place A L t b q k d x)
    (g : TreeSlotSet t u b (2 ^ d + x) h) where
  pub slot_set_off : (W : ℕ) → Off W (q * 2 ^ d + x) (8 * k + d) (held t) (held u)
  unfolding held
  slot_set_off W v l w small n = rw (same_node t u g.tags g.links (v / 2 ^ e) j) (sym (at_same (node t (v / 2 ^ e) j) refl))
    where
      j : ℕ
      j = level l

      e : ℕ
      e = depth_of l

      y : ℕ
      y = v % 2 ^ e

      sum : 8 * j + e ≡ l
      sum = omega arith

      yl : y < 2 ^ e
      yl = mod-lt v (pow_pos e)

      hd : v / 2 ^ e < 2 ^ (8 * j)
      hd = shr_lt (8 * j) e (rw sum small)

      apart : node t (v / 2 ^ e) j ≡ b → 2 ^ e + y ≢ 2 ^ d + x
      apart r z =
          let o = slot_one e d y x yl p.small z in
          let i = node_inj A L t s j k (v / 2 ^ e) q (rw r p.array) (r ∙ sym p.leads) hd p.head in
          n (
            sym (split v e) ∙ ap (λ (m : ℕ). m * 2 ^ e + v % 2 ^ e) i.1
                ∙ ap₂ (λ (m z : ℕ). q * 2 ^ m + z) o.0 o.1,
            sym sum ∙ ap₂ (λ (m z : ℕ). 8 * m + z) i.0 o.0,
          )

      at_same : (c : ℕ) → node t (v / 2 ^ e) j ≡ c → at u c (2 ^ e + y) ≡ at t c (2 ^ e + y)
      at_same c r =
          same c 0
          (λ z _. at_none u c (2 ^ e + y) z ∙ sym (at_none t c (2 ^ e + y) z))
          (λ m _. (let o : 1 ≤ c = omega arith in
          at_some u c (2 ^ e + y) o
          ∙ g.slots c (2 ^ e + y) o (slot_some v l) (slot_within v l) (same c b (λ z _. inr (apart (r ∙ z))) (λ z _. inl z))
          ∙ sym (at_some t c (2 ^ e + y) o)))

  pub slot_set-remove : (W : ℕ) → W < 256 → 8 * k + d ≤ W → h ≡ 0
      → routes W (held u) ≡ remove (key (route_of (W - (8 * k + d)) (q * 2 ^ d + x) (8 * k + d) h)) (routes W (held t))
  slot_set-remove W w f z =
      routes-remove W w (held t) (held u) (q * 2 ^ d + x) (8 * k + d) f fits (slot_set_off W)
      (slot_set_here A L t u b q k d x h s p g ∙ z)
    where
      fits : q * 2 ^ d + x < 2 ^ (8 * k + d)
      fits = omega (arith, pow-add 2 (8 * k) d, mul-le-mul_right (2 ^ d) p.head, p.small)
