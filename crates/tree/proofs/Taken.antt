-- The taken slots of a tree are as many as its routes: with each slot that is freed the list loses one route. Assumes nothing.
use Rattle.std.specs.Prelude.{◌≡◌, ◌≢◌, cond, List, [], ◌∷◌, eqb}
use Rattle.std.proofs.Math.Path.{refl, sym, ap}
use Rattle.std.proofs.Common.{◌∙◌, inl, inr, ⊎_elim, arith}
use Prim.Native.Nat.{ℕ, zero, suc, ◌+◌, ◌-◌, ◌*◌, ◌^◌, ◌≤◌, ◌<◌}
use Rattle.std.proofs.Math.Nat.{mul-le-mul_right}
use Rattle.std.proofs.Math.ListN.{length}
use Rattle.std.proofs.Math.Pow.{pow-add}
use borrow.Author.Tests.{eq-eqb, ne_eqb}
use Rattle.sizes.specs.Sizes.{last_slot, slot_end}
use Rattle.routes.specs.Route.{Route, key, hop_at, remove}
use Rattle.logic.specs.Cases.{same}
use Rattle.laws.specs.Sorted.{hop_skip}
use Rattle.laws.specs.Collect.{collect_none, routes_hop}
use Rattle.routes.specs.Collect.{routes, route_of}
use Rattle.slots.specs.Taken.{taken}
use Rattle.tree.specs.Arrays.{Arrays, lev, held}
use Rattle.tree.specs.Shape.{Shape}
use Rattle.tree.specs.Tree.{used-level, reach, path}
use Rattle.tree.specs.Need.{Binary, binary, depth_high}
use Rattle.tree.specs.SlotSet.{TreeSlotSet, Place, same_shape, held-cases, held_place}
use Rattle.tree.proofs.SlotSet.{slot_set-remove}
use Rattle.tree.specs.Taken.{taken_to, length-remove, one, Some, some, emptied, u, total_freed, slotted, First, held_none, place}

module _ (A L : ℕ) where
  -- as many slots are taken as there are routes
  pub taken-routes : (m : ℕ) (t : Arrays) → Shape A L t → First A t → taken_to t A ≡ m → m ≡ length (routes (8 * L) (held t))
  unfolding routes
  taken-routes zero t sh fi e = rw (collect_none (held t) (held_none A L t sh e) (8 * L) 0 0)
  taken-routes (suc m) t sh fi e =
      let o = some t A (λ z. omega arith) in
      let a = o.a in
      let s = o.slot.s in
      let u = emptied t a s in
      let b = binary slot_end s o.slot.low (omega (arith, o.slot.high)) in
      let d = b.d in
      let x = b.x in
      let p = place A L t sh fi o b in
      let k = lev t a - 1 in
      let q = path t k a in
      let lv = used-level A L t sh a o.low o.high (omega (arith, o.used)) in
      let w : 8 * L < 256 = omega (arith, sh.levels) in
      let f : 8 * k + d ≤ 8 * L = omega (arith, p.deep) in
      let g : TreeSlotSet t u a (2 ^ d + x) 0 = rw (← b.whole) (slotted t a s) in
      let less = slot_set-remove A L t u a q k d x 0 sh p g (8 * L) w f refl in
      let fits : q * 2 ^ d + x < 2 ^ (8 * k + d) =
      omega (arith, pow-add 2 (8 * k) d, mul-le-mul_right (2 ^ d) p.head, p.small) in
      let y = routes_hop (8 * L) w (held t) (q * 2 ^ d + x) (8 * k + d) f fits ∙ held_place A L t a q k d x p in
      let z : t.slot a (2 ^ d + x) ≢ 0 = rw (← b.whole) o.slot.some in
      let shape = same_shape t u (λ c h. refl) (λ c i h v. refl) A L sh in
      let one = total_freed t a s A o.low o.high o.used o.slot.low o.slot.high o.slot.some in
      let i = taken-routes m u shape (first t o fi) (omega (arith, one)) in
      ap suc (i ∙ ap length less)
      ∙ sym (length-remove (key (route_of (8 * L - (8 * k + d)) (q * 2 ^ d + x) (8 * k + d) 0)) (routes (8 * L) (held t))
      (λ n. z (sym y ∙ n)))
    where
      first : (t : Arrays) (o : Some t A) → First A t → First A (emptied t o.a o.slot.s)
      first t o fi c h w l =
          same c o.a
          (λ e q. rw q (same 1 o.slot.s (λ _ r. rw r) (λ _ r. rw r (fi c h w l))))
          (λ e q. rw q (fi c h w l))
