-- The cells that an array's floor counts, by the slots of one array, are the cells of document 01, by the route list.
-- Assumes nothing.
--
--     cell i of the array of the first 8 * k bits q is the cell q * 256 + i of level k, and the slots above cell i are that
--     cell's prefixes longer than 8 * k
use Rattle.std.specs.Prelude.{◌≡◌, ◌⊎◌}
use Rattle.std.proofs.Math.Path.{refl, ap}
use Rattle.std.proofs.Common.{sym, ◌∙◌, ⊎_elim, mul-div_cancel, mul-le-mul_right, add-mul, mul_assoc, one-mul, pow_pos, pow-add}
use Rattle.std.proofs.Common.{shr_lt}
use Prim.Native.Nat.{ℕ, zero, suc, ◌+◌, ◌-◌, ◌*◌, ◌/◌, ◌^◌, ◌≤◌, ◌<◌}
use native.Mathlib.Omega.{arith}
use Rattle.std.proofs.Math.Pow.{shr-shr}
use Rattle.logic.specs.Cases.{bool}
use Rattle.sizes.specs.Sizes.{cell_count, cell_slots}
use Rattle.numbers.specs.Powers.{cut}
use Rattle.routes.specs.Route.{hop_at}
use Rattle.routes.specs.Cells.{hidden, cells}
use Rattle.laws.specs.Collect.{routes_hop}
use Rattle.routes.specs.Collect.{routes, route_of}
use Rattle.laws.specs.Longest.{routes_wfs}
use Rattle.laws.specs.Cells.{open_cells, cells_open}
use Rattle.laws.specs.Hidden.{cell_key, held_past, hidden_held}
use Rattle.array.specs.Put.{any_up, exposed}
use Rattle.tree.specs.Arrays.{Arrays, node, held}
use Rattle.tree.specs.Need.{at_some, held_at}
use Rattle.tree.specs.SlotSet.{Place}

module _ (L : ℕ) (t : Arrays) (b q k : ℕ) (wide : 8 * L < 256) (top : k < L) (leads : node t q k ≡ b) (array : 1 ≤ b)
    (head : q < 2 ^ (8 * k)) where
  -- a prefix of a cell is held where its slot is taken
  slot_held : (i e : ℕ) → i < cell_count → 1 ≤ e → e ≤ 8
      → hop_at (routes (8 * L) (held t)) (cell_key (8 * L) k (q * 256 + i) (8 * k + e))
      ≡ t.slot b ((cell_slots + i) / 2 ^ (8 - e))
  slot_held i e w lo hi =
      let m = 8 - e in
      let x = i / 2 ^ m in
      let es : e + m ≡ 8 = omega arith in
      let n : 8 * k + 8 - (8 * k + e) ≡ m = omega arith in
      let xl : x < 2 ^ e = shr_lt e m (rw es w) in
      let s : (cell_slots + i) / 2 ^ m ≡ 2 ^ e + x = cut 1 i e m es ∙ ap (λ (y : ℕ). y + x) (one-mul (2 ^ e)) in
      let v : q * 2 ^ e + x < 2 ^ (8 * k + e) = omega (arith, pow-add 2 (8 * k) e, mul-le-mul_right (2 ^ e) head) in
      rw (n, cut q i e m es, s) (routes_hop (8 * L) wide (held t) (q * 2 ^ e + x) (8 * k + e) (omega arith) v
      ∙ held_at t q k e x lo hi xl ∙ rw leads (at_some t b (2 ^ e + x) array))

  -- of the prefixes longer than d bits, one is held where one of the slots is taken
  past_up : (d i : ℕ) → i < cell_count → (n : ℕ) → d + n ≤ 8
      → held_past (8 * L) (routes (8 * L) (held t)) k (q * 256 + i) (8 * k + d) n
      ≡ any_up (t.slot b) ((cell_slots + i) / 2 ^ (8 - (d + n))) n
  unfolding held_past any_up
  past_up d i w zero h = refl
  past_up d i w (suc n) h =
      let e : 8 * k + d + suc n ≡ 8 * k + (d + suc n) = omega arith in
      let f : 8 - (d + suc n) + 1 ≡ 8 - (d + n) = omega arith in
      let g : (cell_slots + i) / 2 ^ (8 - (d + suc n)) / 2 ≡ (cell_slots + i) / 2 ^ (8 - (d + n)) =
      shr-shr (cell_slots + i) (8 - (d + suc n)) 1 ∙ ap (λ (m : ℕ). (cell_slots + i) / 2 ^ m) f in
      rw (e, slot_held i (d + suc n) w (omega arith) h, past_up d i w n (omega arith), g)

  -- a cell is hidden from length d where a slot longer than d is taken above it
  hidden-up : (d i : ℕ) → i < cell_count → d ≤ 8
      → hidden (8 * L) k (q * 256 + i) (8 * k + d) (routes (8 * L) (held t)) ≡ any_up (t.slot b) (cell_slots + i) (8 - d)
  hidden-up d i w h =
      let e : 8 * k + 8 - (8 * k + d) ≡ 8 - d = omega arith in
      let f : 8 - (d + (8 - d)) ≡ 0 = omega arith in
      let g : (cell_slots + i) / 2 ^ (8 - (d + (8 - d))) ≡ cell_slots + i = rw f (omega arith) in
      hidden_held (8 * L) k (q * 256 + i) (8 * k + d) wide (omega arith) (omega arith) (routes (8 * L) (held t))
      (routes_wfs (8 * L) (held t)) (omega arith)
      ∙ ap (held_past (8 * L) (routes (8 * L) (held t)) k (q * 256 + i) (8 * k + d)) e
      ∙ past_up d i w (8 - d) (omega arith)
      ∙ ap (λ (s : ℕ). any_up (t.slot b) s (8 - d)) g

  open_exposed : (d i : ℕ) → d ≤ 8 → (n : ℕ) → i + n ≤ cell_count
      → open_cells (8 * L) k (q * 256 + i) n (8 * k + d) (routes (8 * L) (held t)) ≡ exposed (t.slot b) d i n
  unfolding open_cells exposed
  open_exposed d i h zero w = refl
  open_exposed d i h (suc n) w =
      let e : q * 256 + i + n ≡ q * 256 + (i + n) = omega arith in
      rw (e, hidden-up d (i + n) (omega arith) h, open_exposed d i h n (omega arith))
      (bool (any_up (t.slot b) (cell_slots + (i + n)) (8 - d)) (λ z. rw z) (λ z. rw z))

  -- the route of in-array length d and value x, whatever its hop
  cells-exposed : (d x h : ℕ) → d ≤ 8 → (1 ≤ d) ⊎ (k ≡ 0) → x < 2 ^ d
      → exposed (t.slot b) d (x * 2 ^ (8 - d)) (2 ^ (8 - d))
      ≡ cells (8 * L) (route_of (8 * L - (8 * k + d)) (q * 2 ^ d + x) (8 * k + d) h) (routes (8 * L) (held t))
  cells-exposed d x h deep own small =
      let e = 8 - d in
      let r = route_of (8 * L - (8 * k + d)) (q * 2 ^ d + x) (8 * k + d) h in
      let de : d + e ≡ 8 = omega arith in
      let p : 2 ^ d * 2 ^ e ≡ 256 = sym (pow-add 2 d e) ∙ ap (λ (n : ℕ). 2 ^ n) de in
      let lv : (8 * k + d - 1) / 8 ≡ k = ⊎_elim (λ (z : 1 ≤ d). omega arith) (λ (z : k ≡ 0). omega arith) own in
      let v : r.addr / 2 ^ (8 * L - (8 * k + d)) ≡ q * 2 ^ d + x =
      mul-div_cancel (q * 2 ^ d + x) (pow_pos (8 * L - (8 * k + d))) in
      let c : (q * 2 ^ d + x) * 2 ^ e ≡ q * 256 + x * 2 ^ e =
      add-mul (q * 2 ^ d) x (2 ^ e) ∙ ap (λ (n : ℕ). n + x * 2 ^ e) (mul_assoc q (2 ^ d) (2 ^ e) ∙ ap (λ (n : ℕ). q * n) p) in
      let f : x * 2 ^ e + 2 ^ e ≤ cell_count = omega (arith, mul-le-mul_right (2 ^ e) small) in
      sym (cells_open (8 * L) r k d e lv refl de (omega arith) (routes (8 * L) (held t))
      ∙ rw (v, c) (open_exposed d (x * 2 ^ e) deep (2 ^ e) f))

-- at a place
pub cells-place : (A L : ℕ) (t : Arrays) (b q k d x h : ℕ) → 8 * L < 256 → k < L → Place A L t b q k d x
    → exposed (t.slot b) d (x * 2 ^ (8 - d)) (2 ^ (8 - d))
    ≡ cells (8 * L) (route_of (8 * L - (8 * k + d)) (q * 2 ^ d + x) (8 * k + d) h) (routes (8 * L) (held t))
cells-place A L t b q k d x h wide top p =
    cells-exposed L t b q k wide top p.leads p.array p.head d x h p.deep p.own p.small
