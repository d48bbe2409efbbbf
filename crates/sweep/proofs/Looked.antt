-- What `small_hops` asks and tells, over plain variables. Assumes nothing.
use mathlib.Core.Path.{◌≡◌, sym, ap, ◌∙◌}
use mathlib.Core.Logic.{◌≢◌}
use mathlib.Core.Bool.{Bool, true, false, ◌&&◌}
use mathlib.Core.List.{List}
use Prim.Native.Nat.{ℕ, zero, suc, ◌+◌, ◌-◌, ◌*◌, ◌≤◌, ◌<◌}
use native.Mathlib.Omega.{arith}
use lib.Dec.{eqb}
use lib.ListN.{length}
use borrow.Author.Tests.{eq-eqb, ne_eqb, lt-leb, le-leb}
use Rattle.sizes.specs.Sizes.{slot_words}
use Rattle.words.specs.Half.{half_of}
use Rattle.words.specs.Empty.{total_in}
use Rattle.sweep.specs.Walk.{won_at, low_of, small_at}
use Rattle.sweep.specs.Asked.{Looks}
use Rattle.sweep.proofs.Seats.{seat_room, seat_low, seat_high}

pub look_empty : (ws : List ℕ) (bits p : ℕ) → total_in ws p ≡ 0 → true ≡ small_at ws bits p
unfolding small_at
look_empty ws zero p z = rw (eq-eqb (total_in ws p) 0 z)
look_empty ws (suc d) p z = rw (eq-eqb (total_in ws p) 0 z)

module _ (ws : List ℕ) (bits p : ℕ) (t : total_in ws p ≢ 0) (own : ℕ) (o : own ≡ won_at ws p) where
  full : eqb (total_in ws p) 0 ≡ false
  full = ne_eqb (total_in ws p) 0 t

  pub look-over : 32 < own → false ≡ small_at ws bits p
  unfolding small_at
  look-over h = go bits
    where
      go : (n : ℕ) → false ≡ small_at ws n p
      go zero = rw (full, lt-leb (won_at ws p) 32 (omega arith))
      go (suc d) = rw (full, lt-leb (won_at ws p) 32 (omega arith))

  pub look_leaf : own ≤ 32 → low_of ws bits p ≡ 0 → true ≡ small_at ws bits p
  unfolding small_at
  look_leaf h = go bits
    where
      go : (n : ℕ) → low_of ws n p ≡ 0 → true ≡ small_at ws n p
      go zero q = rw (full, le-leb (won_at ws p) 32 (omega arith))
      go (suc d) q = rw (full, le-leb (won_at ws p) 32 (omega arith), eq-eqb (half_of ws p) 0 q)

  look-node : (low : ℕ) → own ≤ 32 → low ≡ low_of ws bits p → low ≢ 0
      → (small_at ws (bits - 1) low && small_at ws (bits - 1) (low + slot_words)) ≡ small_at ws bits p
  unfolding small_at
  look-node low h e n = go bits e
    where
      go : (m : ℕ) → low ≡ low_of ws m p
          → (small_at ws (m - 1) low && small_at ws (m - 1) (low + slot_words)) ≡ small_at ws m p
      go zero i = absurd (n i)
      go (suc d) i =
          let q : suc d - 1 ≡ d = omega arith in
          rw (full, le-leb (won_at ws p) 32 (omega arith), ne_eqb (half_of ws p) 0 (λ z. n (i ∙ z)), q, i)

  module _ (low : ℕ) (h : own ≤ 32) (e : low ≡ low_of ws bits p) (n : low ≢ 0) where
    pub look_not : (x : Bool) → x ≡ small_at ws (bits - 1) low → x ≡ false → false ≡ small_at ws bits p
    look_not x f z =
        sym (ap (λ (b : Bool). b && small_at ws (bits - 1) (low + slot_words)) (sym f ∙ z)) ∙ look-node low h e n

    pub look-both : (x y : Bool) → x ≡ small_at ws (bits - 1) low → x ≡ true → y ≡ small_at ws (bits - 1) (low + slot_words)
        → y ≡ small_at ws bits p
    look-both x y f z g =
        g ∙ sym (ap (λ (b : Bool). b && small_at ws (bits - 1) (low + slot_words)) (sym f ∙ z)) ∙ look-node low h e n

module _ {ws : List ℕ} {p bits : ℕ} (d : Looks ws p bits) (low : ℕ) (e : low ≡ low_of ws bits p) (n : low ≢ 0) where
  pub look-low : Looks ws low (bits - 1)
  look-low = record { v = 2 * d.v; stands = seat_low d.stands low e n }

  pub look_high : Looks ws (low + slot_words) (bits - 1)
  look_high = record { v = 2 * d.v + 1; stands = seat_high d.stands low e n }

  pub high_room : low + slot_words < length ws
  high_room = omega (arith, seat_room (seat_high d.stands low e n))
