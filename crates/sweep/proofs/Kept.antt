-- What `keep_sets` asks and leaves, over plain variables. Assumes nothing.
use mathlib.Core.Path.{◌≡◌, refl, sym, ap, ◌∙◌}
use mathlib.Core.Logic.{◌≢◌}
use mathlib.Core.List.{List}
use Prim.Native.Nat.{ℕ, zero, suc, ◌+◌, ◌-◌, ◌*◌, ◌≤◌, ◌<◌}
use native.Mathlib.Omega.{arith}
use lib.ListN.{length, set}
use lib.Pow.{pow_mono}
use borrow.Author.Tests.{eq-eqb, ne_eqb}
use Rattle.sizes.specs.Sizes.{slot_words}
use Rattle.words.specs.Half.{half_of}
use Rattle.shortest.specs.HopSet.{only}
use Rattle.shortest.specs.Chosen.{meet, under}
use Rattle.shortest.specs.Inside.{apart}
use Rattle.sweep.specs.Walk.{won_at, hop_in, low_of, set_at, cost_at, store_at}
use Rattle.sweep.specs.Bound.{cost_bound}
use Rattle.sweep.specs.Asked.{Stands, KeepsSets, HasKept}
use Rattle.sweep.proofs.Seats.{bits_some, seat_room, seat_low, seat_high}

-- ---- hops

else_some : (x h : ℕ) → 1 ≤ h → 1 ≤ under x h
else_some zero h p = p
else_some (suc x) h p = omega arith

pub else_low : (N x h : ℕ) → x ≤ N → h ≤ N → under x h ≤ N
else_low N zero h p q = q
else_low N (suc x) h p q = p

-- ---- a prefix without halves, and one with

kept_leaf : (ws : List ℕ) (p bits h : ℕ) (ms : List ℕ) → 0 ≡ low_of ws bits p
    → HasKept ws p bits h ms (only (hop_in ws p h)) 0 (set ms p (only (hop_in ws p h)))
unfolding set_at cost_at store_at
kept_leaf ws p zero h ms e = record { set = refl; price = refl; list = refl }
kept_leaf ws p (suc d) h ms e =
    let q = eq-eqb (half_of ws p) 0 (sym e) in
    record { set = rw q; price = rw q; list = rw q }

kept-node : (ws : List ℕ) (p d h : ℕ) (ms : List ℕ) → half_of ws p ≢ 0 → (x y a b : ℕ) (ns os : List ℕ)
    → HasKept ws (half_of ws p) d (hop_in ws p h) ms x a ns → HasKept ws (half_of ws p + slot_words) d (hop_in ws p h) ns y b os
    → HasKept ws p (suc d) h ms (meet x y) (a + b + apart x y) (set os p (meet x y))
unfolding set_at cost_at store_at
kept-node ws p d h ms n x y a b ns os f g =
    let q = ne_eqb (half_of ws p) 0 n in
    record {
      set = rw (q, f.set, g.set);
      price = rw (q, f.set, g.set, f.price, g.price);
      list = rw (q, g.list, f.list, f.set, g.set);
    }

-- ---- what is asked

module _ {ws : List ℕ} {p bits h : ℕ} {ms : List ℕ} (d : KeepsSets ws p bits h ms) where
  pub kept-inside : p < length ws
  kept-inside = omega (arith, seat_room d.stands)

  pub kept_room : p < length ms
  kept_room = omega (arith, kept-inside, d.size)

  module _ (own hop : ℕ) (o : own ≡ won_at ws p) (e : hop ≡ under own h) where
    pub hop_is : hop ≡ hop_in ws p h
    hop_is = e ∙ ap (λ (x : ℕ). under x h) o

    pub ask-single : (1 ≤ hop) × (hop ≤ 32)
    ask-single = rw hop_is (d.some, else_low 32 (won_at ws p) h (d.small p d.v bits d.stands) d.low)

    pub leaf_done : (m : ℕ) → low_of ws bits p ≡ 0 → m ≡ only hop → HasKept ws p bits h ms m 0 (set ms p m)
    leaf_done m z g = rw (g, hop_is) (kept_leaf ws p bits h ms (sym z))

-- a prefix whose lower half stands in the slot low
pub record Parted (ws : List ℕ) (p bits h : ℕ) (ms : List ℕ) (own hop low : ℕ) : Type 0 where
  pub asked : KeepsSets ws p bits h ms
  pub won : own ≡ won_at ws p
  pub hops : hop ≡ under own h
  pub is : low ≡ low_of ws bits p
  pub some : low ≢ 0

pub parted : {ws : List ℕ} {p bits h : ℕ} {ms : List ℕ} {own hop low : ℕ} → KeepsSets ws p bits h ms → own ≡ won_at ws p
    → hop ≡ under own h → low ≡ low_of ws bits p → low ≢ 0 → Parted ws p bits h ms own hop low
parted d o u e n = record { asked = d; won = o; hops = u; is = e; some = n }

module _ {ws : List ℕ} {p bits h : ℕ} {ms : List ℕ} {own hop low : ℕ} (r : Parted ws p bits h ms own hop low) where
  pub rest_some : 1 ≤ bits
  rest_some = (bits_some ws bits p low r.is r.some).0

  one : (1 ≤ hop) × (hop ≤ 32)
  one = ask-single r.asked own hop r.won r.hops

  pub high_inside : low + slot_words < length ws
  high_inside = omega (arith, seat_room (seat_high r.asked.stands low r.is r.some))

  -- a half is asked with a scratch of the same length
  ask : (q v : ℕ) → Stands ws q v (bits - 1) → (ns : List ℕ) → length ns ≡ length ms → KeepsSets ws q (bits - 1) hop ns
  ask q v s ns e = record {
    v = v;
    stands = s;
    small = r.asked.small;
    some = else_some (won_at ws q) hop one.0;
    low = one.1;
    size = omega (arith, r.asked.size);
  }

  pub ask-low : (ns : List ℕ) → length ns ≡ length ms → KeepsSets ws low (bits - 1) hop ns
  ask-low = ask low (2 * r.asked.v) (seat_low r.asked.stands low r.is r.some)

  pub ask_high : (ns : List ℕ) → length ns ≡ length ms → KeepsSets ws (low + slot_words) (bits - 1) hop ns
  ask_high = ask (low + slot_words) (2 * r.asked.v + 1) (seat_high r.asked.stands low r.is r.some)

  module _ {x y a b : ℕ} {ns os : List ℕ} (f : HasKept ws low (bits - 1) hop ms x a ns)
      (g : HasKept ws (low + slot_words) (bits - 1) hop ns y b os) where
    pub sum-small : a + b + 1 < 18446744073709551616
    sum-small =
        omega (
          arith,
          f.price,
          g.price,
          cost_bound ws (bits - 1) low hop,
          cost_bound ws (bits - 1) (low + slot_words) hop,
          pow_mono {i = bits - 1} {j = 32} (omega (arith, r.asked.stands.most)),
        )

    pub node_done : (m c : ℕ) → m ≡ meet x y → c ≡ apart x y → HasKept ws p bits h ms m (a + b + c) (set os p m)
    node_done m c e k = rw (e, k) (go bits r.is f g)
      where
        go : (n : ℕ) → low ≡ low_of ws n p → HasKept ws low (n - 1) hop ms x a ns
            → HasKept ws (low + slot_words) (n - 1) hop ns y b os
            → HasKept ws p n h ms (meet x y) (a + b + apart x y) (set os p (meet x y))
        go zero i f g = absurd (r.some i)
        go (suc d) i f g =
            let q : suc d - 1 ≡ d = omega arith in
            let w = hop_is r.asked own hop r.won r.hops in
            kept-node ws p d h ms (λ z. r.some (i ∙ z)) x y a b ns os (rw (q, i, w) at f) (rw (q, i, w) at g)
