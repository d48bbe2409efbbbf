-- What `spread` asks and leaves, and what `keep_sets` does where the total is 0, over plain variables. Assumes nothing.
use mathlib.Core.Path.{◌≡◌, refl, sym, ap, ◌∙◌}
use mathlib.Core.Logic.{◌≢◌}
use mathlib.Core.List.{List, []}
use Prim.Native.Nat.{ℕ, zero, suc, ◌+◌, ◌-◌, ◌*◌, ◌≤◌, ◌<◌}
use native.Mathlib.Omega.{arith}
use lib.ListN.{length, set}
use borrow.Author.Tests.{eq-eqb, ne_eqb}
use Rattle.sizes.specs.Sizes.{slot_words}
use Rattle.routes.specs.Collect.{collect}
use Rattle.tree.specs.Arrays.{held}
use Rattle.words.specs.Words.{arrays_of}
use Rattle.words.specs.Half.{half_of}
use Rattle.words.specs.Empty.{total_in}
use Rattle.shortest.specs.HopSet.{only}
use Rattle.shortest.specs.Chosen.{under}
use Rattle.sweep.specs.Walk.{low_of, spread_at}
use Rattle.sweep.specs.Slot.{empty_all}
use Rattle.sweep.specs.Spread.{none_hop, none_set, store_spread}
use Rattle.sweep.specs.Asked.{Spreads, KeepsSets, HasKept}
use Rattle.sweep.proofs.Seats.{bits_some, seat_room, seat_low, seat_high}

-- ---- spread

leaf : (ws : List ℕ) (bits p m : ℕ) (ms : List ℕ) → low_of ws bits p ≡ 0 → set ms p m ≡ spread_at ws bits p m ms
unfolding spread_at
leaf ws zero p m ms e = refl
leaf ws (suc d) p m ms e = rw (eq-eqb (half_of ws p) 0 e)

node : (ws : List ℕ) (bits p low m : ℕ) (ms ns os : List ℕ) → low ≡ low_of ws bits p → low ≢ 0
    → ns ≡ spread_at ws (bits - 1) low m ms → os ≡ spread_at ws (bits - 1) (low + slot_words) m ns
    → set os p m ≡ spread_at ws bits p m ms
unfolding spread_at
node ws zero p low m ms ns os e n x y = absurd (n e)
node ws (suc d) p low m ms ns os e n x y =
    let q : suc d - 1 ≡ d = omega arith in
    let o : os ≡ spread_at ws d (half_of ws p + slot_words) m (spread_at ws d (half_of ws p) m ms) =
    rw (q, x, q, e) at y in
    rw (ne_eqb (half_of ws p) 0 (λ z. n (e ∙ z)), o)

module _ {ws : List ℕ} {p bits : ℕ} {ms : List ℕ} (d : Spreads ws p bits ms) where
  pub spread_inside : p < length ws
  spread_inside = omega (arith, seat_room d.stands)

  pub spread_room : p < length ms
  spread_room = omega (arith, spread_inside, d.size)

  pub spread_leaf : (m : ℕ) → low_of ws bits p ≡ 0 → set ms p m ≡ spread_at ws bits p m ms
  spread_leaf m = leaf ws bits p m ms

  module _ (low m : ℕ) (e : low ≡ low_of ws bits p) where
    module _ (n : low ≢ 0) where
      pub spread_rest : 1 ≤ bits
      spread_rest = (bits_some ws bits p low e n).0

      pub spread_low : Spreads ws low (bits - 1) ms
      spread_low = record { v = 2 * d.v; stands = seat_low d.stands low e n; size = d.size }

      pub spread_high : (ns : List ℕ) → length ns ≡ length ms → Spreads ws (low + slot_words) (bits - 1) ns
      spread_high ns k =
          record { v = 2 * d.v + 1; stands = seat_high d.stands low e n; size = omega (arith, d.size) }

      pub spread_above : low + slot_words < length ws
      spread_above = omega (arith, seat_room (seat_high d.stands low e n))

      pub spread_node : (ns os : List ℕ) → ns ≡ spread_at ws (bits - 1) low m ms
          → os ≡ spread_at ws (bits - 1) (low + slot_words) m ns → set os p m ≡ spread_at ws bits p m ms
      spread_node ns os x y = node ws bits p low m ms ns os e n x y

-- ---- keep_sets, where the total is 0

module _ {ws : List ℕ} {p bits h : ℕ} {ms : List ℕ} (d : KeepsSets ws p bits h ms) where
  module _ (z : total_in ws p ≡ 0) where
    whole : 32 - bits + bits ≡ 32
    whole = omega (arith, d.stands.most)

    none : collect (held (arrays_of ws)) bits d.v (32 - bits) ≡ []
    none = empty_all ws d.stands.table p d.v (32 - bits) d.stands.slot z bits whole

    pub spread_hop : (1 ≤ h) × (h ≤ 32)
    spread_hop =
        let e = none_hop ws d.stands.table h bits p d.v (32 - bits) whole d.stands.slot none in
        let s : 1 ≤ under 0 h = rw e at d.some in
        (s, d.low)

    pub spread_kept : (m : ℕ) → m ≡ only h → (ns : List ℕ) → ns ≡ spread_at ws bits p m ms → HasKept ws p bits h ms m 0 ns
    spread_kept m e ns f =
        let s = none_set ws d.stands.table h bits p d.v (32 - bits) whole d.stands.slot none in
        record {
          set = e ∙ sym s.0;
          price = sym s.1;
          list =
              f
              ∙ ap (λ (k : ℕ). spread_at ws bits p k ms) e
              ∙ sym (store_spread ws d.stands.table h bits p d.v (32 - bits) ms whole d.stands.slot none);
        }
