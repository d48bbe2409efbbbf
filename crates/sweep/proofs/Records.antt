-- What `put` and `put_routes` ask and leave, over plain variables. Assumes nothing.
use mathlib.Core.Path.{◌≡◌, refl, sym, ap, ◌∙◌}
use mathlib.Core.Logic.{◌≢◌}
use mathlib.Core.Bool.{cond}
use mathlib.Core.List.{List, [], ◌∷◌, ◌++◌, append-nil, append_assoc}
use Prim.Native.Nat.{ℕ, zero, suc, ◌+◌, ◌-◌, ◌*◌, ◌/◌, ◌%◌, ◌^◌, ◌≤◌, ◌<◌}
use native.Mathlib.Omega.{arith}
use lib.Dec.{eqb}
use lib.ListN.{length, get_or, length-append}
use lib.Pow.{pow_mono, shl_lt}
use borrow.Author.Tests.{eq-eqb, ne_eqb}
use Rattle.std.specs.Int.{w32, to_be_bytes}
use Rattle.numbers.specs.Wrote.{Wrote, wrote_none, wrote_two}
use Rattle.numbers.specs.Digits.{one, two, four}
use Rattle.numbers.specs.Back.{four-digits}
use Rattle.sizes.specs.Sizes.{slot_words}
use Rattle.routes.specs.Family.{v4}
use Rattle.routes.specs.Route.{Route}
use Rattle.routes.specs.Collect.{own}
use Rattle.candidates.specs.Bytes.{announces, sent_bytes, all_bytes, plainly}
use Rattle.words.specs.Half.{half_of}
use Rattle.words.specs.Empty.{total_in}
use Rattle.writing.specs.Halves.{slot_small}
use Rattle.shortest.specs.Chosen.{pick, under}
use Rattle.sweep.specs.Walk.{low_of, routes_at}
use Rattle.sweep.specs.Asked.{bytes_of, bytes_own, Puts, PutsRoutes}
use Rattle.sweep.proofs.Seats.{bits_some, seat_room, seat_low, seat_high}
use Rattle.sweep.proofs.Kept.{else_low}

-- ---- put

-- the eight bytes of a record of kind 1
abbrev record_of : List ℕ → ℕ → List ℕ → List ℕ
record_of x l y =
    1 ∷ get_or x 0 0 ∷ get_or x 1 0 ∷ get_or x 2 0 ∷ get_or x 3 0 ∷ (l % 256) ∷ get_or y 2 0 ∷ get_or y 3 0 ∷ []

record_is : (n l hop : ℕ) → record_of (to_be_bytes w32 n) l (to_be_bytes w32 hop) ≡ 1 ∷ (four n ++ (one l ++ two hop))
record_is n l hop =
    let a : n / 65536 / 256 % 256 ≡ n / 16777216 % 256 = omega arith in
    let b : n % 65536 / 256 % 256 ≡ n / 256 % 256 = omega arith in
    let c : n % 65536 % 256 ≡ n % 256 = omega arith in
    rw (a, b, c)

own_none : (bits v hop : ℕ) → hop ≡ 0 → bytes_own bits v hop ≡ []
unfolding bytes_own bytes_of
own_none bits v hop e = rw e

own_some : (bits v hop : ℕ) → hop ≢ 0 → bytes_own bits v hop ≡ sent_bytes v4 (announces (v * 2 ^ bits) (32 - bits) hop)
unfolding bytes_own bytes_of
own_some bits v zero n = absurd (n refl)
own_some bits v (suc h) n = append-nil (sent_bytes v4 (announces (v * 2 ^ bits) (32 - bits) (suc h)))

module _ {hop v bits : ℕ} {b : List ℕ} {at : ℕ} (p : Puts hop v bits b at) where
  pub put_none : hop ≡ 0 → Wrote b at (bytes_own bits v hop) at b
  put_none e = rw (own_none bits v hop e) (wrote_none b at)

  pub put_address : v * 2 ^ bits % 18446744073709551616 ≡ v * 2 ^ bits
  put_address = omega (arith, p.small)

  module _ (n : hop ≢ 0) where
    own-bytes : bytes_own bits v hop ≡ 1 ∷ (four (v * 2 ^ bits) ++ (one (32 - bits) ++ two hop))
    own-bytes =
        own_some bits v hop n
        ∙ ap (λ (xs : List ℕ). 1 ∷ (xs ++ (one (32 - bits) ++ two hop))) (four-digits (v * 2 ^ bits))

    pub put_room : at + 8 ≤ length b
    put_room = omega (arith, p.room, ap length own-bytes)

    pub put_some : (a : ℕ) → a ≡ v * 2 ^ bits → {x y c : List ℕ} {q : ℕ} → x ≡ to_be_bytes w32 a → y ≡ to_be_bytes w32 hop
        → Wrote b at (record_of x (32 - bits) y) q c → Wrote b at (bytes_own bits v hop) q c
    put_some a ea ex ey w = rw (own-bytes, ← ea, ← (record_is a (32 - bits) hop)) (rw (ex, ey) at w)

-- ---- put_routes

pub bytes-append : (xs ys : List Route) → bytes_of (xs ++ ys) ≡ bytes_of xs ++ bytes_of ys
unfolding bytes_of
bytes-append [] ys = refl
bytes-append (x ∷ xs) ys =
    let b : List ℕ = sent_bytes v4 (announces x.addr x.len x.hop) in
    ap (λ (l : List ℕ). b ++ l) (bytes-append xs ys)
    ∙ sym (append_assoc b (all_bytes v4 (plainly xs)) (all_bytes v4 (plainly ys)))

-- the routes below the prefix v in slot p
unfoldable rest : List ℕ → List ℕ → ℕ → ℕ → ℕ → ℕ → List Route
rest ws ms zero p v g = []
rest ws ms (suc d) p v g =
    cond (eqb (total_in ws p) 0) [] (cond (eqb (half_of ws p) 0) []
    (routes_at ws ms d (half_of ws p) (2 * v) g ++ routes_at ws ms d (half_of ws p + slot_words) (2 * v + 1) g))

split : (ws ms : List ℕ) (bits p v h r : ℕ) → r ≡ pick 32 (get_or ms p 0) h
    → routes_at ws ms bits p v h ≡ own bits v (32 - bits) r ++ rest ws ms bits p v (under r h)
unfolding routes_at rest
split ws ms zero p v h r e = rw e (sym (append-nil (own zero v 32 (pick 32 (get_or ms p 0) h))))
split ws ms (suc d) p v h r e = rw e

rest_empty : (ws ms : List ℕ) (bits p v g : ℕ) → total_in ws p ≡ 0 → rest ws ms bits p v g ≡ []
unfolding rest
rest_empty ws ms zero p v g z = refl
rest_empty ws ms (suc d) p v g z = rw (eq-eqb (total_in ws p) 0 z)

rest_none : (ws ms : List ℕ) (bits p v g : ℕ) → total_in ws p ≢ 0 → low_of ws bits p ≡ 0 → rest ws ms bits p v g ≡ []
unfolding rest
rest_none ws ms zero p v g t e = refl
rest_none ws ms (suc d) p v g t e = rw (ne_eqb (total_in ws p) 0 t, eq-eqb (half_of ws p) 0 e)

rest_some : (ws ms : List ℕ) (bits p v g low : ℕ) → total_in ws p ≢ 0 → low ≡ low_of ws bits p → low ≢ 0
    → rest ws ms bits p v g
    ≡ routes_at ws ms (bits - 1) low (2 * v) g ++ routes_at ws ms (bits - 1) (low + slot_words) (2 * v + 1) g
unfolding rest
rest_some ws ms zero p v g low t e n = absurd (n e)
rest_some ws ms (suc d) p v g low t e n =
    let q : suc d - 1 ≡ d = omega arith in
    rw (ne_eqb (total_in ws p) 0 t, ne_eqb (half_of ws p) 0 (λ z. n (e ∙ z)), q, e)

module _ {ws ms : List ℕ} {p v bits h : ℕ} {b : List ℕ} {at : ℕ} (d : PutsRoutes ws ms p v bits h b at) where
  pub part-inside : p < length ms
  part-inside = omega (arith, seat_room d.stands, d.size)

  value : v * 2 ^ bits < 4294967296
  value =
      let s = d.stands in
      let q : (32 - bits) + bits ≡ 32 = omega (arith, s.most) in
      rw q at (shl_lt (32 - bits) bits (slot_small 4 ws s.table p v (32 - bits) s.slot))

  pub part-value : v < 4294967296
  part-value =
      let s = d.stands in
      omega (arith, slot_small 4 ws s.table p v (32 - bits) s.slot, pow_mono {i = 32 - bits} {j = 32} (omega arith))

  module _ (r : ℕ) (e : r ≡ pick 32 (get_or ms p 0) h) where
    bytes_split : bytes_of (routes_at ws ms bits p v h) ≡ bytes_own bits v r ++ bytes_of (rest ws ms bits p v (under r h))
    unfolding bytes_own
    bytes_split =
        ap bytes_of (split ws ms bits p v h r e) ∙ bytes-append (own bits v (32 - bits) r) (rest ws ms bits p v (under r h))

    total : at + (length (bytes_own bits v r) + length (bytes_of (rest ws ms bits p v (under r h)))) ≤ length b
    total =
        omega (
          arith,
          d.room,
          ap length bytes_split,
          length-append (bytes_own bits v r) (bytes_of (rest ws ms bits p v (under r h))),
        )

    pub ask-put : Puts r v bits b at
    ask-put = record { most = d.stands.most; small = value; room = omega (arith, total) }

    -- nothing below
    part_end : {c : List ℕ} {q : ℕ} → rest ws ms bits p v (under r h) ≡ [] → Wrote b at (bytes_own bits v r) q c
        → Wrote b at (bytes_of (routes_at ws ms bits p v h)) q c
    unfolding bytes_of
    part_end e w = rw (bytes_split, e, append-nil (bytes_own bits v r)) w

    pub part_empty : {c : List ℕ} {q : ℕ} → total_in ws p ≡ 0 → Wrote b at (bytes_own bits v r) q c
        → Wrote b at (bytes_of (routes_at ws ms bits p v h)) q c
    part_empty z = part_end (rest_empty ws ms bits p v (under r h) z)

    pub part_leaf : {c : List ℕ} {q : ℕ} → total_in ws p ≢ 0 → low_of ws bits p ≡ 0
        → Wrote b at (bytes_own bits v r) q c → Wrote b at (bytes_of (routes_at ws ms bits p v h)) q c
    part_leaf t z = part_end (rest_none ws ms bits p v (under r h) t z)

-- a prefix with the route r whose lower half stands in the slot low, with g from above
pub record Halved (ws ms : List ℕ) (p v bits h : ℕ) (b : List ℕ) (at r low g : ℕ) : Type 0 where
  pub asked : PutsRoutes ws ms p v bits h b at
  pub hop : (r ≡ pick 32 (get_or ms p 0) h) × (r ≤ 33)
  pub held : total_in ws p ≢ 0
  pub is : low ≡ low_of ws bits p
  pub some : low ≢ 0
  pub next : g ≡ under r h

pub halved : {ws ms : List ℕ} {p v bits h : ℕ} {b : List ℕ} {at r low g : ℕ} → PutsRoutes ws ms p v bits h b at
    → (r ≡ pick 32 (get_or ms p 0) h) × (r ≤ 33) → total_in ws p ≢ 0 → low ≡ low_of ws bits p → low ≢ 0 → g ≡ under r h
    → Halved ws ms p v bits h b at r low g
halved d o t e n u = record { asked = d; hop = o; held = t; is = e; some = n; next = u }

module _ {ws ms : List ℕ} {p v bits h : ℕ} {b : List ℕ} {at r low g : ℕ} (k : Halved ws ms p v bits h b at r low g) where
  abbrev X : List ℕ
  X = bytes_of (routes_at ws ms (bits - 1) low (2 * v) g)

  abbrev Y : List ℕ
  Y = bytes_of (routes_at ws ms (bits - 1) (low + slot_words) (2 * v + 1) g)

  rest_split : bytes_of (rest ws ms bits p v (under r h)) ≡ X ++ Y
  rest_split =
      rw (← k.next) (ap bytes_of (rest_some ws ms bits p v g low k.held k.is k.some)
      ∙ bytes-append (routes_at ws ms (bits - 1) low (2 * v) g) (routes_at ws ms (bits - 1) (low + slot_words) (2 * v + 1) g))

  rest_total : at + (length (bytes_own bits v r) + (length X + length Y)) ≤ length b
  rest_total = omega (arith, total k.asked r k.hop.0, ap length rest_split ∙ length-append X Y)

  pub part_rest : 1 ≤ bits
  part_rest = (bits_some ws bits p low k.is k.some).0

  pub part_high : low + slot_words < length ws
  part_high = omega (arith, seat_room (seat_high k.asked.stands low k.is k.some))

  below : g ≤ 33
  below = rw k.next (else_low 33 r h k.hop.1 k.asked.low)

  pub part_low : (c : List ℕ) (q : ℕ) → length c ≡ length b → Wrote b at (bytes_own bits v r) q c
      → PutsRoutes ws ms low (2 * v) (bits - 1) g c q
  part_low c q ec w = record {
    stands = seat_low k.asked.stands low k.is k.some;
    low = below;
    size = k.asked.size;
    room = omega (arith, rest_total, w.place);
  }

  pub part_upper : (c e : List ℕ) (q s : ℕ) → length e ≡ length b → Wrote b at (bytes_own bits v r) q c → Wrote c q X s e
      → PutsRoutes ws ms (low + slot_words) (2 * v + 1) (bits - 1) g e s
  part_upper c e q s ec w x = record {
    stands = seat_high k.asked.stands low k.is k.some;
    low = below;
    size = k.asked.size;
    room = omega (arith, rest_total, w.place, x.place);
  }

  pub part-node : {c e z : List ℕ} {q s y : ℕ} → Wrote b at (bytes_own bits v r) q c → Wrote c q X s e → Wrote e s Y y z
      → Wrote b at (bytes_of (routes_at ws ms bits p v h)) y z
  part-node w x u = rw (bytes_split k.asked r k.hop.0, rest_split) (wrote_two w (wrote_two x u))
