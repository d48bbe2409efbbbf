-- What each test of the code says of the bytes: of a route, of a record, and of the whole. Assumes nothing.
use mathlib.Core.Path.{◌≡◌, refl, sym, ◌∙◌}
use mathlib.Core.Logic.{◌≢◌}
use mathlib.Core.Bool.{Bool, true, false, not, ◌&&◌, false≢true}
use mathlib.Core.List.{List}
use Prim.Native.Nat.{ℕ, ◌*◌, ◌/◌, ◌%◌, ◌≤◌, ◌<◌}
use native.Mathlib.Omega.{arith}
use lib.ListN.{length, get_or}
use lib.Dec.{eqb}
use borrow.Author.Tests.{le-ltb, eq-eqb, ne_eqb}
use Rattle.routes.specs.Route.{route, stray}
use Rattle.logic.specs.Every.{all_b}
use Rattle.logic.specs.Reflects.{all_stop}
use Rattle.logic.specs.Bools.{not_true}
use Rattle.candidates.specs.Candidate.{Candidate}
use Rattle.listing.specs.Listed.{fours, size_of, begin, records_in, route_b, record_b}
use Rattle.listing.specs.Listed.{whole_b, listed_in}
use Rattle.listing.specs.Records.{Begins, Reads, Bytes}
use Rattle.listing.specs.Records.{whole_list, record_fits, records_few, end_fits}

-- ---- a route

module _ (a l h : ℕ) where
  pub route_none : (x : Bool) → x ≡ stray 32 a l → l ≤ 32 → x ≡ false → h ≡ 0 → false ≡ route_b (route a l h)
  route_none x e w z q = rw (le-ltb 32 l w, sym e ∙ z, eq-eqb h 0 q)

-- ---- where the records are

module _ (bs : List ℕ) (s : ℕ) (e : s ≡ size_of (fours bs)) where
  pub records_of_fact : (length bs / s ≡ records_in bs) × (8 * (length bs / s) ≤ length bs)
  unfolding records_in
  records_of_fact = rw e (refl, records_few bs)

  pub begin_of_fact : (i : ℕ) → 8 ≤ s → i < records_in bs → Begins bs i (s * i)
  begin_of_fact i h q =
      let f = record_fits bs i q in
      let z : 8 ≤ size_of (fours bs) = rw e at h in
      rw e (record { at = refl; whole = f; most = omega arith })

  pub end_of : s * (length bs / s) ≤ length bs
  end_of = rw (records_of_fact.0, e) (end_fits bs)

-- ---- a record

-- the test of the numbers that were read is the test of the record's candidate
module _ (c : Candidate) (a l h : ℕ) (r : Bool) (ea : a ≡ c.addr) (el : l ≡ c.len) (eh : h ≡ c.hop)
    (e : r ≡ route_b (route a l h)) where
  own : r ≡ route_b (route c.addr c.len c.hop)
  own = e ∙ rw (ea, el, eh)

-- ---- the whole

module _ (bs : List ℕ) where
  fails : whole_b bs ≡ false → Reads bs false
  unfolding listed_in
  fails e = record { is = rw e; list = λ q. absurd (false≢true q) }

  passes : Bytes bs → whole_b bs ≡ true → Reads bs true
  unfolding listed_in
  passes b e = record { is = rw e; list = λ _. whole_list bs b e }

  pub whole_broken : (i : ℕ) (r : Bool) → i < records_in bs → r ≡ record_b bs i → not r ≡ true → Reads bs false
  unfolding whole_b
  whole_broken i r h e n =
      fails (rw (← (all_stop (record_b bs) (records_in bs) i h (sym e ∙ not_true r n)))
      (none (eqb (length bs % size_of (fours bs)) 1) (eqb (get_or bs (begin bs (records_in bs)) 0) 0)))
    where
      none : (b c : Bool) → (b && (c && false)) ≡ false
      none true true = refl
      none true false = refl
      none false c = refl

  module _ (s : ℕ) (e : s ≡ size_of (fours bs)) where
    pub whole_odd : length bs % s ≢ 1 → Reads bs false
    unfolding whole_b
    whole_odd n = fails (rw (ne_eqb (length bs % size_of (fours bs)) 1 (rw e at n)))

    last_byte : get_or bs (s * (length bs / s)) 0 ≡ get_or bs (begin bs (records_in bs)) 0
    last_byte = rw ((records_of_fact bs s e).0, e)

    module _ (o : length bs % s ≡ 1) where
      even : eqb (length bs % size_of (fours bs)) 1 ≡ true
      even = eq-eqb _ _ (rw e at o)

      pub whole_unended : get_or bs (s * (length bs / s)) 0 ≢ 0 → Reads bs false
      unfolding whole_b
      whole_unended n = fails (rw (even, ne_eqb (get_or bs (begin bs (records_in bs)) 0) 0 (rw last_byte at n)))

      pub whole_right : Bytes bs → get_or bs (s * (length bs / s)) 0 ≡ 0 → (i : ℕ) → length bs / s ≤ i → i ≤ records_in bs
          → all_b (record_b bs) i ≡ true → Reads bs true
      unfolding whole_b
      whole_right b z i u v h =
          let q : i ≡ records_in bs = omega (arith, (records_of_fact bs s e).0) in
          passes b (rw (even, eq-eqb (get_or bs (begin bs (records_in bs)) 0) 0 (rw last_byte at z), rw q at h))
