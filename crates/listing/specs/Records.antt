-- The records of a written-out list: where they lie, what the tests on each of them say of all candidates, the candidates from a
-- record on, and what one record says of them. Assumes nothing.
use Rattle.std.specs.Prelude.{◌≡◌, refl, ◌≢◌, Bool, true, false, cond, not, ◌||◌, List, [], ◌∷◌, ℕ, zero, suc, ◌+◌, ◌-◌, ◌*◌, ◌/◌}
use Rattle.std.specs.Prelude.{◌%◌, ◌^◌, ◌≤◌, ◌<◌, length, get_or, ltb, eqb}
use Rattle.std.proofs.Common.{ap, arith, shr_lt, ltb-true, ltb-false, eqb-true, ne_eqb}
use Rattle.std.proofs.lemmas.Bool.{false≢true, eqb-false}
use Rattle.routes.specs.Route.{Route, route, From, IsRoute}
use Rattle.routes.specs.Route as routes
use Rattle.numbers.specs.Digits.{two_at, four_at}
use Rattle.laws.specs.Longest.{Wfs}
use Rattle.logic.specs.Bools.{and_to, not_true, not_false}
use Rattle.logic.specs.Every.{all_b}
use Rattle.logic.specs.Reflects.{all_to_lem}
use Rattle.candidates.specs.Keyed.{Ordered, Every}
use Rattle.candidates.specs.Candidate.{Candidate, bad_feed, key, IsCandidate, IsList}
use Rattle.rivals.specs.Maps.{weaken}
use Rattle.listing.specs.Listed.{fours, kind_of, size_of, begin, records_in, candidate_at, candidates_from, candidates_in}
use Rattle.listing.specs.Listed.{list_of}
use Rattle.listing.specs.Listed.{route_b, candidate_b, record_b, whole_b, unlisted, listed, listed_in}

-- ---- what the code promises

-- record i begins at byte x, and lies inside the bytes
pub record Begins (bs : List ℕ) (i x : ℕ) : Type 0 where
  pub at : x ≡ begin bs i
  pub whole : x + size_of (fours bs) ≤ length bs
  pub most : x + 8 ≤ length bs

-- byte n of record i in a list of kind 4, d in one of kind 1
abbrev pub added_at : List ℕ → ℕ → ℕ → ℕ → ℕ
added_at bs i n d = cond (fours bs) (get_or bs (begin bs i + n) 0) d

-- whether the bytes are a list
pub record Reads (bs : List ℕ) (r : Bool) : Type 0 where
  pub is : listed_in bs ≡ cond r (listed (list_of bs)) unlisted
  pub list : r ≡ true → IsList 32 (candidates_in bs)

-- ---- where the records lie

pub record_fits : (bs : List ℕ) (i : ℕ) → i < records_in bs → begin bs i + size_of (fours bs) ≤ length bs
unfolding records_in
record_fits bs i h = go (fours bs) h
  where
    go : (b : Bool) → i < length bs / size_of b → size_of b * i + size_of b ≤ length bs
    go true h = omega arith
    go false h = omega arith

pub records_few : (bs : List ℕ) → 8 * records_in bs ≤ length bs
unfolding records_in
records_few bs = go (fours bs)
  where
    go : (b : Bool) → 8 * (length bs / size_of b) ≤ length bs
    go true = omega arith
    go false = omega arith

pub end_fits : (bs : List ℕ) → begin bs (records_in bs) ≤ length bs
unfolding records_in
end_fits bs = go (fours bs)
  where
    go : (b : Bool) → size_of b * (length bs / size_of b) ≤ length bs
    go true = omega arith
    go false = omega arith

-- all bytes but the last
pub records_end : (bs : List ℕ) → length bs % size_of (fours bs) ≡ 1 → begin bs (records_in bs) + 1 ≡ length bs
unfolding records_in
records_end bs e = go (fours bs) e
  where
    go : (b : Bool) → length bs % size_of b ≡ 1 → size_of b * (length bs / size_of b) + 1 ≡ length bs
    go true e = omega arith
    go false e = omega arith

-- ---- one record

abbrev pub Bytes : List ℕ → Type 0
Bytes bs = (i : ℕ) → get_or bs i 0 < 256

pub two_low : (bs : List ℕ) → Bytes bs → (i : ℕ) → two_at bs i < 65536
two_low bs b i = omega (arith, b i, b (i + 1))

four_low : (bs : List ℕ) → Bytes bs → (i : ℕ) → four_at bs i < 4294967296
four_low bs b i = omega (arith, two_low bs b i, two_low bs b (i + 2))

neither : (b c : Bool) → not (b || c) ≡ true → (b ≡ false) × (c ≡ false)
neither true c q = absurd (false≢true q)
neither false c q = (refl, not_true c q)

-- a number is neither 0 nor over the most
tested : (h most : ℕ) → not (eqb h 0 || ltb most h) ≡ true → (1 ≤ h) × (h ≤ most)
tested h most q = let w = neither (eqb h 0) (ltb most h) q in
    (let n : h ≢ 0 = eqb-false h 0 w.0 in omega arith, ltb-false most h w.1)

route_is : (r : Route) → r.addr < 4294967296 → route_b r ≡ true → IsRoute 32 r
route_is r h e =
    let x = and_to (not (ltb 32 r.len)) _ e in
    let y = and_to (not (not (eqb (r.addr % 2 ^ (32 - r.len)) 0))) (not (eqb r.hop 0 || ltb 65535 r.hop)) x.1 in
    let z = tested r.hop 65535 y.1 in
    record {
      wf = record {
        fits = ltb-false 32 r.len (not_true (ltb 32 r.len) x.0);
        inside = h;
        clean = eqb-true _ _ (not_false (eqb (r.addr % 2 ^ (32 - r.len)) 0) (not_true _ y.0));
        some = z.0;
      };
      low = z.1;
    }

candidate_is : (c : Candidate) → c.addr < 4294967296 → c.pref < 256 → candidate_b c ≡ true → IsCandidate 32 c
candidate_is c h p e =
    let x = and_to (route_b (route c.addr c.len c.hop)) (not (bad_feed c.feed)) e in
    let f = tested c.feed 4 x.1 in
    record { route = route_is (route c.addr c.len c.hop) h x.0; low = f.0; high = f.1; byte = p }

pub byte_low : (four : Bool) (n : ℕ) → n < 256 → cond four n 0 < 256
byte_low true n h = h
byte_low false n h = omega arith

-- ---- all of them

record Sound (bs : List ℕ) (i : ℕ) : Type 0 where
  candidate : IsCandidate 32 (candidate_at bs i)
  after : 1 ≤ i → key (candidate_at bs (i - 1)) < key (candidate_at bs i)

sound : (bs : List ℕ) → Bytes bs → (i : ℕ) → record_b bs i ≡ true → Sound bs i
sound bs b i e =
    let x = and_to (eqb (get_or bs (begin bs i) 0) (kind_of (fours bs))) _ e in
    let y = and_to (candidate_b (candidate_at bs i)) _ x.1 in
    record {
      candidate = candidate_is (candidate_at bs i) (four_low bs b (begin bs i + 1))
          (byte_low (fours bs) (get_or bs (begin bs i + 9) 0) (b (begin bs i + 9))) y.0;
      after = λ h. ltb-true _ _ (skip i _ h y.1);
    }
  where
    skip : (i : ℕ) (c : Bool) → 1 ≤ i → (eqb i 0 || c) ≡ true → c ≡ true
    skip i c h q = rw (ne_eqb i 0 (λ e. omega arith)) at q

from_records : (bs : List ℕ) (n i lo : ℕ) → ((j : ℕ) → i ≤ j → j < i + n → Sound bs j) → (1 ≤ n → lo ≤ key (candidate_at bs i))
    → Ordered key lo (candidates_from bs n i)
unfolding candidates_from
from_records bs zero i lo s h = tt
from_records bs (suc n) i lo s h = (
  h (omega arith),
  from_records bs n (suc i) (suc (key (candidate_at bs i))) (λ j a b. s j (omega arith) (omega arith))
      (λ k. (let e : suc i - 1 ≡ i = omega arith in rw e at ((s (suc i) (omega arith) (omega arith)).after (omega arith)))),
)

all_records : (bs : List ℕ) (n i : ℕ) → ((j : ℕ) → i ≤ j → j < i + n → Sound bs j)
    → Every (IsCandidate 32) (candidates_from bs n i)
unfolding candidates_from
all_records bs zero i s = tt
all_records bs (suc n) i s = (
  (s i (omega arith) (omega arith)).candidate,
  all_records bs n (suc i) (λ j a b. s j (omega arith) (omega arith)),
)

-- bytes whose tests pass hold candidates
pub whole_list : (bs : List ℕ) → Bytes bs → whole_b bs ≡ true → IsList 32 (candidates_in bs)
unfolding whole_b
whole_list bs b e =
    let x = and_to (eqb (length bs % size_of (fours bs)) 1) _ e in
    let y = and_to (eqb (get_or bs (begin bs (records_in bs)) 0) 0) (all_b (record_b bs) (records_in bs)) x.1 in
    let s : (j : ℕ) → 0 ≤ j → j < 0 + records_in bs
    → Sound bs j = λ j _ h. sound bs b j (all_to_lem (record_b bs) (records_in bs) y.1 j (omega arith)) in
    record { sorted = from_records bs (records_in bs) 0 0 s (λ _. omega arith); candidates = all_records bs (records_in bs) 0 s }

-- ---- the candidates from record i on

pub tail_step : (bs : List ℕ) (n i j : ℕ) → j + 1 ≡ i → i ≤ n
    → candidates_from bs (n - j) j ≡ candidate_at bs j ∷ candidates_from bs (n - i) i
unfolding candidates_from
tail_step bs n i j e h =
    let a : n - j ≡ suc (n - i) = omega arith in
    let b : suc j ≡ i = omega arith in
    rw a (rw b)

pub tail_end : (bs : List ℕ) (n : ℕ) → candidates_from bs (n - n) n ≡ []
unfolding candidates_from
tail_end bs n = let a : n - n ≡ 0 = omega arith in rw a

from_tail : (bs : List ℕ) (d k i : ℕ) → Ordered key 0 (candidates_from bs (d + k) i)
    → Ordered key 0 (candidates_from bs k (d + i))
unfolding candidates_from
from_tail bs zero k i f = let a : 0 + k ≡ k = omega arith in let b : 0 + i ≡ i = omega arith in rw b (rw a at f)
from_tail bs (suc d) k i f =
    let a : suc d + k ≡ suc (d + k) = omega arith in
    let b : suc d + i ≡ d + suc i = omega arith in
    let g : Ordered key 0 (candidates_from bs (suc (d + k)) i) = rw a at f in
    rw b (from_tail bs d k (suc i) (weaken key (candidates_from bs (d + k) (suc i)) (omega arith) g.1))

all_tail : (bs : List ℕ) (d k i : ℕ) → Every (IsCandidate 32) (candidates_from bs (d + k) i)
    → Every (IsCandidate 32) (candidates_from bs k (d + i))
unfolding candidates_from
all_tail bs zero k i f = let a : 0 + k ≡ k = omega arith in let b : 0 + i ≡ i = omega arith in rw b (rw a at f)
all_tail bs (suc d) k i f =
    let a : suc d + k ≡ suc (d + k) = omega arith in
    let b : suc d + i ≡ d + suc i = omega arith in
    let g : Every (IsCandidate 32) (candidates_from bs (suc (d + k)) i) = rw a at f in
    rw b (all_tail bs d k (suc i) g.1)

pub tail_list : (bs : List ℕ) (n i : ℕ) → i ≤ n → IsList 32 (candidates_from bs n 0) → IsList 32 (candidates_from bs (n - i) i)
tail_list bs n i h l =
    let a : i + (n - i) ≡ n = omega arith in
    let b : i + 0 ≡ i = omega arith in
    record {
      sorted = rw b at (from_tail bs i (n - i) 0 (rw a l.sorted));
      candidates = rw b at (all_tail bs i (n - i) 0 (rw a l.candidates));
    }

pub records-length : (bs : List ℕ) (n i : ℕ) → length (candidates_from bs n i) ≡ n
unfolding candidates_from
records-length bs zero i = refl
records-length bs (suc n) i = ap suc (records-length bs n (suc i))

-- keys of routes are below it, so no list of them is longer
abbrev pub key_bound : ℕ
key_bound = 1099511627776

pub list_short : (lo : ℕ) (rs : List Route) → From lo rs → Wfs 32 rs → lo ≤ key_bound → lo + length rs ≤ key_bound
list_short lo [] f w h = omega arith
list_short lo (r ∷ rs) f w h =
    let a : r.addr < 4294967296 = w.0.inside in
    let i = list_short (suc (routes.key r)) rs f.1 w.1 (omega (arith, w.0.fits)) in
    omega (arith, f.0)

-- ---- one record of a list

record_low : (bs : List ℕ) (n i k lo : ℕ) → Ordered key lo (candidates_from bs n i) → k < n → lo ≤ key (candidate_at bs (i + k))
unfolding candidates_from
record_low bs zero i k lo f h = absurd (omega arith)
record_low bs (suc n) i zero lo f h = let e : i + 0 ≡ i = omega arith in rw e f.0
record_low bs (suc n) i (suc k) lo f h =
    let e : suc i + k ≡ i + suc k = omega arith in
    omega (arith, f.0, rw e at (record_low bs n (suc i) k (suc (key (candidate_at bs i))) f.1 (omega arith)))

-- each comes after the one before
pub record_next : (bs : List ℕ) (n i k lo : ℕ) → Ordered key lo (candidates_from bs n i) → k + 1 < n
    → key (candidate_at bs (i + k)) < key (candidate_at bs (i + (k + 1)))
unfolding candidates_from
record_next bs zero i k lo f h = absurd (omega arith)
record_next bs (suc n) i zero lo f h =
    let a : i + 0 ≡ i = omega arith in
    let b : suc i + 0 ≡ i + (0 + 1) = omega arith in
    rw (a, ← b) (record_low bs n (suc i) 0 (suc (key (candidate_at bs i))) f.1 (omega arith))
record_next bs (suc n) i (suc k) lo f h =
    let a : suc i + k ≡ i + suc k = omega arith in
    let b : suc i + (k + 1) ≡ i + (suc k + 1) = omega arith in
    rw (← a, ← b) (record_next bs n (suc i) k (suc (key (candidate_at bs i))) f.1 (omega arith))

pub record_is : (bs : List ℕ) (n i k : ℕ) → Every (IsCandidate 32) (candidates_from bs n i) → k < n
    → IsCandidate 32 (candidate_at bs (i + k))
unfolding candidates_from
record_is bs zero i k f h = absurd (omega arith)
record_is bs (suc n) i zero f h = let e : i + 0 ≡ i = omega arith in rw e f.0
record_is bs (suc n) i (suc k) f h = let e : suc i + k ≡ i + suc k = omega arith in
    rw e at (record_is bs n (suc i) k f.1 (omega arith))

module _ (bs : List ℕ) (l : IsList 32 (candidates_in bs)) (i : ℕ) (h : i < records_in bs) where
  pub candidate_of_fact : IsCandidate 32 (candidate_at bs i)
  candidate_of_fact = let e : 0 + i ≡ i = omega arith in rw e at (record_is bs (records_in bs) 0 i l.candidates h)

  -- the head of m bits is below 2 ^ m
  pub head_fits : (m : ℕ) → m ≤ 32 → (candidate_at bs i).addr / 2 ^ (32 - m) < 2 ^ m
  head_fits m k = let e : m + (32 - m) ≡ 32 = omega arith in shr_lt m (32 - m) (rw e candidate_of_fact.route.wf.inside)

-- the one after it
pub next_of : (bs : List ℕ) (i : ℕ) → IsList 32 (candidates_in bs) → i + 1 < records_in bs
    → key (candidate_at bs i) < key (candidate_at bs (i + 1))
next_of bs i l h =
    let a : 0 + i ≡ i = omega arith in
    let b : 0 + (i + 1) ≡ i + 1 = omega arith in
    rw (a, b) at (record_next bs (records_in bs) 0 i 0 l.sorted h)
