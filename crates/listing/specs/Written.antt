-- The bytes that hold a list are exactly those of a list written out, whatever room it needs: routes as records of kind 1, or
-- candidates as records of kind 4, of which they are the winners. Assumes nothing.
use Rattle.std.specs.Prelude.{◌≡◌, refl, ◌⊎◌, Bool, cond, ◌||◌, drop, ltb, eqb}
use Rattle.std.proofs.Common.{sym, ap₂, ◌∙◌, length-append, drop-cons}
use Rattle.std.proofs.Math.Path.{ap, subst}
use Rattle.std.proofs.Math.Logic.{inl, inr}
use Rattle.std.proofs.Math.Bool.{true, false}
use mathlib.Core.List.{List, [], ◌∷◌, ◌++◌, append_assoc}
use Prim.Native.Nat.{ℕ, zero, suc, ◌+◌, ◌-◌, ◌*◌, ◌/◌, ◌%◌, ◌≤◌, ◌<◌}
use native.Mathlib.Omega.{arith}
use Rattle.std.proofs.Math.ListN.{length, get_or}
use borrow.Author.Tests.{lt-ltb, le-ltb, eq-eqb, ne_eqb, eqb-true}
use Rattle.routes.specs.Family.{v4}
use Rattle.routes.specs.Route.{Route}
use Rattle.routes.specs.Route as routes
use Rattle.numbers.specs.Digits.{two, digits, two_at, four_at}
use Rattle.numbers.specs.Number.{number_at}
use Rattle.numbers.specs.Back.{four-digits}
use Rattle.numbers.specs.Four.{four_at_lem}
use Rattle.logic.specs.Cases.{bool}
use Rattle.logic.specs.Bools.{and_to, or_true}
use Rattle.logic.specs.Every.{all_b}
use Rattle.logic.specs.Reflects.{all_to_lem, all_from}
use Rattle.laws.specs.Encoded.{byte}
use Rattle.candidates.specs.Keyed.{Every}
use Rattle.candidates.specs.Candidate.{Candidate, key, IsCandidate, IsList}
use Rattle.candidates.specs.Winners.{winners}
use Rattle.candidates.specs.Bytes.{Sent, announces, announces_for, sent_bytes, all_bytes, announced, written, plainly}
use Rattle.candidates.specs.Bytes.{written_plainly}
use Rattle.encoded.specs.Encoded.{sent_back, size_back}
use Rattle.listing.specs.Listed.{fours, kind_of, size_of, begin, records_in, candidate_of, candidate_at, candidates_from}
use Rattle.listing.specs.Listed.{candidates_in, list_of, candidate_b, record_b, whole_b, unlisted, listed, listed_in}
use Rattle.listing.specs.Records.{Bytes, whole_list, two_low, record_is, record_next, records_end}
use Rattle.listing.specs.Plain.{OfKind, routes_of, winners-plain}

-- candidates written out as records of kind 4, of which these routes are the winners
pub record Ranked (bs : List ℕ) (rs : List Route) : Type 0 where
  pub candidates : List Candidate
  pub list : IsList 32 candidates
  pub won : rs ≡ winners candidates
  pub bytes : bs ≡ written v4 candidates

-- one whole list, written out
pub record WrittenOut (bs : List ℕ) (rs : List Route) : Type 0 where
  pub list : routes.IsList 32 rs
  pub bytes : (bs ≡ written_plainly rs) ⊎ Ranked bs rs

-- ---- records of either kind

-- a candidate as a record
abbrev sent : Bool → Candidate → Sent
sent true c = announces_for c.addr c.len c.hop c.feed c.pref
sent false c = announces c.addr c.len c.hop

abbrev sents : Bool → List Candidate → List Sent
sents b [] = []
sents b (c ∷ cs) = sent b c ∷ sents b cs

abbrev pub written_as : Bool → List Candidate → List ℕ
written_as b cs = all_bytes v4 (sents b cs) ++ (0 ∷ [])

pub as_fours : (cs : List Candidate) → written_as true cs ≡ written v4 cs
as_fours cs = ap (λ (xs : List Sent). all_bytes v4 xs ++ (0 ∷ [])) (go cs)
  where
    go : (cs : List Candidate) → sents true cs ≡ announced cs
    go [] = refl
    go (c ∷ cs) = ap (◌∷◌ (sent true c)) (go cs)

pub as_ones : (cs : List Candidate) → written_as false cs ≡ written_plainly (routes_of cs)
as_ones cs = ap (λ (xs : List Sent). all_bytes v4 xs ++ (0 ∷ [])) (go cs)
  where
    go : (cs : List Candidate) → sents false cs ≡ plainly (routes_of cs)
    go [] = refl
    go (c ∷ cs) = ap (◌∷◌ (sent false c)) (go cs)

size-sent : (b : Bool) (c : Candidate) → length (sent_bytes v4 (sent b c)) ≡ size_of b
size-sent true c = sym (size_back v4 (sent true c))
size-sent false c = sym (size_back v4 (sent false c))

-- ---- a list written out is read back

abbrev feed : Bool → List ℕ → List Candidate → List ℕ → List ℕ
feed b pre cs ys = pre ++ (all_bytes v4 (sents b cs) ++ ys)

-- n candidates read as of a kind
abbrev read_as : Bool → List ℕ → ℕ → ℕ → List Candidate
read_as b bs zero i = []
read_as b bs (suc n) i = candidate_of b bs (size_of b * i) ∷ read_as b bs n (suc i)

read_as_lem : (bs : List ℕ) (n i : ℕ) → candidates_from bs n i ≡ read_as (fours bs) bs n i
unfolding candidates_from
read_as_lem bs zero i = refl
read_as_lem bs (suc n) i = ap (◌∷◌ (candidate_at bs i)) (read_as_lem bs n (suc i))

module _ (pre : List ℕ) (c : Candidate) (ys : List ℕ) (x : ℕ) (e : x ≡ length pre) (w : IsCandidate 32 c) where
  abbrev G : Bool → List ℕ
  G b = pre ++ (sent_bytes v4 (sent b c) ++ ys)

  address_back : (b : Bool) → number_at 4 (G b) (x + 1) ≡ c.addr → four_at (G b) (x + 1) ≡ c.addr
  address_back b q =
      let l : length (G b) ≡ length pre + (size_of b + length ys) =
      length-append pre (sent_bytes v4 (sent b c) ++ ys)
      ∙ ap (λ (n : ℕ). length pre + n)
      (length-append (sent_bytes v4 (sent b c)) ys ∙ ap (λ (n : ℕ). n + length ys) (size-sent b c)) in
      sym (four_at_lem (G b) (x + 1) (omega (arith, size-five b))) ∙ q
    where
      size-five : (b : Bool) → 5 ≤ size_of b
      size-five true = omega arith
      size-five false = omega arith

  candidate_back : (b : Bool) → OfKind b c → candidate_of b (pre ++ (sent_bytes v4 (sent b c) ++ ys)) x ≡ c
  candidate_back true o =
      let j : x + 1 + 4 ≡ x + 5 = omega arith in
      let k : x + 5 + 1 ≡ x + 6 = omega arith in
      let m : x + 5 + 3 ≡ x + 8 = omega arith in
      let n : x + 5 + 4 ≡ x + 9 = omega arith in
      let s = rw (j, k, m, n) at (sent_back v4 pre x e (sent true c) ys (record {
        kind = omega arith;
        address = w.route.wf.inside;
        tail = (omega (arith, w.route.wf.fits), omega (arith, w.route.low), omega (arith, w.high), w.byte);
      })) in
      let p : number_at 4 (G true) (x + 1) ≡ c.addr = cc in
      let q : get_or (G true) (x + 5) 0 ≡ c.len = cc in
      let r : two_at (G true) (x + 6) ≡ c.hop = cc in
      let t : get_or (G true) (x + 8) 0 ≡ c.feed = cc in
      let u : get_or (G true) (x + 9) 0 ≡ c.pref = cc in
      λ i. record { addr = address_back true p i; len = q i; feed = t i; pref = u i; hop = r i }
  candidate_back false o =
      let j : x + 1 + 4 ≡ x + 5 = omega arith in
      let k : x + 5 + 1 ≡ x + 6 = omega arith in
      let s = rw (j, k) at (sent_back v4 pre x e (sent false c) ys (record {
        kind = omega arith;
        address = w.route.wf.inside;
        tail = (omega (arith, w.route.wf.fits), omega (arith, w.route.low));
      })) in
      let p : number_at 4 (G false) (x + 1) ≡ c.addr = cc in
      let q : get_or (G false) (x + 5) 0 ≡ c.len = cc in
      let r : two_at (G false) (x + 6) ≡ c.hop = cc in
      λ i. record { addr = address_back false p i; len = q i; feed = sym o.0 i; pref = sym o.1 i; hop = r i }

  kind_back : (b : Bool) → get_or (pre ++ (sent_bytes v4 (sent b c) ++ ys)) x 0 ≡ kind_of b
  kind_back true = byte pre (sent_bytes v4 (sent true c) ++ ys) x 0 (omega arith)
  kind_back false = byte pre (sent_bytes v4 (sent false c) ++ ys) x 0 (omega arith)

-- the bytes regrouped after a record
regroup : (b : Bool) (pre : List ℕ) (c : Candidate) (cs : List Candidate) (ys : List ℕ)
    → feed b pre (c ∷ cs) ys ≡ feed b (pre ++ sent_bytes v4 (sent b c)) cs ys
regroup b pre c cs ys = simp append_assoc

list_back : (b : Bool) (pre : List ℕ) (cs : List Candidate) (ys : List ℕ) (j : ℕ) → size_of b * j ≡ length pre
    → Every (IsCandidate 32) cs → Every (OfKind b) cs → read_as b (feed b pre cs ys) (length cs) j ≡ cs
list_back b pre [] ys j e p o = refl
list_back b pre (c ∷ cs) ys j e p o =
    let a : feed b pre (c ∷ cs) ys ≡ pre ++ (sent_bytes v4 (sent b c) ++ (all_bytes v4 (sents b cs) ++ ys)) = simp append_assoc in
    let l : size_of b * suc j ≡ length (pre ++ sent_bytes v4 (sent b c)) =
    omega (arith, length-append pre (sent_bytes v4 (sent b c)), size-sent b c) in
    ap₂ ◌∷◌ (rw a (candidate_back pre c (all_bytes v4 (sents b cs) ++ ys) (size_of b * j) e p.0 b o.0))
    (subst (λ (x : List ℕ). read_as b x (length cs) (suc j) ≡ cs) (sym (regroup b pre c cs ys))
    (list_back b (pre ++ sent_bytes v4 (sent b c)) cs ys (suc j) l p.1 o.1))

kinds_back : (b : Bool) (pre : List ℕ) (cs : List Candidate) (ys : List ℕ) (j i : ℕ) → size_of b * j ≡ length pre
    → Every (IsCandidate 32) cs → i < length cs → get_or (feed b pre cs ys) (size_of b * (j + i)) 0 ≡ kind_of b
kinds_back b pre [] ys j i e p h = absurd (omega arith)
kinds_back b pre (c ∷ cs) ys j zero e p h =
    let a : feed b pre (c ∷ cs) ys ≡ pre ++ (sent_bytes v4 (sent b c) ++ (all_bytes v4 (sents b cs) ++ ys)) = simp append_assoc in
    let q : j + 0 ≡ j = omega arith in
    rw (a, q) (kind_back pre c (all_bytes v4 (sents b cs) ++ ys) (size_of b * j) e p.0 b)
kinds_back b pre (c ∷ cs) ys j (suc i) e p h =
    let l : size_of b * suc j ≡ length (pre ++ sent_bytes v4 (sent b c)) =
    omega (arith, length-append pre (sent_bytes v4 (sent b c)), size-sent b c) in
    let q : j + suc i ≡ suc j + i = omega arith in
    rw (regroup b pre c cs ys, q) (kinds_back b (pre ++ sent_bytes v4 (sent b c)) cs ys (suc j) i l p.1 (omega arith))

-- ---- what a list's records pass

candidate-passes : (c : Candidate) → IsCandidate 32 c → candidate_b c ≡ true
candidate-passes c w =
    rw (
      le-ltb 32 c.len w.route.wf.fits,
      w.route.wf.clean,
      ne_eqb c.hop 0 (λ e. (let z = w.route.wf.some in omega arith)),
      le-ltb 65535 c.hop w.route.low,
      ne_eqb c.feed 0 (λ e. (let z = w.low in omega arith)),
      le-ltb 4 c.feed w.high,
    )

record_passes : (bs : List ℕ) (n i : ℕ) → IsList 32 (candidates_from bs n 0) → i < n
    → get_or bs (begin bs i) 0 ≡ kind_of (fours bs)
    → record_b bs i ≡ true
record_passes bs n i l h k =
    let e : 0 + i ≡ i = omega arith in
    let w : IsCandidate 32 (candidate_at bs i) = rw e at (record_is bs n 0 i l.candidates h) in
    rw (eq-eqb (get_or bs (begin bs i) 0) (kind_of (fours bs)) k, candidate-passes (candidate_at bs i) w) (order i h)
  where
    order : (i : ℕ) → i < n → (eqb i 0 || ltb (key (candidate_at bs (i - 1))) (key (candidate_at bs i))) ≡ true
    order zero h = refl
    order (suc i) h =
        let a : 0 + i ≡ suc i - 1 = omega arith in
        let b : 0 + (i + 1) ≡ suc i = omega arith in
        let o : key (candidate_at bs (suc i - 1)) < key (candidate_at bs (suc i)) =
        rw (a, b) at (record_next bs n 0 i 0 l.sorted (omega arith)) in
        rw (lt-ltb (key (candidate_at bs (suc i - 1))) (key (candidate_at bs (suc i))) o) (or_true (eqb (suc i) 0))

-- ---- so a list written out is listed

long_as : (b : Bool) (cs : List Candidate) → length (all_bytes v4 (sents b cs)) ≡ size_of b * length cs
long_as b [] = omega arith
long_as b (c ∷ cs) =
    length-append (sent_bytes v4 (sent b c)) (all_bytes v4 (sents b cs)) ∙ omega (arith, size-sent b c, long_as b cs)

module _ (b : Bool) (cs : List Candidate) (l : IsList 32 cs) (o : Every (OfKind b) cs) (q : fours (written_as b cs) ≡ b) where
  abbrev W : List ℕ
  W = written_as b cs

  long : length W ≡ size_of b * length cs + 1
  long = length-append (all_bytes v4 (sents b cs)) (0 ∷ []) ∙ omega (arith, long_as b cs)

  count : records_in W ≡ length cs
  unfolding records_in
  count = rw (q, long) (go b (length cs))
    where
      go : (b : Bool) (n : ℕ) → (size_of b * n + 1) / size_of b ≡ n
      go true n = omega arith
      go false n = omega arith

  odd : length W % size_of (fours W) ≡ 1
  odd = rw (q, long) (go b (length cs))
    where
      go : (b : Bool) (n : ℕ) → (size_of b * n + 1) % size_of b ≡ 1
      go true n = omega arith
      go false n = omega arith

  back : candidates_in W ≡ cs
  back = read_as_lem W (records_in W) 0 ∙ rw (q, count) (list_back b [] cs (0 ∷ []) 0 (omega arith) l.candidates o)

  last_byte : get_or W (begin W (records_in W)) 0 ≡ 0
  last_byte = rw (q, count) (byte (all_bytes v4 (sents b cs)) (0 ∷ []) (size_of b * length cs) 0 (omega (arith, long_as b cs)))

  whole_written : whole_b W ≡ true
  unfolding whole_b
  whole_written =
      rw (eq-eqb (length W % size_of (fours W)) 1 odd, last_byte)
      (all_from (record_b W) (records_in W)
      (λ i h. record_passes W (records_in W) i (rw back l) h (kinds i (omega (arith, count)))))
    where
      kinds : (i : ℕ) → i < length cs → get_or W (begin W i) 0 ≡ kind_of (fours W)
      kinds i h =
          let e : 0 + i ≡ i = omega arith in
          rw q (rw e at (kinds_back b [] cs (0 ∷ []) 0 i (omega arith) l.candidates h))

  pub listed_as : listed_in W ≡ listed (winners cs)
  unfolding listed_in
  listed_as = rw (whole_written, back)

-- ---- and bytes that are listed are those of their list

-- which is that of their records
pub listed_list : (bs : List ℕ) (rs : List Route) → listed_in bs ≡ listed rs → list_of bs ≡ rs
unfolding listed_in
listed_list bs rs e = go (whole_b bs) e
  where
    go : (b : Bool) → cond b (listed (list_of bs)) unlisted ≡ listed rs → list_of bs ≡ rs
    go true e = cc
    go false e = let z : ◌≡◌ {A = ℕ} 0 1 = cc in absurd (omega arith)

pub listed_whole : (bs : List ℕ) (rs : List Route) → listed_in bs ≡ listed rs → whole_b bs ≡ true
unfolding listed_in
listed_whole bs rs e =
    bool (whole_b bs)
    (λ t. t)
    (λ t. (let d : unlisted ≡ listed rs = rw t at e in let z : ◌≡◌ {A = ℕ} 0 1 = cc in absurd (omega arith)))

module _ (bs : List ℕ) (b : Bytes bs) where
  pair : (x : ℕ) → two (two_at bs x) ≡ get_or bs x 0 ∷ get_or bs (x + 1) 0 ∷ []
  pair x =
      let p : (get_or bs x 0 * 256 + get_or bs (x + 1) 0) / 256 % 256 ≡ get_or bs x 0 = omega (arith, b x, b (x + 1)) in
      let q : (get_or bs x 0 * 256 + get_or bs (x + 1) 0) % 256 ≡ get_or bs (x + 1) 0 = omega (arith, b x, b (x + 1)) in
      λ i. p i ∷ q i ∷ []

  quad : (x : ℕ) → digits 4 (four_at bs x) ≡ get_or bs x 0 ∷ get_or bs (x + 1) 0 ∷ get_or bs (x + 2) 0 ∷ get_or bs (x + 2 + 1) 0
      ∷ []
  quad x =
      let p : (two_at bs x * 65536 + two_at bs (x + 2)) / 65536 ≡ two_at bs x =
      high (two_at bs x) (two_at bs (x + 2)) (two_low bs b (x + 2)) in
      let q : (two_at bs x * 65536 + two_at bs (x + 2)) % 65536 ≡ two_at bs (x + 2) =
      low (two_at bs x) (two_at bs (x + 2)) (two_low bs b (x + 2)) in
      four-digits (four_at bs x) ∙ ap₂ (λ (u v : ℕ). two u ++ two v) p q ∙ ap₂ (λ (u v : List ℕ). u ++ v) (pair x) (pair (x + 2))
    where
      high : (u v : ℕ) → v < 65536 → (u * 65536 + v) / 65536 ≡ u
      high u v h = omega arith

      low : (u v : ℕ) → v < 65536 → (u * 65536 + v) % 65536 ≡ v
      low u v h = omega arith

  cut : (k n : ℕ) → n ≡ suc k → k < length bs → drop k bs ≡ get_or bs k 0 ∷ drop n bs
  cut k n e h = drop-cons bs k 0 h ∙ rw e

  -- the eight bytes that records of both kinds begin with, and what follows them
  abbrev eight : ℕ → List ℕ → List ℕ
  eight x ys =
      get_or bs x 0 ∷ get_or bs (x + 1) 0 ∷ get_or bs (x + 1 + 1) 0 ∷ get_or bs (x + 1 + 2) 0 ∷ get_or bs (x + 1 + 2 + 1) 0
      ∷ get_or bs (x + 5) 0 ∷ get_or bs (x + 6) 0 ∷ get_or bs (x + 6 + 1) 0 ∷ ys

  one_byte : (x : ℕ) → get_or bs x 0 % 256 ≡ get_or bs x 0
  one_byte x = omega (arith, b x)

  record_bytes : (f : Bool) (x : ℕ) → get_or bs x 0 ≡ kind_of f → (ys : List ℕ)
      → sent_bytes v4 (sent f (candidate_of f bs x)) ++ ys ≡ eight x (cond f (get_or bs (x + 8) 0 ∷ get_or bs (x + 9) 0 ∷ ys) ys)
  record_bytes true x k ys = λ j.
      (sym k j ∷ (quad (x + 1) j ++ ((one_byte (x + 5) j ∷ []) ++ (pair (x + 6) j
      ++ ((one_byte (x + 8) j ∷ []) ++ (one_byte (x + 9) j ∷ [])))))) ++ ys
  record_bytes false x k ys = λ j. (sym k j ∷ (quad (x + 1) j ++ ((one_byte (x + 5) j ∷ []) ++ pair (x + 6) j))) ++ ys

  cut_eight : (x : ℕ) → x + 8 ≤ length bs → drop x bs ≡ eight x (drop (x + 8) bs)
  cut_eight x h =
      rw (
        cut x (x + 1) (omega arith) (omega arith),
        cut (x + 1) (x + 1 + 1) (omega arith) (omega arith),
        cut (x + 1 + 1) (x + 1 + 2) (omega arith) (omega arith),
        cut (x + 1 + 2) (x + 1 + 2 + 1) (omega arith) (omega arith),
        cut (x + 1 + 2 + 1) (x + 5) (omega arith) (omega arith),
        cut (x + 5) (x + 6) (omega arith) (omega arith),
        cut (x + 6) (x + 6 + 1) (omega arith) (omega arith),
        cut (x + 6 + 1) (x + 8) (omega arith) (omega arith),
      )

  -- the bytes from a record on, after its own
  after_record : (f : Bool) (x : ℕ) → x + size_of f ≤ length bs → get_or bs x 0 ≡ kind_of f
      → drop x bs ≡ sent_bytes v4 (sent f (candidate_of f bs x)) ++ drop (x + size_of f) bs
  after_record true x h k =
      cut_eight x (omega arith)
      ∙ ap (eight x)
      (cut (x + 8) (x + 9) (omega arith) (omega arith)
      ∙ ap (◌∷◌ (get_or bs (x + 8) 0)) (cut (x + 9) (x + 10) (omega arith) (omega arith)))
      ∙ sym (record_bytes true x k (drop (x + 10) bs))
  after_record false x h k = cut_eight x (omega arith) ∙ sym (record_bytes false x k (drop (x + 8) bs))

  rest : (f : Bool) (n i : ℕ) → size_of f * (i + n) + 1 ≡ length bs
      → ((j : ℕ) → i ≤ j → j < i + n → get_or bs (size_of f * j) 0 ≡ kind_of f) → get_or bs (size_of f * (i + n)) 0 ≡ 0
      → drop (size_of f * i) bs ≡ all_bytes v4 (sents f (read_as f bs n i)) ++ (0 ∷ [])
  rest f zero i e k z =
      let q : i + 0 ≡ i = omega arith in
      let d : size_of f * i + 1 ≡ length bs = rw q at e in
      cut (size_of f * i) (size_of f * i + 1) (omega arith) (omega arith)
      ∙ ap₂ ◌∷◌ (rw q at z) (drop_all bs (size_of f * i + 1) (omega arith))
    where
      drop_all : (xs : List ℕ) (m : ℕ) → length xs ≤ m → drop m xs ≡ []
      drop_all [] zero h = refl
      drop_all [] (suc m) h = refl
      drop_all (x ∷ xs) zero h = absurd (omega arith)
      drop_all (x ∷ xs) (suc m) h = drop_all xs m (omega arith)
  rest f (suc n) i e k z =
      let q : i + suc n ≡ suc i + n = omega arith in
      let s : size_of f * i + size_of f ≡ size_of f * suc i = omega arith in
      let t : size_of f * (suc i + n) + 1 ≡ length bs = rw q at e in
      let c = candidate_of f bs (size_of f * i) in
      (rw s at (after_record f (size_of f * i) (omega arith) (k i (omega arith) (omega arith))))
      ∙ ap (λ (u : List ℕ). sent_bytes v4 (sent f c) ++ u)
      (rest f n (suc i) t (λ j u v. k j (omega arith) (omega arith)) (rw q at z))
      ∙ sym (append_assoc (sent_bytes v4 (sent f c)) (all_bytes v4 (sents f (read_as f bs n (suc i)))) (0 ∷ []))

  whole_bytes : whole_b bs ≡ true → bs ≡ written_as (fours bs) (candidates_in bs)
  unfolding whole_b
  whole_bytes e =
      let x = and_to (eqb (length bs % size_of (fours bs)) 1) _ e in
      let y = and_to (eqb (get_or bs (begin bs (records_in bs)) 0) 0) (all_b (record_b bs) (records_in bs)) x.1 in
      let q : 0 + records_in bs ≡ records_in bs = omega arith in
      let z : size_of (fours bs) * 0 ≡ 0 = omega arith in
      let r = rest (fours bs) (records_in bs) 0 (rw q (records_end bs (eqb-true _ _ x.0)))
      (λ j u v. eqb-true _ _ (and_to (eqb (get_or bs (begin bs j) 0) (kind_of (fours bs))) _
      (all_to_lem (record_b bs) (records_in bs) y.1 j (omega arith))).0)
      (rw q (eqb-true _ _ y.0)) in
      rw (read_as_lem bs (records_in bs) 0) (rw z at r)

  -- of which kind they are
  pub out_bytes : whole_b bs ≡ true → IsList 32 (candidates_in bs) → (bs ≡ written_plainly (list_of bs)) ⊎ Ranked bs (list_of bs)
  unfolding candidates_from
  out_bytes e l = bool (fours bs)
      (λ f. inr (record {
        candidates = candidates_in bs;
        list = l;
        won = refl;
        bytes = whole_bytes e ∙ ap (λ (g : Bool). written_as g (candidates_in bs)) f ∙ as_fours (candidates_in bs);
      }))
      (λ f. inl (whole_bytes e ∙ ap (λ (g : Bool). written_as g (candidates_in bs)) f ∙ as_ones (candidates_in bs)
      ∙ ap written_plainly (sym (winners-plain 0 (candidates_in bs) l.sorted (plains f (records_in bs) 0)))))
    where
      plains : fours bs ≡ false → (n i : ℕ) → Every (OfKind false) (candidates_from bs n i)
      plains f zero i = tt
      plains f (suc n) i = ((rw f, rw f), plains f n (suc i))

  pub listed_candidates : (rs : List Route) → listed_in bs ≡ listed rs → IsList 32 (candidates_in bs)
  listed_candidates rs e = whole_list bs b (listed_whole bs rs e)
