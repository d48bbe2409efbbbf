-- Heads counted from the last record to the first, as the loop takes them, and the arrays from such counts. Assumes nothing.
use mathlib.Core.Path.{◌≡◌, refl, sym, ap, ◌∙◌}
use mathlib.Core.Bool.{Bool, true, false}
use mathlib.Core.List.{List, ◌∷◌}
use Rattle.std.specs.Prelude.{Option, Some, None}
use Prim.Native.Nat.{ℕ, suc, ◌+◌, ◌-◌, ◌*◌, ◌/◌, ◌^◌, ◌≤◌}
use native.Mathlib.Numerals.{add-one}
use native.Mathlib.Omega.{arith}
use Rattle.routes.specs.Route.{Route}
use Rattle.routes.specs.Route as routes
use Rattle.routes.specs.Room.{distinct, need_to}
use Rattle.logic.specs.Cases.{same}
use Rattle.laws.specs.Longest.{wfs}
use Rattle.candidates.specs.Candidate.{Candidate, IsList}
use Rattle.candidates.specs.Winners.{winners, prefixes}
use Rattle.rivals.specs.Won.{are_good, winners_list}
use Rattle.listing.specs.Listed.{candidate_at, candidates_from}
use Rattle.listing.specs.Heads.{picks, between, no_head, last_head, Counted, first_or, heads-picks, count_skip}
use Rattle.listing.specs.Heads.{count_same, count_new, count_first, distinct-length, prefixes-length, distinct-winners}
use Rattle.listing.specs.Records.{key_bound, tail_step, tail_end, tail_list, records-length, list_short}

-- what was counted so far, over the records from i on: the count, and the address met last
pub record Counts (P : ℕ → Bool) (m : ℕ) (rs : List Route) (seen : ℕ) (last : Option ℕ) : Type 0 where
  pub count : seen ≡ distinct (picks P m rs)
  pub first : last_head m last ≡ first_or no_head (picks P m rs)

-- ---- one address more: of the head met last, or of another

pub counts_none : (P : ℕ → Bool) (m n : ℕ) (bs : List ℕ) → Counts P m (prefixes (candidates_from bs (n - n) n)) 0 None
counts_none P m n bs = rw (tail_end bs n) (record { count = refl; first = refl })

module _ (P : ℕ → Bool) (m n i j : ℕ) (bs : List ℕ) (e : j + 1 ≡ i) (h : i ≤ n) (l : IsList 32 (candidates_from bs n 0))
    (seen : ℕ) (last : Option ℕ) (s : Counts P m (prefixes (candidates_from bs (n - i) i)) seen last) where
  list : IsList 32 (candidate_at bs j ∷ candidates_from bs (n - i) i)
  list = rw (tail_step bs n i j e h) at (tail_list bs n j (omega arith) l)

  pub counts_past : (b : Bool) → b ≡ P (candidate_at bs j).len → b ≡ false
      → Counts P m (prefixes (candidates_from bs (n - j) j)) seen last
  counts_past b q f =
      let z = count_skip P m (candidate_at bs j) (candidates_from bs (n - i) i) list (sym q ∙ f) in
      rw (tail_step bs n i j e h) (record {
        count = s.count ∙ ap distinct (sym z);
        first = s.first
            ∙ ap (first_or no_head) (sym z);
      })

  pub counts_more : (b : Bool) (a r : ℕ) → b ≡ P (candidate_at bs j).len → b ≡ true → a ≡ (candidate_at bs j).addr
      → Counted seen (a / 2 ^ (32 - m)) (last_head m last) r
      → Counts P m (prefixes (candidates_from bs (n - j) j)) r (Some a)
  counts_more b a r q f ea c =
      let p : P (candidate_at bs j).len ≡ true = sym q ∙ f in
      let x = candidate_at bs j in
      let xs = candidates_from bs (n - i) i in
      let v = a / 2 ^ (32 - m) in
      let ev : v ≡ x.addr / 2 ^ (32 - m) = rw ea in
      let old = last_head m last in
      rw (tail_step bs n i j e h) (record {
        count = same v old
            (λ z _. c.same z ∙ s.count ∙ sym (count_same P m x xs list p (sym ev ∙ z ∙ s.first)))
            (λ z _. c.more z ∙ add-one seen ∙ ap suc s.count
            ∙ sym (count_new P m x xs list p (λ y. z (ev ∙ y ∙ sym s.first))));
        first = ev ∙ sym (count_first P m x xs list p);
      })

pub counts_low : (P : ℕ → Bool) (m n i : ℕ) (bs : List ℕ) (seen : ℕ) (last : Option ℕ)
    → Counts P m (prefixes (candidates_from bs (n - i) i)) seen last → seen ≤ n - i
counts_low P m n i bs seen last s =
    let cs = candidates_from bs (n - i) i in
    omega (arith, s.count, distinct-length P m (prefixes cs), prefixes-length cs, records-length bs (n - i) i)

pub counts_end : (P : ℕ → Bool) (m n i : ℕ) (bs : List ℕ) (seen : ℕ) (last : Option ℕ) → i ≤ 0
    → IsList 32 (candidates_from bs n 0)
    → Counts P m (prefixes (candidates_from bs (n - i) i)) seen last
    → seen ≡ distinct (picks P m (winners (candidates_from bs n 0)))
counts_end P m n i bs seen last h l s =
    let cs = candidates_from bs n 0 in
    let z : i ≡ 0 = omega arith in
    let d : n - 0 ≡ n = omega arith in
    (rw (z, d) at s.count) ∙ distinct-winners P m cs (are_good 32 (omega arith) cs l)

-- ---- the arrays

-- no more heads than there are keys
pub picks_few : (P : ℕ → Bool) (m : ℕ) (cs : List Candidate) → IsList 32 cs → distinct (picks P m (winners cs)) ≤ key_bound
picks_few P m cs l =
    let w = winners_list 32 cs l in
    omega (
      arith,
      distinct-length P m (winners cs),
      list_short 0 (winners cs) w.sorted (wfs 32 (winners cs) w.routes) (omega arith),
    )

pub arrays_none : (rs : List Route) → 1 ≡ need_to 32 0 rs
unfolding need_to
arrays_none rs = refl

-- those of one level more
pub arrays_more : (rs : List Route) (sum k j c : ℕ) → routes.IsList 32 rs → sum ≡ need_to 32 k rs → j ≡ k + 1
    → c ≡ distinct (picks (between (8 * j + 1) 32) (8 * j) rs) → sum + c ≡ need_to 32 j rs
unfolding need_to
arrays_more rs sum k j c l e s q =
    let z : j ≡ suc k = omega arith in
    rw (z, heads-picks (8 * suc k) rs (wfs 32 rs l.routes), e) (ap (λ (n : ℕ). need_to 32 k rs + n) (rw z at q))
