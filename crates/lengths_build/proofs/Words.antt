-- How many words a list needs: the entries of its lengths summed up, and the answer from that. Assumes nothing.
use mathlib.Core.Path.{◌≡◌, refl, sym, ◌∙◌}
use mathlib.Core.Logic.{◌≢◌}
use mathlib.Core.Bool.{cond}
use mathlib.Core.List.{List, [], ◌∷◌}
use Prim.Native.Nat.{ℕ, suc, ◌+◌, ◌^◌, ◌≤◌, ◌<◌}
use native.Mathlib.Nat.{le_refl}
use native.Mathlib.Numerals.{add-one}
use native.Mathlib.Omega.{arith}
use lib.ListN.{length}
use lib.Dec.{eqb}
use lib.Pow.{pow_mono}
use borrow.Author.Tests.{ne_eqb}
use Rattle.routes.specs.Route.{Route, key, From, hop_at}
use Rattle.routes.specs.Route as routes
use Rattle.routes.specs.Room.{distinct}
use Rattle.logic.specs.Cases.{same}
use Rattle.laws.specs.Longest.{Wfs, wfs}
use Rattle.laws.specs.Sorted.{hop_head, hop_below}
use Rattle.candidates.specs.Candidate.{IsList}
use Rattle.rivals.specs.Won.{winners_list}
use Rattle.listing.specs.Listed.{records_in, candidate_at, candidates_from, candidates_in, list_of}
use Rattle.listing.specs.Winning.{winning_at, record_won}
use Rattle.listing.specs.Heads.{picks, between}
use Rattle.lengths.specs.Marks.{markers, entries}
use Rattle.lengths.specs.Entries.{tally, entries_to}
use Rattle.lengths.proofs.Entries.{entries_all}
use Rattle.lengths.specs.Few.{few_entries}
use Rattle.lengths_build.specs.Build.{entries_bound}
use Rattle.lengths_build.specs.Reach.{reach, entries-reach}
use Rattle.lengths_build.specs.Best.{default_unheld, default_hop}

entries-count : (rs : List Route) (m k a : ℕ) → routes.IsList 32 rs → 1 ≤ m → m ≤ 32 → k ≡ reach m
    → a ≡ distinct (picks (between m k) m rs) → a ≡ distinct (entries m rs)
entries-count rs m k a l h j e q = rw (entries-reach m rs h j (wfs 32 rs l.routes), ← e) q

-- no length has more than the bound
entries_few : (rs : List Route) (m a : ℕ) → routes.IsList 32 rs → m ≤ 32 → a ≡ distinct (entries m rs) → a ≤ entries_bound
entries_few rs m a l k e =
    let b : 2 ^ m ≤ 2 ^ 32 = pow_mono {i = m} {j = 32} k in
    omega (arith, few_entries m rs k (wfs 32 rs l.routes))

pub entries-told : (bs : List ℕ) (m k a : ℕ) → IsList 32 (candidates_in bs) → 1 ≤ m → m ≤ 32 → k ≡ reach m
    → a ≡ distinct (picks (between m k) m (list_of bs)) → (a ≡ distinct (entries m (list_of bs))) × (a ≤ entries_bound)
entries-told bs m k a t h j e q =
    let l = winners_list 32 (candidates_in bs) t in
    let s = entries-count (list_of bs) m k a l h j e q in
    (s, entries_few (list_of bs) m a l j s)

-- ---- summed up

-- the default route has the key 0: it is the first, or there is none
default_past : (lo : ℕ) (rs : List Route) → 1 ≤ lo → From lo rs → Wfs 32 rs → tally 0 rs ≡ 0
default_past lo [] h f w = refl
default_past lo (r ∷ rs) h f w =
    same r.len 0
    (λ z _. absurd (omega (arith, f.0, w.0.inside, rw z at w.0.clean)))
    (λ n e. rw e (default_past (suc (key r)) rs (omega arith) f.1 w.1))

tally_default : (rs : List Route) → routes.IsList 32 rs → tally 0 rs ≡ cond (eqb (hop_at rs 0) 0) 0 1
tally_default [] l = refl
tally_default (r ∷ rs) l =
    let w = l.routes.0.wf in
    let z = default_past (suc (key r)) rs (omega arith) l.sorted.1 (wfs 32 rs l.routes.1) in
    same r.len 0
    (λ q e.
    rw (
      e,
      z,
      hop_head r rs 0 (omega (arith, w.inside, rw q at w.clean)),
      ne_eqb r.hop 0 (λ t. omega (arith, w.some)),
    ))
    (λ n e. rw (e, z, hop_below (key r) 0 (r ∷ rs) (le_refl _, l.sorted.1) (omega arith)))

module _ (bs : List ℕ) (n : ℕ) (en : n ≡ records_in bs) where
  pub default_empty : n ≡ 0 → 0 ≡ tally 0 (list_of bs)
  unfolding candidates_from
  default_empty e = rw (sym en ∙ e)

  module _ (s : IsList 32 (candidates_in bs)) (some : n ≢ 0) (l : ℕ) (e : l ≡ (candidate_at bs 0).len) where
    h : 0 < records_in bs
    h = omega arith

    is : tally 0 (list_of bs) ≡ cond (eqb (hop_at (list_of bs) 0) 0) 0 1
    is = tally_default (list_of bs) (winners_list 32 (candidates_in bs) s)

    pub default_absent : l ≢ 0 → 0 ≡ tally 0 (list_of bs)
    default_absent d = sym (is ∙ rw (default_unheld bs s h (omega arith)))

    pub default_there : l ≡ 0 → 1 ≡ tally 0 (list_of bs)
    default_there z =
        let won = record_won bs s 0 h in
        sym (is ∙ rw (default_hop bs s h (sym e ∙ z), ne_eqb (winning_at bs 0) 0 (λ t. omega arith)))

pub total_none : (rs : List Route) (a : ℕ) → a ≡ tally 0 rs → a ≡ entries_to 0 rs + tally 0 rs
unfolding entries_to
total_none rs a e = omega arith

pub total_more : (rs : List Route) (m s a : ℕ) → s ≡ entries_to m rs + tally 0 rs → a ≡ distinct (entries (m + 1) rs)
    → s + a ≡ entries_to (m + 1) rs + tally 0 rs
unfolding entries_to
total_more rs m s a e q = rw (add-one m) (omega (arith, e, rw (add-one m) at q))

pub total_all : (rs : List Route) (m s : ℕ) → routes.IsList 32 rs → m ≤ 32 → 32 ≤ m → s ≡ entries_to m rs + tally 0 rs
    → s ≡ length rs + markers rs
total_all rs m s l u v e =
    let q : m ≡ 32 = omega arith in
    (rw q at e) ∙ entries_all rs l.sorted (wfs 32 rs l.routes)
