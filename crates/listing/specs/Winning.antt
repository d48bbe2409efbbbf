-- The winners of a list's records: the records of a prefix are neighbours, so the lowest of them is found from the last one back,
-- and the prefixes are as many as records that are the last of theirs. Assumes nothing.
--
--     10/8 feed 1 ── 10/8 feed 2 ── 10/8 feed 4 ── 11/8 feed 2
--         the last of 10/8: ─────────────┘  back from there, what leads wins
use Rattle.std.specs.Prelude.{◌≡◌, refl, ◌≢◌, Bool, true, false, List, [], ◌∷◌, length}
use Rattle.std.proofs.Common.{sym, ap, ◌∙◌, le_refl, add-one, eq-eqb, lt-ltb, le-ltb}
use Rattle.std.proofs.Math.Option.{none, some}
use Prim.Native.Nat.{ℕ, zero, suc, ◌+◌, ◌-◌, ◌*◌, ◌≤◌, ◌<◌}
use native.Mathlib.Omega.{arith}
use Rattle.logic.specs.Cases.{same, less, tri}
use Rattle.routes.specs.Route.{Route, route, From, All, hop_at, insert}
use Rattle.routes.specs.Route as routes
use Rattle.laws.specs.Sorted.{hop_head, hop_skip, hop_below}
use Rattle.laws.specs.Sorted as sorted
use Rattle.candidates.specs.Keyed.{Ordered, Every}
use Rattle.candidates.specs.Candidate.{Candidate, prefix_key, key, hop_of, IsList}
use Rattle.candidates.specs.Winners.{rank, best, winning, winners}
use Rattle.rivals.specs.Won.{Good, are_good, head_pos, best_skip, winners_hop, winners_from, winners_good}
use Rattle.listing.specs.Listed.{records_in, candidate_at, candidates_from, candidates_in, list_of}
use Rattle.listing.specs.Records.{tail_step, tail_end, tail_list, candidate_of_fact, next_of}

-- the hop that wins for record i's prefix
abbrev pub winning_at : List ℕ → ℕ → ℕ
winning_at bs i = winning (candidates_in bs) (prefix_key (candidate_at bs i))

-- ---- what the code promises

-- whether record i is the last of its prefix
pub record IsLast (bs : List ℕ) (i : ℕ) (r : Bool) : Type 0 where
  pub yes : r ≡ true → i + 1 < records_in bs → prefix_key (candidate_at bs (i + 1)) ≢ prefix_key (candidate_at bs i)
  pub no : r ≡ false → (i + 1 < records_in bs) × (prefix_key (candidate_at bs (i + 1)) ≡ prefix_key (candidate_at bs i))

-- record j is the last of record i's prefix
pub record LastOf (bs : List ℕ) (i j : ℕ) : Type 0 where
  pub within : j < records_in bs
  pub same : prefix_key (candidate_at bs j) ≡ prefix_key (candidate_at bs i)
  pub last : IsLast bs j true

-- of the candidates of a prefix the one of rank r, with hop h, leads
pub record Leads (cs : List Candidate) (k r h : ℕ) : Type 0 where
  pub who : Candidate
  pub is : best cs k ≡ some who
  pub rank : r ≡ rank who
  pub hop : h ≡ who.hop

-- ---- records of other prefixes

-- candidates that come after a prefix are not its
best-above : (k lo : ℕ) (cs : List Candidate) → Ordered key lo cs → Every Good cs → 8 * (k + 1) ≤ lo → best cs k ≡ none
best-above k lo [] f g h = refl
best-above k lo (c ∷ cs) f g h =
    best_skip c cs k (λ e. omega (arith, f.0, g.0.few))
    ∙ best-above k (suc (key c)) cs f.1 g.1 (omega (arith, f.0))

module _ (bs : List ℕ) (l : IsList 32 (candidates_in bs)) where
  abbrev tail : ℕ → List Candidate
  tail i = candidates_from bs (records_in bs - i) i

  good_tail : (i : ℕ) → i ≤ records_in bs → Every Good (tail i)
  good_tail i h = are_good 32 (omega arith) (tail i) (tail_list bs (records_in bs) i h l)

  step : (i j : ℕ) → j + 1 ≡ i → i ≤ records_in bs → tail j ≡ candidate_at bs j ∷ tail i
  step i j e h = tail_step bs (records_in bs) i j e h

  feed-low : (i : ℕ) → i < records_in bs → (candidate_at bs i).feed < 8
  feed-low i h = omega (arith, (candidate_of_fact bs l i h).high)

  -- after the last of its prefix
  ahead : (i j : ℕ) → j + 1 ≡ i → j < records_in bs → IsLast bs j true → best (tail i) (prefix_key (candidate_at bs j)) ≡ none
  ahead i j e h last =
      less i (records_in bs)
      (λ q _. (let n : prefix_key (candidate_at bs i) ≢ prefix_key (candidate_at bs j) = rw e at (last.yes refl (omega arith)) in
      let k : key (candidate_at bs j) < key (candidate_at bs i) = rw e at (next_of bs j l (omega arith)) in
      let s = step (i + 1) i refl (omega arith) in
      let o : Ordered key 0 (candidate_at bs i ∷ tail (i + 1)) =
      rw s at (tail_list bs (records_in bs) i (omega arith) l).sorted in
      let g : Every Good (candidate_at bs i ∷ tail (i + 1)) = rw s at (good_tail i (omega arith)) in
      rw s (best-above (prefix_key (candidate_at bs j)) (key (candidate_at bs i)) (candidate_at bs i ∷ tail (i + 1))
      (le_refl _, o.1) g (above j i n k (feed-low i q)))))
      (λ q _. (let z : i ≡ records_in bs = omega arith in
      rw (z, tail_end bs (records_in bs))))
    where
      above : (j i : ℕ) → prefix_key (candidate_at bs i) ≢ prefix_key (candidate_at bs j)
          → key (candidate_at bs j) < key (candidate_at bs i) → (candidate_at bs i).feed < 8
          → 8 * (prefix_key (candidate_at bs j) + 1) ≤ key (candidate_at bs i)
      above j i n k f = omega arith

  keys_rise : (x d : ℕ) → x + d < records_in bs → key (candidate_at bs x) ≤ key (candidate_at bs (x + d))
  keys_rise x zero h = let e : x + 0 ≡ x = omega arith in rw e (le_refl _)
  keys_rise x (suc d) h =
      let e : x + suc d ≡ x + d + 1 = omega arith in
      rw e (omega (arith, keys_rise x d (omega arith), next_of bs (x + d) l (omega arith)))

  -- records before that are of other prefixes
  behind : (j k : ℕ) → j ≤ records_in bs → ((x : ℕ) → x < j → prefix_key (candidate_at bs x) ≢ k)
      → best (candidates_in bs) k ≡ best (tail j) k
  behind zero k h n = let z : records_in bs - 0 ≡ records_in bs = omega arith in rw z
  behind (suc j) k h n =
      behind j k (omega arith) (λ x q. n x (omega arith))
      ∙ rw (step (suc j) j (add-one j) h) (best_skip (candidate_at bs j) (tail (suc j)) k (n j (omega arith)))

  -- before the first record's prefix
  pub winning-before : (k : ℕ) → 0 < records_in bs → k < prefix_key (candidate_at bs 0) → winning (candidates_in bs) k ≡ 0
  winning-before k h q =
      let s = step 1 0 refl (omega arith) in
      let o : Ordered key 0 (candidate_at bs 0 ∷ tail 1) = rw s at (tail_list bs (records_in bs) 0 (omega arith) l).sorted in
      let g : Every Good (candidate_at bs 0 ∷ tail 1) = rw s at (good_tail 0 (omega arith)) in
      let n = best-above k (key (candidate_at bs 0)) (candidate_at bs 0 ∷ tail 1) (le_refl _, o.1) g (omega arith) in
      let b : best (candidates_in bs) k ≡ none = behind 0 k (omega arith) (λ x q. absurd (omega arith)) ∙ rw s n in
      ap hop_of b

  -- a record's prefix has a winner
  pub record_won : (i : ℕ) → i < records_in bs → 0 < winning_at bs i
  unfolding candidates_from
  record_won i h = let e : 0 + i ≡ i = omega arith in
      rw e at (won (records_in bs) 0 i (are_good 32 (omega arith) (candidates_in bs) l) h)
    where
      won : (n i k : ℕ) → Every Good (candidates_from bs n i) → k < n
          → 0 < winning (candidates_from bs n i) (prefix_key (candidate_at bs (i + k)))
      won zero i k g h = absurd (omega arith)
      won (suc n) i zero g h = let e : i + 0 ≡ i = omega arith in
          rw e (head_pos (candidate_at bs i) (candidates_from bs n (suc i)) g)
      won (suc n) i (suc k) g h =
          let e : suc i + k ≡ i + suc k = omega arith in
          same (prefix_key (candidate_at bs i)) (prefix_key (candidate_at bs (i + suc k)))
          (λ q _. rw (← q) (head_pos (candidate_at bs i) (candidates_from bs n (suc i)) g))
          (λ q t. rw t (rw e at (won n (suc i) k g.1 (omega arith))))

  -- ---- which candidate leads, from a record on

  module _ (i j : ℕ) (e : j + 1 ≡ i) (h : j < records_in bs) where
    abbrev c : Candidate
    c = candidate_at bs j

    -- the last of a prefix
    pub leads_last : (k r h : ℕ) → prefix_key (candidate_at bs j) ≡ k → IsLast bs j true → r ≡ rank (candidate_at bs j)
        → h ≡ (candidate_at bs j).hop → Leads (candidates_from bs (records_in bs - j) j) k r h
    leads_last k r h' q last er eh = rw (step i j e (omega arith)) (record {
      who = c;
      is = rw (← q, eq-eqb (prefix_key c) (prefix_key c) refl, ahead i j e h last);
      rank = er;
      hop = eh;
    })

    module _ (k r g : ℕ) (q : prefix_key (candidate_at bs j) ≡ k) (s : Leads (candidates_from bs (records_in bs - i) i) k r g)
        (x : ℕ) (ex : x ≡ rank (candidate_at bs j)) where
      -- one of lower rank takes the lead, one of higher rank does not
      pub leads-take : (h : ℕ) → h ≡ (candidate_at bs j).hop → x ≤ r → Leads (candidates_from bs (records_in bs - j) j) k x h
      leads-take h' eh w = rw (step i j e (omega arith)) (record {
        who = c;
        is = rw (eq-eqb (prefix_key c) k q, s.is, le-ltb (rank s.who) (rank c) (omega (arith, s.rank)));
        rank = ex;
        hop = eh;
      })

      pub leads_keep : r < x → Leads (candidates_from bs (records_in bs - j) j) k r g
      leads_keep w = rw (step i j e (omega arith)) (record {
        who = s.who;
        is = rw (eq-eqb (prefix_key c) k q, s.is, lt-ltb (rank s.who) (rank c) (omega (arith, s.rank)));
        rank = s.rank;
        hop = s.hop;
      })

  -- the one that leads wins where no record before is of its prefix
  pub leads-wins : (j k r h : ℕ) → j < records_in bs → prefix_key (candidate_at bs j) ≡ k
      → (1 ≤ j → IsLast bs (j - 1) true) → Leads (candidates_from bs (records_in bs - j) j) k r h
      → h ≡ winning (candidates_in bs) k
  leads-wins j k r h q e last s = s.hop ∙ sym (ap hop_of (behind j k (omega arith) other ∙ s.is))
    where
      apart : (a b : ℕ) → key (candidate_at bs a) ≤ key (candidate_at bs b) → key (candidate_at bs b) < key (candidate_at bs j)
          → prefix_key (candidate_at bs j) ≢ prefix_key (candidate_at bs b) → (candidate_at bs b).feed < 8
          → (candidate_at bs j).feed < 8
          → prefix_key (candidate_at bs a) < prefix_key (candidate_at bs j)
      apart a b x y n f g = omega arith

      other : (x : ℕ) → x < j → prefix_key (candidate_at bs x) ≢ k
      other x h z =
          let a : j - 1 + 1 ≡ j = omega arith in
          let b : x + (j - 1 - x) ≡ j - 1 = omega arith in
          let n = rw a at ((last (omega arith)).yes refl (omega arith)) in
          let y = rw a at (next_of bs (j - 1) l (omega arith)) in
          let w = rw b at (keys_rise x (j - 1 - x) (omega arith)) in
          omega (arith, apart x (j - 1) w y n (feed-low (j - 1) (omega arith)) (feed-low j q), e, z)

-- ---- how many routes

insert_more : (r : Route) (rs : List Route) → All sorted.Good rs → hop_at rs (routes.key r) ≡ 0
    → length (insert r rs) ≡ suc (length rs)
insert_more r [] p e = refl
insert_more r (s ∷ rs) p e =
    tri (routes.key r) (routes.key s)
    (λ h t. rw t)
    (λ q t d. absurd (omega (arith, p.0.pos, sym (hop_head s rs (routes.key r) (sym q)) ∙ e)))
    (λ h t d. rw (t, d) (ap suc (insert_more r rs p.1 (sym (hop_skip s rs (routes.key r) (λ z. omega arith)) ∙ e))))

insert-again : (lo : ℕ) (r : Route) (rs : List Route) → From lo rs → 0 < hop_at rs (routes.key r)
    → length (insert r rs) ≡ length rs
insert-again lo r [] f h = absurd (omega arith)
insert-again lo r (s ∷ rs) f h =
    tri (routes.key r) (routes.key s)
    (λ q t. absurd (omega (arith, hop_below (routes.key s) (routes.key r) (s ∷ rs) (le_refl _, f.1) q)))
    (λ q t d. rw (t, d))
    (λ q t d. rw (t, d) (ap suc (insert-again (suc (routes.key s)) r rs f.1
    (rw (hop_skip s rs (routes.key r) (λ z. omega arith)) at h))))

module _ (bs : List ℕ) (l : IsList 32 (candidates_in bs)) (i j : ℕ) (e : j + 1 ≡ i) (h : j < records_in bs) where
  abbrev won : Route
  won = route (candidate_at bs j).addr (candidate_at bs j).len
      (winning (candidate_at bs j ∷ tail bs l i) (prefix_key (candidate_at bs j)))

  -- the last record of a prefix adds a route, another one does not
  pub routes_more : IsLast bs j true → length (winners (candidates_from bs (records_in bs - j) j))
      ≡ length (winners (candidates_from bs (records_in bs - i) i)) + 1
  routes_more last =
      let z : hop_at (winners (tail bs l i)) (prefix_key (candidate_at bs j)) ≡ 0 =
      winners_hop (tail bs l i) (prefix_key (candidate_at bs j)) ∙ ap hop_of (ahead bs l i j e h last) in
      rw (step bs l i j e (omega arith), add-one (length (winners (tail bs l i))))
      (insert_more won (winners (tail bs l i)) (winners_good (tail bs l i) (good_tail bs l i (omega arith))) z)

  pub routes_same : IsLast bs j false → length (winners (candidates_from bs (records_in bs - j) j))
      ≡ length (winners (candidates_from bs (records_in bs - i) i))
  routes_same last =
      let q : prefix_key (candidate_at bs i) ≡ prefix_key (candidate_at bs j) = rw e at (last.no refl).1 in
      let k : i < records_in bs = rw e at (last.no refl).0 in
      let s = step bs l (i + 1) i refl (omega arith) in
      let p : 0 < winning (tail bs l i) (prefix_key (candidate_at bs j)) =
      rw (s, ← q) (head_pos (candidate_at bs i) (tail bs l (i + 1)) (rw s at (good_tail bs l i (omega arith)))) in
      rw (step bs l i j e (omega arith))
      (insert-again 0 won (winners (tail bs l i)) (winners_from (tail bs l i))
      (rw (winners_hop (tail bs l i) (prefix_key (candidate_at bs j))) p))

pub routes_none : (bs : List ℕ) → length (winners (candidates_from bs (records_in bs - records_in bs) (records_in bs))) ≡ 0
routes_none bs = rw (tail_end bs (records_in bs))

pub routes_all : (bs : List ℕ) (i n : ℕ) → i ≤ 0 → n ≡ length (winners (candidates_from bs (records_in bs - i) i))
    → n ≡ length (list_of bs)
routes_all bs i n h e = let z : i ≡ 0 = omega arith in let y : records_in bs - 0 ≡ records_in bs = omega arith in rw (z, y) at e

-- ---- from one record of a prefix to the one before

pub same_before : (bs : List ℕ) (j k : ℕ) → 1 ≤ j → IsLast bs (j - 1) false → prefix_key (candidate_at bs j) ≡ k
    → prefix_key (candidate_at bs (j - 1)) ≡ k
same_before bs j k h last e = let z : j - 1 + 1 ≡ j = omega arith in sym (rw z at (last.no refl).1) ∙ e
