-- The best match of an entry: a route's own, or what the shorter tables say of a marker. Assumes nothing.
use Rattle.std.specs.Prelude.{◌≡◌, true, cond, List, length, get_or, eqb}
use Rattle.std.proofs.Math.Path.{sym}
use Rattle.std.proofs.Common.{ap, ◌∙◌, true≢false, arith, shr-shr, le-leb}
use Rattle.std.proofs.Math.Bool.{false}
use Prim.Native.Nat.{ℕ, zero, suc, ◌+◌, ◌-◌, ◌*◌, ◌/◌, ◌^◌, ◌≤◌, ◌<◌}
use Rattle.std.proofs.Math.Nat.{div-eq_of_lt}
use Rattle.routes.specs.Route.{Route, route, hop_at}
use Rattle.routes.specs.Room.{mem}
use Rattle.logic.specs.Cases.{bool, same}
use Rattle.laws.specs.Longest.{Wfs, last_found, last_past}
use Rattle.lengths.specs.Way.{miss, hit, turns_at, code, best}
use Rattle.listing.specs.Heads.{picks}
use Rattle.lengths.specs.Marks.{held_at, entries, best_at}
use Rattle.logic.specs.Bools.{or_left}
use Rattle.lengths.specs.Entries.{own, own_held, key-own, mem_either}
use Rattle.lengths.specs.Held.{best_same}
use Rattle.candidates.specs.Candidate.{Candidate, prefix_key, IsList}
use Rattle.rivals.specs.Won.{winners_hop}
use Rattle.listing.specs.Listed.{records_in, candidate_at, candidates_in, list_of}
use Rattle.listing.specs.Records.{candidate_of_fact}
use Rattle.listing.specs.Winning.{winning_at, winning-before, record_won}
use Rattle.lengths.specs.Layout.{begin_of, size_of, look}
use Rattle.lengths_build.specs.Filling.{Standing, below}

-- ---- a route's best match is its own

module _ (bs : List ℕ) (l : IsList 32 (candidates_in bs)) (i : ℕ) (h : i < records_in bs) where
  abbrev c : Candidate
  c = candidate_at bs i

  pub best-own : (m v : ℕ) → m ≤ 32 → (candidate_at bs i).len ≡ m → v ≡ (candidate_at bs i).addr / 2 ^ (32 - m)
      → winning_at bs i * 256 + m ≡ best_at (list_of bs) m v
  best-own m v k e q =
      let r = (candidate_of_fact bs l i h).route in
      let z : m - m ≡ 0 = omega arith in
      let y : v / 2 ^ 0 ≡ v = omega arith in
      let g : held_at (list_of bs) m (v / 2 ^ (m - m)) ≡ winning_at bs i =
      rw (z, y, q, key-own m (route c.addr c.len c.hop) r.wf e) (winners_hop (candidates_in bs) (prefix_key c)) in
      sym (ap code (last_found (λ x. held_at (list_of bs) x (v / 2 ^ (m - x))) m (winning_at bs i) m g (record_won bs l i h)
      (omega arith) (λ x a b. absurd (omega arith))))

-- ---- the default route: its records are the first ones

module _ (bs : List ℕ) (l : IsList 32 (candidates_in bs)) (h : 0 < records_in bs) where
  pub default_unheld : 1 ≤ (candidate_at bs 0).len → hop_at (list_of bs) 0 ≡ 0
  default_unheld e = winners_hop (candidates_in bs) 0 ∙ winning-before bs l 0 h (omega arith)

  pub default_hop : (candidate_at bs 0).len ≡ 0 → hop_at (list_of bs) 0 ≡ winning_at bs 0
  default_hop e =
      let w = (candidate_of_fact bs l 0 h).route.wf in
      let z : prefix_key (candidate_at bs 0) ≡ 0 = omega (arith, w.inside, rw e at w.clean) in
      winners_hop (candidates_in bs) 0 ∙ rw z

-- ---- a marker's best match

-- no entry, so no route
pub own_entered : (rs : List Route) (m x : ℕ) → mem x (own m rs) ≡ true → mem x (entries m rs) ≡ true
own_entered rs m x e = mem_either (λ l. eqb l m) (turns_at m) m x rs
    ∙ or_left (mem x (own m rs)) (mem x (picks (turns_at m) m rs)) e

pub unentered : (rs : List Route) (m x : ℕ) → m ≤ 32 → Wfs 32 rs → mem x (own m rs) ≡ false → held_at rs m x ≡ 0
unentered rs m x h w e = same (held_at rs m x) 0 (λ q _. q) (λ q d. absurd (true≢false (sym (own_held m x rs h w ∙ rw d) ∙ e)))

module _ (rs : List Route) (w : Wfs 32 rs) (ws : List ℕ) (o m v : ℕ) (long : o ≤ length ws) (k : m ≤ 32) (b : Standing rs ws o m)
    (low : v < 2 ^ m) where
  abbrev G : ℕ → ℕ
  G l = held_at rs l (v / 2 ^ (m - l))

  part : (l j : ℕ) → j ≤ l → l ≤ m → v / 2 ^ (m - l) / 2 ^ (l - j) ≡ v / 2 ^ (m - j)
  part l j h q = let e : (m - l) + (l - j) ≡ m - j = omega arith in rw (← e) (shr-shr v (m - l) (l - j))

  best-part : (l : ℕ) → l ≤ m → best_at rs l (v / 2 ^ (m - l)) ≡ best G l
  best-part l h = best_same (λ j. held_at rs j (v / 2 ^ (m - l) / 2 ^ (l - j))) G l (λ j q. ap (held_at rs j) (part l j q h))

  look_at : (l x : ℕ) → 1 ≤ l → l < m → look ws l x ≡ cond (mem x (entries l rs)) (hit (best_at rs l x)) miss
  unfolding look
  look_at l x h q =
      let t = b.tables l h q in
      rw (le-leb (begin_of ws l + 8 * size_of ws l) (length ws) (omega (arith, t.ends))) (t.finds x)

  below_none : get_or ws 0 0 ≡ best G 0
  below_none =
      let z : v / 2 ^ m ≡ 0 = div-eq_of_lt low in
      let e : m - 0 ≡ m = omega arith in
      b.default ∙ best_same (λ j. held_at rs j (0 / 2 ^ (0 - j))) G 0 (λ j h. (let q : j ≡ 0 = omega arith in rw (q, e, z)))

  -- a length without an entry adds nothing
  best_skip : (l : ℕ) → held_at rs (suc l) (v / 2 ^ (m - suc l)) ≡ 0 → best G (suc l) ≡ best G l
  best_skip l e = ap code (last_past G l (suc l) (omega arith) (λ j h q. (let z : j ≡ suc l = omega arith in rw z e)))

  below-best : (l : ℕ) → l < m → below ws m v l ≡ best G l
  unfolding below
  below-best zero h = below_none
  below-best (suc l) h =
      bool (mem (v / 2 ^ (m - suc l)) (entries (suc l) rs))
      (λ e. rw (look_at (suc l) (v / 2 ^ (m - suc l)) (omega arith) h, e) (best-part (suc l) (omega arith)))
      (λ e. rw (look_at (suc l) (v / 2 ^ (m - suc l)) (omega arith) h, e)
      (below-best l (omega arith) ∙ sym
      (best_skip l (unentered rs (suc l) (v / 2 ^ (m - suc l)) (omega arith) w
      (outside-own (suc l) (v / 2 ^ (m - suc l)) e)))))
    where
      outside-own : (l x : ℕ) → mem x (entries l rs) ≡ false → mem x (own l rs) ≡ false
      outside-own l x e = bool (mem x (own l rs)) (λ q. absurd (true≢false (sym (own_entered rs l x q) ∙ e))) (λ q. q)

  -- a marker that is no route has the best match of the shorter lengths
  pub best_marker : 1 ≤ m → held_at rs m v ≡ 0 → below ws m v (m - 1) ≡ best_at rs m v
  best_marker h e =
      let s : m ≡ suc (m - 1) = omega arith in
      let z : m - m ≡ 0 = omega arith in
      let y : v / 2 ^ 0 ≡ v = omega arith in
      below-best (m - 1) (omega arith)
      ∙ sym (ap code (last_past G (m - 1) m (omega arith) (λ j p q. (let t : j ≡ m = omega arith in rw (t, z, y) e))))
