-- The winners of a list of candidates: a route list of document 01, which changes at most at the prefix at which the candidates
-- change. Assumes nothing.
--
--     candidates   10/8 feed 1 via 5 ── 10/8 feed 2 via 6 ── 11/8 feed 2 via 7         put or cut at 10/8
--     winners      10/8 via 5 ───────────────────────────── 11/8 via 7                 changed at 10/8 alone: `settle`
use Rattle.std.specs.Prelude.{◌≡◌, refl, ◌≢◌, cond, List, [], ◌∷◌, ℕ, ◌+◌, ◌*◌, ◌≤◌, ◌<◌, ltb, eqb}
use Rattle.std.proofs.Common.{sym, ap, ◌∙◌, arith, ne_eqb}
use Rattle.std.proofs.Math.Option.{Option, none, some, none-ne-some}
use Rattle.routes.specs.Route.{Route, route, From, All, hop_at, insert, remove, IsRoute}
use Rattle.routes.specs.Route as routes
use Rattle.logic.specs.Cases.{bool, tri, same}
use Rattle.laws.specs.Sorted.{insert_from, remove_from, all_insert, all_remove, insert_same, insert_other, remove_same}
use Rattle.laws.specs.Sorted.{remove_other}
use Rattle.laws.specs.Sorted as sorted
use Rattle.candidates.specs.Keyed.{find, put, cut, Every}
use Rattle.candidates.specs.Candidate.{Candidate, prefix_key, place, key, hop_of, IsCandidate, IsList}
use Rattle.candidates.specs.Winners.{rank, or_lower, best, winning, winners}
use Rattle.rivals.specs.Maps.{every_map, every_put, find_skip, put_same}

-- a candidate that its key determines, up to preference and hop
pub record Good (c : Candidate) : Type 0 where
  pub pos : 0 < c.hop
  pub short : c.len < 256
  pub few : c.feed < 8

pub is_good : (W : ℕ) → W < 256 → (c : Candidate) → IsCandidate W c → Good c
is_good W w c p =
    record { pos = omega (arith, p.route.wf.some); short = omega (arith, p.route.wf.fits); few = omega (arith, p.high) }

pub are_good : (W : ℕ) → W < 256 → (cs : List Candidate) → IsList W cs → Every Good cs
are_good W w cs p = every_map (IsCandidate W) Good (is_good W w) cs p.candidates

-- ---- the winner of a prefix

-- of what is found, if anything; and something is found
abbrev pub Maybe : (Candidate → Type 0) → Option Candidate → Type 0
Maybe P none = Unit {0}
Maybe P (some c) = P c

abbrev pub Just : (Candidate → Type 0) → Option Candidate → Type 0
Just P none = ⊥
Just P (some c) = P c

maybe : (P : Candidate → Type 0) (o : Option Candidate) → Just P o → Maybe P o
maybe P none p = tt
maybe P (some c) p = p

lower_just : (P : Candidate → Type 0) (c : Candidate) (o : Option Candidate) → P c → Maybe P o → Just P (or_lower c o)
lower_just P c none p q = p
lower_just P c (some d) p q = bool (ltb (rank d) (rank c)) (λ e. rw e q) (λ e. rw e p)

pub best_maybe : (P : Candidate → Type 0) (cs : List Candidate) (k : ℕ) → Every P cs → Maybe P (best cs k)
best_maybe P [] k p = tt
best_maybe P (c ∷ cs) k p =
    same (prefix_key c) k
    (λ q e. rw e (maybe P (or_lower c (best cs k)) (lower_just P c (best cs k) p.0 (best_maybe P cs k p.1))))
    (λ n e. rw e (best_maybe P cs k p.1))

-- at the head, something is found
pub best_head : (P : Candidate → Type 0) (c : Candidate) (cs : List Candidate) (k : ℕ) → prefix_key c ≡ k → Every P (c ∷ cs)
    → Just P (best (c ∷ cs) k)
best_head P c cs k q p =
    same (prefix_key c) k (λ _ e. rw e (lower_just P c (best cs k) p.0 (best_maybe P cs k p.1))) (λ n e. absurd (n q))

pub best_skip : (c : Candidate) (cs : List Candidate) (k : ℕ) → prefix_key c ≢ k → best (c ∷ cs) k ≡ best cs k
best_skip c cs k n = rw (ne_eqb (prefix_key c) k n)

just_pos : (o : Option Candidate) → Just Good o → 0 < hop_of o
just_pos none p = absurd p
just_pos (some c) p = p.pos

pub head_pos : (c : Candidate) (cs : List Candidate) → Every Good (c ∷ cs) → 0 < winning (c ∷ cs) (prefix_key c)
head_pos c cs p = just_pos (best (c ∷ cs) (prefix_key c)) (best_head Good c cs (prefix_key c) refl p)

-- a prefix that has a candidate has a winner
pub found_won : (cs : List Candidate) (a l f : ℕ) (c : Candidate) → f < 8 → Every Good cs → find key cs (place a l f) ≡ some c
    → 0 < winning cs (a * 256 + l)
found_won [] a l f c h p e = absurd (none-ne-some c e)
found_won (d ∷ ds) a l f c h p e =
    same (prefix_key d) (a * 256 + l)
    (λ q _. just_pos (best (d ∷ ds) (a * 256 + l)) (best_head Good d ds (a * 256 + l) q p))
    (λ n t. rw t (found_won ds a l f c h p.1 (sym (find_skip key d ds (place a l f) (λ z. n (omega (arith, p.0.few)))) ∙ e)))

-- a change of a candidate leaves the other prefixes' winners
pub put-best : (c : Candidate) (cs : List Candidate) (k : ℕ) → Good c → Every Good cs → prefix_key c ≢ k
    → best (put key c cs) k ≡ best cs k
put-best c [] k g p n = best_skip c [] k n
put-best c (d ∷ ds) k g p n =
    tri (key c) (key d)
    (λ l e. rw e (best_skip c (d ∷ ds) k n))
    (λ q e t. rw (e, t) (best_skip c ds k n ∙ sym (best_skip d ds k (λ z. n (omega (arith, g.few, p.0.few))))))
    (λ l e t. rw (e, t, put-best c ds k g p.1 n))

pub cut_best : (a l f : ℕ) (cs : List Candidate) (k : ℕ) → f < 8 → Every Good cs → a * 256 + l ≢ k
    → best (cut key (place a l f) cs) k ≡ best cs k
cut_best a l f [] k h p n = refl
cut_best a l f (d ∷ ds) k h p n =
    same (key d) (place a l f)
    (λ q e. rw e (sym (best_skip d ds k (λ z. n (omega (arith, p.0.few))))))
    (λ m e. rw (e, cut_best a l f ds k h p.1 n))

-- ---- the list of the winners

pub winners_hop : (cs : List Candidate) (k : ℕ) → hop_at (winners cs) k ≡ winning cs k
winners_hop [] k = refl
winners_hop (c ∷ cs) k =
    same (prefix_key c) k
    (λ q _. rw (← q) (insert_same (route c.addr c.len (winning (c ∷ cs) (prefix_key c))) (winners cs)))
    (λ n _.
    insert_other (route c.addr c.len (winning (c ∷ cs) (prefix_key c))) (winners cs) k n
    ∙ winners_hop cs k
    ∙ sym (ap hop_of (best_skip c cs k n)))

pub winners_from : (cs : List Candidate) → From 0 (winners cs)
winners_from [] = tt
winners_from (c ∷ cs) =
    insert_from 0 (route c.addr c.len (winning (c ∷ cs) (prefix_key c))) (winners cs) (omega arith) (winners_from cs)

pub winners_good : (cs : List Candidate) → Every Good cs → All sorted.Good (winners cs)
winners_good [] p = tt
winners_good (c ∷ cs) p =
    all_insert sorted.Good (route c.addr c.len (winning (c ∷ cs) (prefix_key c))) (winners cs)
    (record { pos = head_pos c cs p; short = p.0.short })
    (winners_good cs p.1)

-- a route list of document 01
pub winners_list : (W : ℕ) (cs : List Candidate) → IsList W cs → routes.IsList W (winners cs)
winners_list W cs p = record { sorted = winners_from cs; routes = each cs p.candidates }
  where
    hop : (o : Option Candidate) → Just (IsCandidate W) o → (1 ≤ hop_of o) × (hop_of o ≤ 65535)
    hop none q = absurd q
    hop (some c) q = (q.route.wf.some, q.route.low)

    each : (cs : List Candidate) → Every (IsCandidate W) cs → All (IsRoute W) (winners cs)
    each [] q = tt
    each (c ∷ cs) q =
        let w = q.0.route.wf in
        let h = hop (best (c ∷ cs) (prefix_key c)) (best_head (IsCandidate W) c cs (prefix_key c) refl q) in
        all_insert (IsRoute W) (route c.addr c.len (winning (c ∷ cs) (prefix_key c))) (winners cs)
        (record { wf = record { fits = w.fits; inside = w.inside; clean = w.clean; some = h.0 }; low = h.1 })
        (each cs q.1)

-- ---- the winners after a change at one prefix

-- a route list whose hop at a prefix is to be h, or none for 0
abbrev pub settle : ℕ → ℕ → ℕ → List Route → List Route
settle a l h rs = cond (eqb h 0) (remove (a * 256 + l) rs) (insert (route a l h) rs)

-- where the prefix has a winner, its route is inserted
winners-inserted : (cs ds : List Candidate) (a l : ℕ) → l < 256 → Every Good cs → Every Good ds
    → ((k : ℕ) → a * 256 + l ≢ k → winning ds k ≡ winning cs k)
    → 0 < winning ds (a * 256 + l)
    → winners ds ≡ insert (route a l (winning ds (a * 256 + l))) (winners cs)
winners-inserted cs ds a l s p q off z =
    sorted.ext 0 (winners ds) (insert r (winners cs))
    (winners_from ds) (insert_from 0 r (winners cs) (omega arith) (winners_from cs))
    (winners_good ds q) (all_insert sorted.Good r (winners cs) (record { pos = z; short = s }) (winners_good cs p))
    (λ k.
    same K k
    (λ t _. rw (← t) (winners_hop ds K ∙ sym (insert_same r (winners cs))))
    (λ n _. winners_hop ds k ∙ off k n ∙ sym (winners_hop cs k) ∙ sym (insert_other r (winners cs) k n)))
  where
    K : ℕ
    K = a * 256 + l

    r : Route
    r = route a l (winning ds (a * 256 + l))

pub winners-settle : (cs ds : List Candidate) (a l : ℕ) → l < 256 → Every Good cs → Every Good ds
    → ((k : ℕ) → a * 256 + l ≢ k → winning ds k ≡ winning cs k)
    → winners ds ≡ settle a l (winning ds (a * 256 + l)) (winners cs)
winners-settle cs ds a l s p q off =
    same (winning ds K) 0
    (λ z e. rw e (sorted.ext 0 (winners ds) (remove K (winners cs))
    (winners_from ds) (remove_from 0 K (winners cs) (winners_from cs))
    (winners_good ds q) (all_remove sorted.Good K (winners cs) (winners_good cs p)) (λ k.
    same K k
    (λ t _. rw (← t) (winners_hop ds K ∙ z ∙ sym (remove_same 0 K (winners cs) (winners_from cs))))
    (λ n _. winners_hop ds k ∙ off k n ∙ sym (winners_hop cs k)
    ∙ sym (remove_other K k (winners cs) (λ u. n (sym u)))))))
    (λ z e. rw e (winners-inserted cs ds a l s p q off (omega arith)))
  where
    K : ℕ
    K = a * 256 + l

module _ (c : Candidate) (cs : List Candidate) (g : Good c) (p : Every Good cs) where
  pub put_won : 0 < winning (put key c cs) (prefix_key c)
  put_won = found_won (put key c cs) c.addr c.len c.feed c g.few (every_put key Good c cs g p) (put_same key c cs)

  -- a candidate put: its prefix's route is inserted, with the hop that wins then
  pub winners-put : winners (put key c cs) ≡ insert (route c.addr c.len (winning (put key c cs) (prefix_key c))) (winners cs)
  winners-put =
      winners-inserted cs (put key c cs) c.addr c.len g.short p (every_put key Good c cs g p)
      (λ k n. ap hop_of (put-best c cs k g p n)) put_won
