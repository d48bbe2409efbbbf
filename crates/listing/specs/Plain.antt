-- Candidates of feed 1 and preference 0, as records of kind 1 mean them: they are one for each prefix, so their winners are their
-- routes. Assumes nothing.
use Rattle.std.specs.Prelude.{◌≡◌, refl, Bool, true, false, List, [], ◌∷◌, ℕ, suc, ◌+◌, ◌*◌, ◌≤◌}
use Rattle.std.proofs.Common.{ap, ◌∙◌, arith, eq-eqb, lt-ltb}
use Rattle.std.proofs.Math.Option.{none}
use Rattle.routes.specs.Route.{Route, route, From, All, insert, IsRoute}
use Rattle.routes.specs.Route as routes
use Rattle.candidates.specs.Keyed.{Ordered, Every}
use Rattle.candidates.specs.Candidate.{Candidate, candidate, prefix_key, key, IsCandidate, IsList}
use Rattle.candidates.specs.Winners.{best, winning, winners}
use Rattle.rivals.specs.Won.{best_skip}

-- what records of a kind can say: those of kind 4 all, those of kind 1 no feed and no preference
abbrev pub OfKind : Bool → Candidate → Type 0
OfKind true c = Unit {0}
OfKind false c = (c.feed ≡ 1) × (c.pref ≡ 0)

-- the routes of candidates, and candidates of routes
abbrev pub routes_of : List Candidate → List Route
routes_of [] = []
routes_of (c ∷ cs) = route c.addr c.len c.hop ∷ routes_of cs

abbrev pub plain : List Route → List Candidate
plain [] = []
plain (r ∷ rs) = candidate r.addr r.len 1 0 r.hop ∷ plain rs

pub plain-kind : (rs : List Route) → Every (OfKind false) (plain rs)
plain-kind [] = tt
plain-kind (r ∷ rs) = ((refl, refl), plain-kind rs)

pub plain-routes : (rs : List Route) → routes_of (plain rs) ≡ rs
plain-routes [] = refl
plain-routes (r ∷ rs) = ap (◌∷◌ r) (plain-routes rs)

pub plain_list : (rs : List Route) → routes.IsList 32 rs → IsList 32 (plain rs)
plain_list rs l = record { sorted = ordered 0 0 rs (omega arith) l.sorted; candidates = each rs l.routes }
  where
    ordered : (lo k : ℕ) (rs : List Route) → k ≤ lo * 8 + 1 → From lo rs → Ordered key k (plain rs)
    ordered lo k [] h f = tt
    ordered lo k (r ∷ rs) h f = (omega (arith, f.0), ordered (suc (routes.key r)) _ rs (omega arith) f.1)

    each : (rs : List Route) → All (IsRoute 32) rs → Every (IsCandidate 32) (plain rs)
    each [] p = tt
    each (r ∷ rs) p = (record { route = p.0; low = omega arith; high = omega arith; byte = omega arith }, each rs p.1)

-- ---- the winners of plain candidates

best-after : (k lo : ℕ) (cs : List Candidate) → Ordered key lo cs → Every (OfKind false) cs → 8 * k + 2 ≤ lo → best cs k ≡ none
best-after k lo [] f p h = refl
best-after k lo (c ∷ cs) f p h =
    best_skip c cs k (λ e. omega (arith, f.0, p.0.0)) ∙ best-after k (suc (key c)) cs f.1 p.1 (omega (arith, f.0))

insert_first : (c : Candidate) (cs : List Candidate) (h : ℕ) → Ordered key (suc (key c)) cs → Every (OfKind false) (c ∷ cs)
    → insert (route c.addr c.len h) (routes_of cs) ≡ route c.addr c.len h ∷ routes_of cs
insert_first c [] h f p = refl
insert_first c (d ∷ ds) h f p =
    rw (lt-ltb (prefix_key c) (prefix_key d) (omega (arith, f.0, p.0.0, p.1.0.0)))

pub winners-plain : (lo : ℕ) (cs : List Candidate) → Ordered key lo cs → Every (OfKind false) cs → winners cs ≡ routes_of cs
winners-plain lo [] f p = refl
winners-plain lo (c ∷ cs) f p =
    let h : winning (c ∷ cs) (prefix_key c) ≡ c.hop =
    rw (
      eq-eqb (prefix_key c) (prefix_key c) refl,
      best-after (prefix_key c) (suc (key c)) cs f.1 p.1 (omega (arith, p.0.0)),
    ) refl in
    rw (h, winners-plain (suc (key c)) cs f.1 p.1) (insert_first c cs c.hop f.1 p)
