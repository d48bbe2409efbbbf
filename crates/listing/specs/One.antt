-- There is one proof that candidates are a list, so it may stand beside the bytes. Assumes nothing.
use Rattle.std.specs.Prelude.{◌≡◌, ℕ, suc, ◌-◌, ◌%◌, ◌^◌, List, [], ◌∷◌}
use Rattle.std.specs.Coded.{×_prop, Unit-prop, le_prop}
use Rattle.std.proofs.Props.{props}
use Rattle.routes.specs.Route.{Route, route, Wf, IsRoute}
use Rattle.candidates.specs.Keyed.{Ordered, Every}
use Rattle.candidates.specs.Candidate.{Candidate, key, IsCandidate, IsList}

same_prop : (a b : ℕ) → IsProp (a ≡ b)
same_prop a b = Prim.hlevel props

wf_prop : (r : Route) → IsProp (Wf 32 r)
wf_prop r x y = λ i. record {
  fits = le_prop x.fits y.fits i;
  inside = le_prop x.inside y.inside i;
  clean = same_prop (r.addr % 2 ^ (32 - r.len)) 0 x.clean y.clean i;
  some = le_prop x.some y.some i;
}

route_prop : (r : Route) → IsProp (IsRoute 32 r)
route_prop r x y = λ i. record { wf = wf_prop r x.wf y.wf i; low = le_prop x.low y.low i }

candidate_prop : (c : Candidate) → IsProp (IsCandidate 32 c)
candidate_prop c x y = λ i. record {
  route = route_prop (route c.addr c.len c.hop) x.route y.route i;
  low = le_prop x.low y.low i;
  high = le_prop x.high y.high i;
  byte = le_prop x.byte y.byte i;
}

ordered_prop : (lo : ℕ) (cs : List Candidate) → IsProp (Ordered key lo cs)
ordered_prop lo [] = Unit-prop
ordered_prop lo (c ∷ cs) = ×_prop le_prop (ordered_prop (suc (key c)) cs)

every_prop : (cs : List Candidate) → IsProp (Every (IsCandidate 32) cs)
every_prop [] = Unit-prop
every_prop (c ∷ cs) = ×_prop (candidate_prop c) (every_prop cs)

pub list_prop : (cs : List Candidate) → IsProp (IsList 32 cs)
list_prop cs x y = λ i. record {
  sorted = ordered_prop 0 cs x.sorted y.sorted i;
  candidates = every_prop cs x.candidates y.candidates i;
}
