-- The list that is chosen is one of document 01, and no list that gives every address its hop is shorter than its cost. Assumes
-- nothing.
use Rattle.std.specs.Prelude.{◌≡◌, refl, Bool, true, ◌&&◌, List, [], ◌∷◌, ◌++◌, ℕ, zero, suc, ◌+◌, ◌-◌, ◌*◌, ◌/◌, ◌^◌, ◌≤◌, ◌<◌}
use Rattle.std.specs.Prelude.{leb, eqb}
use Rattle.std.proofs.Math.Path.{sym, ap}
use Rattle.std.proofs.Common.{◌∙◌, arith, leb-true, le-leb}
use Rattle.std.proofs.Math.Bool.{false, and_assoc, and-true}
use Rattle.std.proofs.Math.Nat.{div-eq_of_lt}
use Rattle.std.proofs.lemmas.Nat.{trailing_le}
use Rattle.std.proofs.Math.ListN.{length}
use Rattle.logic.specs.Bools.{and_to}
use Rattle.logic.specs.Cases.{bool, less}
use Rattle.laws.specs.Sorted.{all_append}
use Rattle.routes.specs.Collect.{own, collect, routes}
use Rattle.laws.specs.Collect.{routes_from}
use Rattle.laws.specs.Longest.{Top, along, longest-top, longest_last, routes_wfs}
use Rattle.routes.specs.Route.{Route, key, All, hop_at, held, Wf, IsRoute, IsList}
use Rattle.routes.specs.Match.{Match, none, found, matches, or_longer, longest}
use Rattle.shortest.specs.HopSet.{has, has_zero}
use Rattle.shortest.specs.Chosen.{set_of, pick, above, chosen}
use Rattle.shortest.specs.Inside.{cost}
use Rattle.shortest.specs.Least.{least}
use Rattle.shortest.specs.Given.{Hops}
use Rattle.shortest.specs.Shortest.{hop_of, forwards, upto}
use Rattle.shortest.specs.Lists.{table_of, table_length, carried_last}

-- ---- the hops of a list that has the default route

abbrev pub Upto : ℕ → Route → Type 0
Upto N r = r.hop ≤ N

pub upto_all : (N : ℕ) (rs : List Route) → upto N rs ≡ true → All (Upto N) rs
upto_all N [] e = tt
upto_all N (r ∷ rs) e =
    let b = and_to (leb r.hop N) (upto N rs) e in
    (leb-true r.hop N b.0, upto_all N rs b.1)

pub upto-append : (N : ℕ) (xs ys : List Route) → upto N (xs ++ ys) ≡ (upto N xs && upto N ys)
upto-append N [] ys = refl
upto-append N (x ∷ xs) ys =
    ap (λ (b : Bool). leb x.hop N && b) (upto-append N xs ys)
    ∙ sym (and_assoc (leb x.hop N) (upto N xs) (upto N ys))

pub upto-own : (N d v l h : ℕ) → upto N (own d v l h) ≡ leb h N
upto-own N d v l zero = sym (le-leb 0 N (omega arith))
upto-own N d v l (suc h) = and-true (leb (suc h) N)

pub upto_hop : (N : ℕ) (rs : List Route) (k : ℕ) → All (Upto N) rs → hop_at rs k ≤ N
upto_hop N [] k u = omega arith
upto_hop N (r ∷ rs) k u = bool (eqb (key r) k) (λ e. rw e u.0) (λ e. rw e (upto_hop N rs k u.1))

or_longer-upto : (N : ℕ) (r : Route) (m : Match) → r.hop ≤ N → hop_of m ≤ N → hop_of (or_longer r m) ≤ N
or_longer-upto N r none p q = p
or_longer-upto N r (found h l) p q = less r.len l (λ _ e. rw e q) (λ _ e. rw e p)

pub forwards-upto : (N W a : ℕ) (rs : List Route) → All (Upto N) rs → forwards W rs a ≤ N
forwards-upto N W a [] p = omega arith
forwards-upto N W a (r ∷ rs) p =
    bool (matches W a r)
    (λ e. rw e (or_longer-upto N r (longest W a rs) p.0 (forwards-upto N W a rs p.1)))
    (λ e. rw e (forwards-upto N W a rs p.1))

pub forwards_some : (W a : ℕ) (rs : List Route) → W < 256 → All (Wf W) rs → 1 ≤ held rs 0 0 → a < 2 ^ W
    → 1 ≤ forwards W rs a
forwards_some W a rs w f p b = go (longest W a rs) (longest-top W a w rs f)
  where
    root : along W a w rs 0 ≡ hop_at rs 0
    root =
        let e : W - 0 ≡ W = omega arith in
        let z : a / 2 ^ W ≡ 0 = div-eq_of_lt b in
        let o : 0 * 2 ^ W * 256 + 0 ≡ 0 = omega arith in
        rw (e, z, o)

    go : (m : Match) → Top (along W a w rs) W m → 1 ≤ hop_of m
    go none t = absurd (omega (arith, t 0 (omega arith), root, p))
    go (found h l) t = t.1

-- ---- the hops that are chosen

pick-upto : (N m h : ℕ) → pick N m h ≤ suc N
pick-upto N m h = bool (has m h) (λ e. rw e (omega arith)) (λ e. rw e (omega (arith, trailing_le N m)))

chosen-upto : (N W : ℕ) (G : ℕ → ℕ) (v l : ℕ) → chosen N W G v l ≤ suc N
unfolding chosen
chosen-upto N W G v l = pick-upto N (set_of G (W - l) v) (above N W G l v)

own_all : (N d v l h : ℕ) → h ≤ N → All (Upto N) (own d v l h)
own_all N d v l zero p = tt
own_all N d v l (suc h) p = (p, tt)

collect_all : (N : ℕ) (f : ℕ → ℕ → ℕ) → ((v l : ℕ) → f v l ≤ N) → (d v l : ℕ) → All (Upto N) (collect f d v l)
unfolding collect
collect_all N f p zero v l = own_all N zero v l (f v l) (p v l)
collect_all N f p (suc d) v l =
    all_append (Upto N) (own (suc d) v l (f v l)) _ (own_all N (suc d) v l (f v l) (p v l))
    (all_append (Upto N) (collect f d (2 * v) (suc l)) _
    (collect_all N f p d (2 * v) (suc l))
    (collect_all N f p d (2 * v + 1) (suc l)))

all_both : (W N : ℕ) → N ≤ 65535 → (rs : List Route) → All (Wf W) rs → All (Upto N) rs → All (IsRoute W) rs
all_both W N n [] p q = tt
all_both W N n (r ∷ rs) p q = (record { wf = p.0; low = omega (arith, q.0) }, all_both W N n rs p.1 q.1)

-- ---- the whole

module _ (N W : ℕ) (w : W < 256) (n : N < 65535) (G : ℕ → ℕ) (hops : (a : ℕ) → a < 2 ^ W → (1 ≤ G a) × (G a ≤ N)) where
  pub inside : Hops N G W 0
  inside a i = hops a (omega (arith, i.to))

  pub whole_list : IsList W (routes W (chosen N W G))
  unfolding routes
  whole_list = record {
    sorted = routes_from W w (chosen N W G);
    routes = all_both W (suc N) n (routes W (chosen N W G)) (routes_wfs W (chosen N W G))
        (collect_all (suc N) (chosen N W G) (chosen-upto N W G) W 0 0);
  }

  pub whole_least : (ps : List Route) → All (Wf W) ps → ((a : ℕ) → a < 2 ^ W → forwards W ps a ≡ G a)
      → cost G W 0 + 1 ≤ length ps
  unfolding routes
  whole_least ps f g =
      let e : has (set_of G W 0) 0 ≡ false = has_zero (set_of G W 0) in
      let h : cost G W 0 + 1 ≤ length (routes W (table_of W ps)) =
      rw e at (least (table_of W ps) G W 0 0 0 (λ a i. (inside a i).0)
      (λ a i. (let b : a < 2 ^ W = omega (arith, i.to) in
      carried_last (table_of W ps) W a ∙ sym (ap hop_of (longest_last W a w ps f)) ∙ g a b))) in
      omega (arith, h, table_length W w ps f)
