-- The heads of routes: their first m bits, of those whose length is picked. The winners' are those of the candidates' prefixes.
-- They rise with the candidates, so equal ones are neighbours, and a comparison with the one before counts the different ones.
-- Assumes nothing.
use Rattle.std.specs.Prelude.{◌≡◌, ◌≢◌, Bool, true, false, cond, ◌&&◌, ◌||◌, List, [], ◌∷◌, ℕ, suc, ◌+◌, ◌-◌, ◌/◌, ◌^◌, ◌≤◌, ◌<◌}
use Rattle.std.specs.Prelude.{length, ltb, leb, eqb, Option, Some, None}
use Rattle.std.proofs.Math.Path.{refl}
use Rattle.std.proofs.Common.{sym, ap, ◌∙◌, le_trans, arith, le-leb, eq-eqb, ne_eqb}
use Rattle.std.proofs.Math.Pow.{shr_mono}
use Rattle.std.proofs.lemmas.Nat.{shr_le}
use Rattle.std.proofs.lemmas.Bool.{lt-leb}
use Rattle.routes.specs.Route.{Route, route, All, insert}
use Rattle.routes.specs.Route as routes
use Rattle.routes.specs.Room.{mem, distinct, heads}
use Rattle.logic.specs.Cases.{bool, same, less, tri}
use Rattle.logic.specs.Bools.{or_right, or_swap, or_twice}
use Rattle.laws.specs.Longest.{Wfs}
use Rattle.laws.specs.Room.{distinct-mem}
use Rattle.laws.specs.Sorted as sorted
use Rattle.candidates.specs.Keyed.{Ordered, Every}
use Rattle.candidates.specs.Candidate.{Candidate, prefix_key, key, IsCandidate, IsList}
use Rattle.candidates.specs.Winners.{winning, winners, prefixes}
use Rattle.rivals.specs.Won.{Good, head_pos, winners_good}

-- the first m bits of the routes whose length P takes
abbrev pub picks : (ℕ → Bool) → ℕ → List Route → List ℕ
picks P m [] = []
picks P m (r ∷ rs) = cond (P r.len) (r.addr / 2 ^ (32 - m) ∷ picks P m rs) (picks P m rs)

-- the lengths from one to another, both counted
abbrev pub between : ℕ → ℕ → ℕ → Bool
between from to l = leb from l && leb l to

-- above every head: before the first there is none
abbrev pub no_head : ℕ
no_head = 4294967296

-- the head of the address met last, where one was met
abbrev pub last_head : ℕ → Option ℕ → ℕ
last_head m None = no_head
last_head m (Some last) = last / 2 ^ (32 - m)

-- one more, unless v is the one before
pub record Counted (seen v last r : ℕ) : Type 0 where
  pub same : v ≡ last → r ≡ seen
  pub more : v ≢ last → r ≡ seen + 1

-- ---- which lengths are picked

pub picks_same : (P Q : ℕ → Bool) (m : ℕ) (rs : List Route) → ((l : ℕ) → l ≤ 32 → P l ≡ Q l) → Wfs 32 rs
    → picks P m rs ≡ picks Q m rs
picks_same P Q m [] e w = refl
picks_same P Q m (r ∷ rs) e w = rw (e r.len w.0.fits, picks_same P Q m rs e w.1)

-- a route more takes no head away
pub picks_more : (P : ℕ → Bool) (m z : ℕ) (r : Route) (rs : List Route) → mem z (picks P m rs) ≡ true
    → mem z (picks P m (r ∷ rs)) ≡ true
picks_more P m z r rs e =
    bool (P r.len) (λ d. rw d (or_right (eqb (r.addr / 2 ^ (32 - m)) z) (mem z (picks P m rs)) e)) (λ d. rw d e)

-- the heads of document 01's room are those of longer routes
pub heads-picks : (n : ℕ) (rs : List Route) → Wfs 32 rs → heads 32 n rs ≡ picks (between (n + 1) 32) n rs
heads-picks n rs w = longer rs ∙ picks_same (λ l. ltb n l) (between (n + 1) 32) n rs after w
  where
    longer : (rs : List Route) → heads 32 n rs ≡ picks (λ l. ltb n l) n rs
    longer [] = refl
    longer (r ∷ rs) = rw (longer rs)

    after : (l : ℕ) → l ≤ 32 → ltb n l ≡ between (n + 1) 32 l
    after l h =
        less n l
        (λ q e. rw (e, le-leb (n + 1) l (omega arith), le-leb l 32 h))
        (λ q e. rw (e, lt-leb (n + 1) l (omega arith)))

-- ---- counting

-- each number is at least the one before
abbrev Rising : ℕ → List ℕ → Type 0
Rising lo [] = Unit {0}
Rising lo (x ∷ xs) = (lo ≤ x) × Rising x xs

-- the first number, or d
abbrev pub first_or : ℕ → List ℕ → ℕ
first_or d [] = d
first_or d (x ∷ xs) = x

rising_past : (v lo : ℕ) (xs : List ℕ) → v < lo → Rising lo xs → mem v xs ≡ false
rising_past v lo [] h r = refl
rising_past v lo (x ∷ xs) h r = rw (ne_eqb x v (λ e. omega (arith, r.0))) (rising_past v x xs (omega (arith, r.0)) r.1)

distinct-step : (v d : ℕ) (xs : List ℕ) → v < d → Rising v xs
    → distinct (v ∷ xs) ≡ cond (eqb v (first_or d xs)) (distinct xs) (suc (distinct xs))
distinct-step v d [] h r = rw (ne_eqb v d (λ e. omega arith))
distinct-step v d (x ∷ xs) h r =
    same v x
    (λ q e. rw (e, eq-eqb x v (sym q)))
    (λ q e. rw (e, ne_eqb x v (λ z. q (sym z)), rising_past v x xs (omega (arith, r.0)) r.1))

picks_rising : (P : ℕ → Bool) (m lo h : ℕ) (cs : List Candidate) → Ordered key lo cs → Every (IsCandidate 32) cs
    → h ≤ lo / 2048 / 2 ^ (32 - m) → Rising h (picks P m (prefixes cs))
picks_rising P m lo h [] f w b = tt
picks_rising P m lo h (c ∷ cs) f w b =
    let u : h ≤ c.addr / 2 ^ (32 - m) =
    le_trans b (shr_mono (32 - m) (omega (arith, f.0, w.0.high, w.0.route.wf.fits))) in
    let v : c.addr / 2 ^ (32 - m) ≤ suc (key c) / 2048 / 2 ^ (32 - m) = shr_mono (32 - m) (omega arith) in
    bool (P c.len)
    (λ e. rw e (u, picks_rising P m (suc (key c)) (c.addr / 2 ^ (32 - m)) cs f.1 w.1 v))
    (λ e. rw e (picks_rising P m (suc (key c)) h cs f.1 w.1 (le_trans u v)))

-- ---- one candidate more, before the others

module _ (P : ℕ → Bool) (m : ℕ) (c : Candidate) (cs : List Candidate) (l : IsList 32 (c ∷ cs)) where
  abbrev v : ℕ
  v = c.addr / 2 ^ (32 - m)

  abbrev others : List ℕ
  others = picks P m (prefixes cs)

  pub head_low : c.addr / 2 ^ (32 - m) < no_head
  head_low = omega (arith, shr_le c.addr (32 - m), l.candidates.0.route.wf.inside)

  rising : Rising v others
  rising = picks_rising P m (suc (key c)) v cs l.sorted.1 l.candidates.1 (shr_mono (32 - m) (omega arith))

  pub count_skip : P c.len ≡ false → picks P m (prefixes (c ∷ cs)) ≡ picks P m (prefixes cs)
  count_skip e = rw e

  pub count_same : P c.len ≡ true → c.addr / 2 ^ (32 - m) ≡ first_or no_head (picks P m (prefixes cs))
      → distinct (picks P m (prefixes (c ∷ cs))) ≡ distinct (picks P m (prefixes cs))
  count_same e q = rw e (distinct-step v no_head others head_low rising ∙ rw (eq-eqb v (first_or no_head others) q))

  pub count_new : P c.len ≡ true → c.addr / 2 ^ (32 - m) ≢ first_or no_head (picks P m (prefixes cs))
      → distinct (picks P m (prefixes (c ∷ cs))) ≡ suc (distinct (picks P m (prefixes cs)))
  count_new e q = rw e (distinct-step v no_head others head_low rising ∙ rw (ne_eqb v (first_or no_head others) q))

  pub count_first : P c.len ≡ true → first_or no_head (picks P m (prefixes (c ∷ cs))) ≡ c.addr / 2 ^ (32 - m)
  count_first e = rw e

pub distinct-length : (P : ℕ → Bool) (m : ℕ) (rs : List Route) → distinct (picks P m rs) ≤ length rs
distinct-length P m [] = omega arith
distinct-length P m (r ∷ rs) =
    let ih = distinct-length P m rs in
    bool (P r.len)
    (λ e. rw e (bool (mem (r.addr / 2 ^ (32 - m)) (picks P m rs)) (λ d. rw d (omega arith)) (λ d. rw d (omega arith))))
    (λ e. rw e (omega arith))

pub prefixes-length : (cs : List Candidate) → length (prefixes cs) ≡ length cs
prefixes-length [] = refl
prefixes-length (c ∷ cs) = ap suc (prefixes-length cs)

-- ---- the winners' heads

module _ (P : ℕ → Bool) (m z : ℕ) where
  -- z is the head of a route that is picked
  unfoldable is_pick : Route → Bool
  is_pick r = P r.len && eqb (r.addr / 2 ^ (32 - m)) z

  mem-picks : (r : Route) (rs : List Route) → mem z (picks P m (r ∷ rs)) ≡ (is_pick r || mem z (picks P m rs))
  unfolding is_pick
  mem-picks r rs = bool (P r.len) (λ e. rw e) (λ e. rw e)

  same_pick : (r s : Route) → sorted.Good r → sorted.Good s → routes.key r ≡ routes.key s → is_pick s ≡ is_pick r
  unfolding is_pick
  same_pick r s g g' e =
      let a : r.addr ≡ s.addr = omega (arith, g.short, g'.short) in
      let l : r.len ≡ s.len = omega (arith, g.short, g'.short) in
      rw (a, l)

  picks-insert : (r : Route) (rs : List Route) → sorted.Good r → All sorted.Good rs
      → mem z (picks P m (insert r rs)) ≡ (is_pick r || mem z (picks P m rs))
  picks-insert r [] g p = mem-picks r []
  picks-insert r (s ∷ rs) g p =
      tri (routes.key r) (routes.key s)
      (λ l e. rw e (mem-picks r (s ∷ rs)))
      (λ q e d. rw (e, d, mem-picks r rs, mem-picks s rs, same_pick r s g p.0 q)
      (sym (or_twice (is_pick r) (mem z (picks P m rs)))))
      (λ l e d. rw (e, d, mem-picks s (insert r rs), picks-insert r rs g p.1, mem-picks s rs)
      (or_swap (is_pick s) (is_pick r) (mem z (picks P m rs))))

  -- a head hangs on no hop
  pick_hop : (a l h i : ℕ) → is_pick (route a l h) ≡ is_pick (route a l i)
  unfolding is_pick
  pick_hop a l h i = refl

  pub picks-winners : (cs : List Candidate) → Every Good cs → mem z (picks P m (winners cs)) ≡ mem z (picks P m (prefixes cs))
  picks-winners [] p = refl
  picks-winners (c ∷ cs) p =
      let r : Route = route c.addr c.len (winning (c ∷ cs) (prefix_key c)) in
      picks-insert r (winners cs) (record { pos = head_pos c cs p; short = p.0.short }) (winners_good cs p.1)
      ∙ ap (λ (b : Bool). b || mem z (picks P m (winners cs))) (pick_hop c.addr c.len (winning (c ∷ cs) (prefix_key c)) 0)
      ∙ ap (λ (b : Bool). is_pick (route c.addr c.len 0) || b) (picks-winners cs p.1)
      ∙ sym (mem-picks (route c.addr c.len 0) (prefixes cs))

pub distinct-winners : (P : ℕ → Bool) (m : ℕ) (cs : List Candidate) → Every Good cs
    → distinct (picks P m (prefixes cs)) ≡ distinct (picks P m (winners cs))
distinct-winners P m cs p =
    distinct-mem (picks P m (prefixes cs)) (picks P m (winners cs)) (λ z. sym (picks-winners P m z cs p))
