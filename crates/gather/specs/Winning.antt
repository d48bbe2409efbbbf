-- The winners of the gathered candidates are the routes of the winning hops, slot by slot. Assumes nothing.
--
--     words g v l f ── gathered ──▶ candidates ── winners ──▶ routes
--           │                                                   ║
--           └── won_hop, slot by slot ──▶ hops ── routes ──▶ routes
use Rattle.std.specs.Prelude.{◌≡◌, refl, ◌≢◌}
use Rattle.std.proofs.Common.{sym, ap, ◌∙◌, arith, shl_lt, lt-ltb}
use Rattle.std.proofs.Math.Path.{ap₂}
use mathlib.Core.List.{List, [], ◌∷◌, ◌++◌}
use Rattle.std.proofs.Math.Option.{Option, none}
use Prim.Native.Nat.{ℕ, zero, suc, ◌+◌, ◌-◌, ◌*◌, ◌^◌, ◌≤◌, ◌<◌}
use Rattle.std.proofs.Math.Nat.{mul-mod_left}
use Rattle.logic.specs.Cases.{same, tri}
use Rattle.routes.specs.Route.{Route, route, From, All, hop_at, insert}
use Rattle.routes.specs.Route as plain
use Rattle.routes.specs.Collect.{own, collect, routes}
use Rattle.laws.specs.Sorted as sorted
use Rattle.laws.specs.Sorted.{all_insert}
use Rattle.laws.specs.Collect.{dbl, own_goods, own_hit, own_miss, routes_hop}
use Rattle.candidates.specs.Keyed.{Ordered, Every}
use Rattle.candidates.specs.Candidate.{Candidate, prefix_key, key, hop_of, IsCandidate, IsList}
use Rattle.candidates.specs.Winners.{best, winning, winners}
use Rattle.rivals.specs.Maps.{every_map, weaken}
use Rattle.rivals.specs.Append.{every_append, inside_ordered, inside_every}
use Rattle.rivals.specs.Won.{Good, best_skip, winners_hop, winners_from, winners_good}
use Rattle.rivals.specs.Lowest.{each_both}
use Rattle.slots.specs.Word.{IsFeed, word_for, hop_in, RightWord}
use Rattle.slots.specs.Winner.{won_hop, winner_same}
use Rattle.slots.specs.Slot.{RightSlot}
use Rattle.slots.specs.Prefix.{Fit, word_in, winner_fits}
use Rattle.gather.specs.Gather.{meant, listed, of_slot, gather, gathered}

-- ---- the winners of two lists, one after the other

pub best_none : (cs : List Candidate) (k : ℕ) → Every (λ c. prefix_key c ≢ k) cs → best cs k ≡ none
best_none [] k p = refl
best_none (c ∷ cs) k p = best_skip c cs k p.0 ∙ best_none cs k p.1

best-append : (xs ys : List Candidate) (k : ℕ) → Every (λ c. prefix_key c ≢ k) ys → best (xs ++ ys) k ≡ best xs k
best-append [] ys k p = best_none ys k p
best-append (x ∷ xs) ys k p = rw (best-append xs ys k p)

insert-append : (m : ℕ) (r : Route) (xs ys : List Route) → plain.key r < m → All (λ s. m ≤ plain.key s) ys
    → insert r (xs ++ ys) ≡ insert r xs ++ ys
insert-append m r [] [] h p = refl
insert-append m r [] (y ∷ ys) h p = rw (lt-ltb (plain.key r) (plain.key y) (omega (arith, p.0)))
insert-append m r (x ∷ xs) ys h p =
    tri (plain.key r) (plain.key x)
    (λ l e. rw e)
    (λ q e d. rw (e, d))
    (λ l e d. rw (e, d, insert-append m r xs ys h p))

-- the route of a list's first prefix
abbrev head_route : Candidate → List Candidate → Route
head_route c cs = route c.addr c.len (winning (c ∷ cs) (prefix_key c))

winners-above : (m : ℕ) (cs : List Candidate) → Every (λ c. m ≤ prefix_key c) cs → All (λ s. m ≤ plain.key s) (winners cs)
winners-above m [] p = tt
winners-above m (c ∷ cs) p =
    all_insert (λ s. m ≤ plain.key s) (head_route c cs) (winners cs) p.0 (winners-above m cs p.1)

pub winners-append : (m : ℕ) (xs ys : List Candidate) → Every (λ c. prefix_key c < m) xs → Every (λ c. m ≤ prefix_key c) ys
    → winners (xs ++ ys) ≡ winners xs ++ winners ys
winners-append m [] ys p q = refl
winners-append m (c ∷ cs) ys p q =
    ap₂ (λ (o : Option Candidate) (rs : List Route). insert (route c.addr c.len (hop_of o)) rs)
    (best-append (c ∷ cs) ys (prefix_key c)
    (every_map (λ d. m ≤ prefix_key d) (λ d. prefix_key d ≢ prefix_key c) (λ d h e. (let t = p.0 in omega arith)) ys q))
    (winners-append m cs ys p.1 q)
    ∙ insert-append m (head_route c cs) (winners cs) (winners ys) p.0 (winners-above m ys q)

-- ---- one slot

pub one_fits : (d v l f w : ℕ) → IsFeed f → RightWord w → Every (Fit 1 4) (listed (meant d v l f w))
one_fits d v l f zero i p = tt
one_fits d v l f (suc w) i p =
    (record { low = i.low; high = i.high; pos = p.hop (λ z. omega arith); small = omega arith }, tt)

pub one_prefix : (d v l f w : ℕ) → Every (λ c. prefix_key c ≡ v * 2 ^ d * 256 + l) (listed (meant d v l f w))
one_prefix d v l f zero = tt
one_prefix d v l f (suc w) = (refl, tt)

pub one_short : (d v l f w : ℕ) → l < 256 → Every (λ c. c.len < 256) (listed (meant d v l f w))
one_short d v l f zero s = tt
one_short d v l f (suc w) s = (s, tt)

pub word_back : (d v l f w : ℕ) → word_for (meant d v l f w) ≡ w
word_back d v l f zero = refl
word_back d v l f (suc w) = omega arith

pub own_from : (d v l h : ℕ) → From 0 (own d v l h)
own_from d v l zero = tt
own_from d v l (suc h) = (omega arith, tt)

module _ (g : ℕ → ℕ) (d v l : ℕ) (s : l < 256) (p : RightSlot g) where
  abbrev pub k₀ : ℕ
  k₀ = v * 2 ^ d * 256 + l

  abbrev pub cs₀ : List Candidate
  cs₀ = of_slot g d v l

-- ---- all slots

module _ (g : ℕ → ℕ → ℕ → ℕ) (p : (v l : ℕ) → RightSlot (g v l)) where
  -- ---- and the candidates are a list

  pub one_is : (W d v l f w : ℕ) → l + d ≡ W → v < 2 ^ l → IsFeed f → RightWord w
      → Every (IsCandidate W) (listed (meant d v l f w))
  one_is W d v l f zero e b i q = tt
  one_is W d v l f (suc w) e b i q =
      let n : W - l ≡ d = omega arith in
      let z : 0 < hop_in (suc w) = q.hop (λ t. omega arith) in (
        record {
          route = record {
            wf = record { fits = omega arith; inside = rw e at (shl_lt l d b); clean = rw n (mul-mod_left v (2 ^ d)); some = z };
            low = omega arith;
          };
          low = i.low;
          high = i.high;
          byte = omega (arith, q.preference);
        },
        tt,
      )
