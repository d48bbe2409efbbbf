-- The words of a prefix's four candidates have the prefix's winning hop for theirs. Assumes nothing.
--
--     candidates    10.0.0.0/8 feed 1 via 5 preference 10 ── 10.0.0.0/8 feed 3 via 6 preference 5       winning: 6
--     words         10 * 65536 + 5             0             5 * 65536 + 6             0                won_hop: 6
use Rattle.std.specs.Prelude.{◌≡◌, refl, ◌≢◌, List, [], ◌∷◌, ℕ, suc, ◌+◌, ◌*◌, ◌≤◌, ◌<◌, ltb}
use Rattle.std.proofs.Common.{sym, ap, ◌∙◌, arith, eq-eqb, ne_eqb, lt-ltb, le-ltb}
use Rattle.std.proofs.Math.Option.{Option, none, some}
use Rattle.logic.specs.Cases.{bool, same, less}
use Rattle.sizes.specs.Sizes.{hop_bound}
use Rattle.candidates.specs.Keyed.{Ordered, find, Every}
use Rattle.candidates.specs.Candidate.{Candidate, prefix_key, key, hop_of, IsCandidate, IsList}
use Rattle.candidates.specs.Winners.{rank, or_lower, best, winning}
use Rattle.rivals.specs.Maps.{every_map, find-below}
use Rattle.rivals.specs.Won.{Maybe}
use Rattle.slots.specs.Word.{word_for, hop_in, preference_of, hop_of_lem}
use Rattle.slots.specs.Winner.{lower, won_hop}

-- ---- the winner of a prefix, from its four candidates

-- of a candidate, or none, and what comes after it
abbrev over : Option Candidate → Option Candidate → Option Candidate
over none o = o
over (some c) o = or_lower c o

-- a feed number from lo to hi, and a hop
pub record Fit (lo hi : ℕ) (c : Candidate) : Type 0 where
  pub low : lo ≤ c.feed
  pub high : c.feed ≤ hi
  pub pos : 0 < c.hop
  pub small : c.hop < hop_bound

module _ (cs : List Candidate) (k : ℕ) where
  abbrev at : ℕ → Option Candidate
  at f = find key cs (k * 8 + f)

  abbrev first : Option Candidate
  first = over (at 1) (over (at 2) (over (at 3) (at 4)))

-- the head of a list is of prefix k: what is found at each feed, with it and after it
module _ (c : Candidate) (cs : List Candidate) (k : ℕ) (q : prefix_key c ≡ k) where
  hit : (f : ℕ) → c.feed ≡ f → at (c ∷ cs) k f ≡ some c
  hit f e = rw (eq-eqb (key c) (k * 8 + f) (omega arith))

  miss : (f : ℕ) → c.feed ≢ f → at (c ∷ cs) k f ≡ at cs k f
  miss f n = rw (ne_eqb (key c) (k * 8 + f) (λ z. n (omega arith)))

  -- at its own feed and at lower ones nothing comes after it
  past : (f : ℕ) → Ordered key (suc (key c)) cs → f ≤ c.feed → at cs k f ≡ none
  past f o h = find-below key (suc (key c)) (k * 8 + f) cs o (omega arith)

  head_first : Ordered key (suc (key c)) cs → Fit 1 4 c → first (c ∷ cs) k ≡ or_lower c (first cs k)
  head_first o p =
      let l = p.low in
      let h = p.high in
      same c.feed 1
      (λ e _. rw (hit 1 e, miss 2 (omega arith), miss 3 (omega arith), miss 4 (omega arith), past 1 o (omega arith)))
      (λ n₁ _. rw (miss 1 n₁, past 1 o (omega arith)) (same c.feed 2
      (λ e _. rw (hit 2 e, miss 3 (omega arith), miss 4 (omega arith), past 2 o (omega arith)))
      (λ n₂ _. rw (miss 2 n₂, past 2 o (omega arith)) (same c.feed 3
      (λ e _. rw (hit 3 e, miss 4 (omega arith), past 3 o (omega arith)))
      (λ n₃ _. rw (miss 3 n₃, past 3 o (omega arith), hit 4 (omega arith), past 4 o (omega arith)))))))

-- it is of another prefix
module _ (c : Candidate) (cs : List Candidate) (k : ℕ) (n : prefix_key c ≢ k) (p : Fit 1 4 c) where
  other : (f : ℕ) → f ≤ 4 → at (c ∷ cs) k f ≡ at cs k f
  other f h = rw (ne_eqb (key c) (k * 8 + f) (λ z. n (omega (arith, p.high))))

  other_first : first (c ∷ cs) k ≡ first cs k
  other_first = rw (other 1 (omega arith), other 2 (omega arith), other 3 (omega arith), other 4 (omega arith))

best_first : (lo : ℕ) (cs : List Candidate) (k : ℕ) → Ordered key lo cs → Every (Fit 1 4) cs → best cs k ≡ first cs k
best_first lo [] k o p = refl
best_first lo (c ∷ cs) k o p =
    let ih = best_first (suc (key c)) cs k o.1 p.1 in
    same (prefix_key c) k
    (λ q t. rw (t, ih, head_first c cs k q o.1 p.0))
    (λ n t. rw (t, ih, other_first c cs k n p.0))

-- ---- the same of words

over_fit : (lo mid hi : ℕ) (x y : Option Candidate) → lo ≤ mid → mid ≤ hi → Maybe (Fit lo mid) x → Maybe (Fit (suc mid) hi) y
    → Maybe (Fit lo hi) (over x y)
over_fit lo mid hi x y a b p q = go x y p q
  where
    left : (c : Candidate) → Fit lo mid c → Fit lo hi c
    left c p = record { low = p.low; high = omega (arith, p.high); pos = p.pos; small = p.small }

    right : (c : Candidate) → Fit (suc mid) hi c → Fit lo hi c
    right c q = record { low = omega (arith, q.low); high = q.high; pos = q.pos; small = q.small }

    go : (x y : Option Candidate) → Maybe (Fit lo mid) x → Maybe (Fit (suc mid) hi) y → Maybe (Fit lo hi) (over x y)
    go none none p q = tt
    go none (some d) p q = right d q
    go (some c) none p q = left c p
    go (some c) (some d) p q = bool (ltb (rank d) (rank c)) (λ e. rw e (right d q)) (λ e. rw e (left c p))

-- at equal preference the lower feed has the lower rank
over_word : (lo mid hi : ℕ) (x y : Option Candidate) → hi < 8 → Maybe (Fit lo mid) x → Maybe (Fit (suc mid) hi) y
    → word_for (over x y) ≡ lower (word_for x) (word_for y)
unfolding lower
over_word lo mid hi none y h p q = same (word_for y) 0 (λ e t. rw t e) (λ n t. rw t)
over_word lo mid hi (some c) none h p q = refl
over_word lo mid hi (some c) (some d) h p q =
    rw (
      ne_eqb (word_for (some d)) 0 (λ z. omega (arith, q.pos)),
      ne_eqb (word_for (some c)) 0 (λ z. omega (arith, p.pos)),
      preference_of c.pref c.hop p.small,
      preference_of d.pref d.hop q.small,
    )
    (less d.pref c.pref
    (λ l t. rw (t, lt-ltb (rank d) (rank c) (omega (arith, p.low, p.high, q.low, q.high))))
    (λ l t. rw (t, le-ltb (rank d) (rank c) (omega (arith, p.low, p.high, q.low, q.high)))))

-- what is found at a feed's key is of that feed
at_fit : (cs : List Candidate) (k f : ℕ) → f < 8 → Every (Fit 1 4) cs → Maybe (Fit f f) (at cs k f)
at_fit [] k f h p = tt
at_fit (c ∷ cs) k f h p =
    same (key c) (k * 8 + f)
    (λ q t. rw t (record {
      low = omega (arith, p.0.high);
      high = omega (arith, p.0.high);
      pos = p.0.pos;
      small = p.0.small;
    }))
    (λ n t. rw t (at_fit cs k f h p.1))

hop_word : (o : Option Candidate) → Maybe (Fit 1 4) o → hop_of o ≡ hop_in (word_for o)
hop_word none p = refl
hop_word (some c) p = sym (hop_of_lem c.pref c.hop p.small)

-- ---- the law

-- the word of feed f for the prefix k
abbrev pub word_in : List Candidate → ℕ → ℕ → ℕ
word_in cs k f = word_for (find key cs (k * 8 + f))

pub winner_fits : (cs : List Candidate) (k : ℕ) → Ordered key 0 cs → Every (Fit 1 4) cs → winning cs k ≡ won_hop (word_in cs k)
winner_fits cs k o fits =
    ap hop_of (best_first 0 cs k o fits)
    ∙ hop_word (first cs k) (over_fit 1 1 4 (at cs k 1) from2 (omega arith) (omega arith) (fit 1 (omega arith)) fit2)
    ∙ ap hop_in (over_word 1 1 4 (at cs k 1) from2 (omega arith) (fit 1 (omega arith)) fit2
    ∙ ap (lower (word_in cs k 1)) (over_word 2 2 4 (at cs k 2) from3 (omega arith) (fit 2 (omega arith)) fit3
    ∙ ap (lower (word_in cs k 2))
    (over_word 3 3 4 (at cs k 3) (at cs k 4) (omega arith) (fit 3 (omega arith)) (fit 4 (omega arith)))))
  where
    fit : (f : ℕ) → f < 8 → Maybe (Fit f f) (at cs k f)
    fit f h = at_fit cs k f h fits

    from3 : Option Candidate
    from3 = over (at cs k 3) (at cs k 4)

    from2 : Option Candidate
    from2 = over (at cs k 2) (over (at cs k 3) (at cs k 4))

    fit3 : Maybe (Fit 3 4) (over (at cs k 3) (at cs k 4))
    fit3 = over_fit 3 3 4 (at cs k 3) (at cs k 4) (omega arith) (omega arith) (fit 3 (omega arith)) (fit 4 (omega arith))

    fit2 : Maybe (Fit 2 4) (over (at cs k 2) (over (at cs k 3) (at cs k 4)))
    fit2 = over_fit 2 2 4 (at cs k 2) (over (at cs k 3) (at cs k 4)) (omega arith) (omega arith) (fit 2 (omega arith)) fit3

is_fit : (W : ℕ) (c : Candidate) → IsCandidate W c → Fit 1 4 c
is_fit W c p =
    record { low = p.low; high = p.high; pos = omega (arith, p.route.wf.some); small = omega (arith, p.route.low) }

pub winner_won : (W : ℕ) (cs : List Candidate) (k : ℕ) → IsList W cs → winning cs k ≡ won_hop (word_in cs k)
winner_won W cs k i = winner_fits cs k i.sorted (every_map (IsCandidate W) (Fit 1 4) (is_fit W) cs i.candidates)
