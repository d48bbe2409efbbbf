-- When words are a list laid out by lengths, and that the walk on them then gives the longest match. Assumes nothing.
use Rattle.std.specs.Prelude.{◌≡◌, refl, cond, List, [], ◌∷◌, ℕ, zero, suc, ◌+◌, ◌*◌, ◌/◌, ◌%◌, ◌≤◌, ◌<◌, length}
use Rattle.std.specs.Prelude.{get_or}
use Rattle.std.proofs.Common.{ap, ◌∙◌, le-ltb, le-leb, ne_eqb}
use native.Mathlib.Omega.{arith}
use Rattle.std.proofs.lemmas.Bool.{lt-leb}
use Rattle.routes.specs.Route.{Route, key, All, hop_at, IsRoute, IsList}
use Rattle.routes.specs.Match.{Match, none, found, longest, or_shorter, last}
use Rattle.routes.specs.Room.{mem}
use Rattle.routes.specs.Seen.{gives}
use Rattle.logic.specs.Cases.{same}
use Rattle.laws.specs.Longest.{along, longest_last, wfs}
use Rattle.lengths.specs.Way.{miss, hit, code}
use Rattle.lengths.specs.Marks.{entries, best_at, words_for}
use Rattle.lengths.specs.Hash.{start_lt, place_lt}
use Rattle.lengths.specs.Layout.{header_words, begin_of, size_of, Places, places_of, start, probe, find_in, look}
use Rattle.lengths.specs.Layout.{answered}

-- the table of length m ends by `to`, and tells the list's entries of that length, each with its best match
pub record Table (rs : List Route) (ws : List ℕ) (to m : ℕ) : Type 0 where
  pub ends : begin_of ws m + 8 * size_of ws m ≤ to
  pub finds : (v : ℕ) → find_in ws m (begin_of ws m) (size_of ws m) v ≡ cond (mem v (entries m rs)) (hit (best_at rs m v)) miss

-- the default route is kept beside
pub record Laid (rs : List Route) (ws : List ℕ) : Type 0 where
  pub long : words_for rs ≤ length ws
  pub default : get_or ws 0 0 ≡ best_at rs 0 0
  pub tables : (m : ℕ) → 1 ≤ m → m ≤ 32 → Table rs ws (words_for rs) m

-- ---- a best match is in its range

-- a match of at most m bits
abbrev Low : ℕ → Match → Type 0
Low m none = Unit {0}
Low m (found h l) = (1 ≤ h) × (h ≤ 65535) × (l ≤ m)

low_more : (m n : ℕ) (x : Match) → m ≤ n → Low m x → Low n x
low_more m n none h w = tt
low_more m n (found a b) h w = (w.0, w.1, omega arith)

hit_low : (h l m n : ℕ) (x : Match) → h ≤ 65535 → l ≤ n → m ≤ n → Low m x → Low n (or_shorter h l x)
hit_low zero l m n x a b c w = low_more m n x c w
hit_low (suc h) l m n x a b c w = (omega arith, a, b)

last_low : (g : ℕ → ℕ) (m : ℕ) → ((l : ℕ) → g l ≤ 65535) → Low m (last g m)
unfolding last
last_low g zero b = hit_low (g 0) 0 0 0 none (b 0) (omega arith) (omega arith) tt
last_low g (suc m) b = hit_low (g (suc m)) (suc m) m (suc m) (last g m) (b (suc m)) (omega arith) (omega arith) (last_low g m b)

hop_low : (rs : List Route) (k : ℕ) → All (IsRoute 32) rs → hop_at rs k ≤ 65535
hop_low [] k p = omega arith
hop_low (r ∷ rs) k p = same (key r) k (λ q e. rw e p.0.low) (λ q e. rw e (hop_low rs k p.1))

-- and its number tells it
pub code_back : (x : Match) → Low 32 x → answered (hit (code x)) ≡ gives x
code_back none w = refl
code_back (found h l) w =
    let a : (h * 256 + l) / 256 ≡ h = omega arith in
    let b : (h * 256 + l) % 256 ≡ l = omega arith in
    rw (
      ne_eqb (h * 256 + l) 0 (λ q. omega arith),
      le-ltb (h * 256 + l) 256 (omega arith),
      lt-leb 16777216 (h * 256 + l) (omega arith),
      le-ltb 32 ((h * 256 + l) % 256) (omega arith),
      a,
      b,
    )

-- ---- the walk on them

module _ (rs : List Route) (ws : List ℕ) (l : IsList 32 rs) (c : Laid rs ws) (a : ℕ) (h : a < 4294967296) where
  pub laid_look : (m v : ℕ) → 1 ≤ m → m ≤ 32 → look ws m v ≡ cond (mem v (entries m rs)) (hit (best_at rs m v)) miss
  unfolding look
  laid_look m v i j =
      let t = c.tables m i j in
      rw (le-leb (begin_of ws m + 8 * size_of ws m) (length ws) (omega (arith, t.ends, c.long))) (t.finds v)

  pub longest-low : Low 32 (longest 32 a rs)
  longest-low = rw (longest_last 32 a (omega arith) rs (wfs 32 rs l.routes))
      (last_low (along 32 a (omega arith) rs) 32 (λ k. hop_low rs _ l.routes))

-- ---- what a table hangs on

-- U has the places of T
probe_same : (T U : Places) (p v : ℕ) → ((i : ℕ) → i < p → U.taken i ≡ T.taken i)
    → ((i : ℕ) → i < p → U.value i ≡ T.value i) → ((i : ℕ) → i < p → U.best i ≡ T.best i)
    → (n d : ℕ) → d + n ≤ p → probe U p v n d ≡ probe T p v n d
unfolding probe
probe_same T U p v t k b zero d h = refl
probe_same T U p v t k b (suc n) d h =
    let j = place_lt (start v p) p d (start_lt v p (omega arith)) (omega arith) in
    rw (t _ j, k _ j, b _ j, probe_same T U p v t k b n (d + 1) (omega arith))

-- its own numbers in the header, and the words between the header and `to`
module _ (rs : List Route) (ws us : List ℕ) (to m : ℕ) (h : (i : ℕ) → 2 * m ≤ i → i < 2 * m + 2 → get_or us i 0 ≡ get_or ws i 0)
    (w : (i : ℕ) → header_words ≤ i → i < to → get_or us i 0 ≡ get_or ws i 0) (t : Table rs ws to m) where
  abbrev o : ℕ
  o = begin_of ws m

  abbrev p : ℕ
  p = 4 * size_of ws m

  begin_same : begin_of us m ≡ o
  begin_same = ap (λ (x : ℕ). header_words + 8 * x) (h (2 * m) (omega arith) (omega arith))

  size_same : size_of us m ≡ size_of ws m
  size_same = h (2 * m + 1) (omega arith) (omega arith)

  keys_same : (i : ℕ) → i < p → get_or us (o + i) 0 ≡ get_or ws (o + i) 0
  keys_same i l = w _ (omega arith) (omega (arith, t.ends))

  bests_same : (i : ℕ) → i < p → get_or us (o + i + p) 0 ≡ get_or ws (o + i + p) 0
  bests_same i l = w _ (omega arith) (omega (arith, t.ends))

  pub table_same : Table rs us to m
  table_same = record {
    ends = rw (begin_same, size_same) t.ends;
    finds = λ v. rw (begin_same, size_same) (probe_same (places_of ws m o p) (places_of us m o p) p v
        (λ i l. rw (keys_same i l, bests_same i l)) (λ i l. rw (keys_same i l)) bests_same p 0 (omega arith) ∙ t.finds v);
  }

-- whatever stands past the words that the list needs
pub laid_front : (rs : List Route) (ws us : List ℕ) → words_for rs ≤ length us
    → ((i : ℕ) → i < words_for rs → get_or us i 0 ≡ get_or ws i 0) → Laid rs ws → Laid rs us
laid_front rs ws us h w c = record {
  long = h;
  default = w 0 (omega arith) ∙ c.default;
  tables = λ m a b. table_same rs ws us (words_for rs) m (λ i p q. w i (omega arith)) (λ i p q. w i q) (c.tables m a b);
}
