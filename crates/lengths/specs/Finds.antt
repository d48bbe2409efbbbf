-- The theorem that carries the search by lengths: where each held length has its entry, and its way turns longer at entries only,
-- the search finds the longest match. Assumes nothing.
use Rattle.std.specs.Prelude.{◌≡◌, refl, ◌≢◌, Bool, true, false, cond, eqb}
use Rattle.std.proofs.Common.{sym, ◌∙◌, true≢false, arith, lt-ltb, le-ltb, eq-eqb}
use Prim.Native.Nat.{ℕ, zero, suc, ◌+◌, ◌-◌, ◌^◌, ◌≤◌, ◌<◌}
use Rattle.std.proofs.Math.Nat.{pow-succ'}
use Rattle.std.proofs.Math.Pow.{pow_pos}
use Rattle.routes.specs.Room.{mem}
use Rattle.logic.specs.Cases.{bool, same, less}
use Rattle.logic.specs.Bools.{or_left, or_right}
use Rattle.routes.specs.Match.{last}
use Rattle.laws.specs.Longest.{last_past}
use Rattle.lengths.specs.Way.{Look, miss, hit, after, search, turns, turns_at, best}

-- ---- where the way turns longer

turn_here : (n m L : ℕ) → m < L → mem m (turns n m L) ≡ true
unfolding turns
turn_here zero m L h = rw (lt-ltb m L h) (or_left (eqb m m) false (eq-eqb m m refl))
turn_here (suc n) m L h = rw (lt-ltb m L h) (or_left (eqb m m) (mem m (turns n (m + 2 ^ n) L)) (eq-eqb m m refl))

turn_up : (n m L x : ℕ) → m < L → mem x (turns n (m + 2 ^ n) L) ≡ true → mem x (turns (suc n) m L) ≡ true
unfolding turns
turn_up n m L x h e = rw (lt-ltb m L h) (or_right (eqb m x) (mem x (turns n (m + 2 ^ n) L)) e)

turn-down : (n m L x : ℕ) → L < m → mem x (turns n (m - 2 ^ n) L) ≡ true → mem x (turns (suc n) m L) ≡ true
unfolding turns
turn-down n m L x h e = rw (le-ltb m L (omega arith), lt-ltb L m h) e

-- ---- the search

-- each look tells whether there is an entry, and an entry carries its best match
pub record Looks (look : ℕ → Look) (E : ℕ → Bool) (g : ℕ → ℕ) : Type 0 where
  pub at : (m : ℕ) → 1 ≤ m → m ≤ 32 → look m ≡ cond (E m) (hit (best g m)) miss

-- a held length has its entry, and entries where the way to it turns longer
pub record Marked (E : ℕ → Bool) (g : ℕ → ℕ) : Type 0 where
  pub own : (L : ℕ) → 1 ≤ L → L ≤ 32 → g L ≢ 0 → E L ≡ true
  pub way : (L x : ℕ) → 1 ≤ L → L ≤ 32 → g L ≢ 0 → turns_at x L ≡ true → E x ≡ true

module _ (look : ℕ → Look) (E : ℕ → Bool) (g : ℕ → ℕ) (looks : Looks look E g)
    (own : (L : ℕ) → 1 ≤ L → L ≤ 32 → g L ≢ 0 → E L ≡ true) where
  -- nothing is held from hi on, 32 aside if hi is 32; and the lengths between lo and hi have their entries
  pub record Node (n m lo hi : ℕ) : Type 0 where
    pub low : lo + 2 ^ n ≡ m
    pub high : m + 2 ^ n ≡ hi
    pub top : hi ≤ 32
    pub above : (L : ℕ) → hi ≤ L → L ≤ 32 → hi ≢ 32 → g L ≡ 0
    pub ways : (L x : ℕ) → lo < L → L ≤ 32 → g L ≢ 0 → mem x (turns n m L) ≡ true → E x ≡ true

  hit_at : (m : ℕ) → 1 ≤ m → m ≤ 32 → E m ≡ true → look m ≡ hit (best g m)
  hit_at m a b e = looks.at m a b ∙ rw e

  miss_at : (m : ℕ) → 1 ≤ m → m ≤ 32 → E m ≡ false → look m ≡ miss
  miss_at m a b e = looks.at m a b ∙ rw e

  none_at : (L x : ℕ) → E x ≡ false → (g L ≢ 0 → E x ≡ true) → g L ≡ 0
  none_at L x e f = same (g L) 0 (λ q _. q) (λ n _. absurd (true≢false (sym (f n) ∙ e)))

  -- a miss at m: nothing is held from m on, as m has no entry
  missed : (n m lo hi : ℕ) → Node n m lo hi → 1 ≤ m → E m ≡ false → (L : ℕ) → m ≤ L → L ≤ 32 → g L ≡ 0
  missed n m lo hi w h e L a b =
      same m L
      (λ q _. rw (← q) (none_at m m e (λ z. own m h (omega (arith, w.top, w.high)) z)))
      (λ q _. none_at L m e (λ z. w.ways L m (omega (arith, w.low)) b z (turn_here n m L (omega arith))))

  longer : (n m lo hi : ℕ) → Node (suc n) m lo hi → Node n (m + 2 ^ n) m hi
  longer n m lo hi w = record {
    low = refl;
    high = omega (arith, w.high, pow-succ' 2 n);
    top = w.top;
    above = w.above;
    ways = λ L x h k z e. w.ways L x (omega (arith, w.low)) k z (turn_up n m L x h e);
  }

  shorter : (n m lo hi : ℕ) → Node (suc n) m lo hi → 1 ≤ m → E m ≡ false → Node n (m - 2 ^ n) lo m
  shorter n m lo hi w h e = record {
    low = omega (arith, w.low, pow-succ' 2 n);
    high = omega (arith, w.low, pow-succ' 2 n);
    top = omega (arith, w.high, w.top);
    above = λ L a b _. missed (suc n) m lo hi w h e L a b;
    ways = λ L x a b z t. less L m
        (λ u _. w.ways L x a b z (turn-down n m L x u t))
        (λ u _. absurd (z (missed (suc n) m lo hi w h e L u b)));
  }

  -- at height 0 only m itself is left, or 31 and 32
  end_hit : (m lo hi : ℕ) → Node 0 m lo hi → E m ≡ true → 1 ≤ m → m ≢ 31 → last g 32 ≡ last g m
  end_hit m lo hi w e h n =
      last_past g m 32 (omega (arith, w.high, w.top))
      (λ L a b. w.above L (omega (arith, w.high)) b (λ q. omega (arith, w.high)))

  end_miss : (m lo hi : ℕ) → Node 0 m lo hi → 1 ≤ m → E m ≡ false → last g 32 ≡ last g lo
  end_miss m lo hi w h e =
      last_past g lo 32 (omega (arith, w.low, w.high, w.top)) (λ L a b. missed 0 m lo hi w h e L (omega (arith, w.low)) b)

  end_32 : E 32 ≡ false → last g 32 ≡ last g 31
  end_32 e = last_past g 31 32 (omega arith)
      (λ L a b. (let q : L ≡ 32 = omega arith in rw q (none_at 32 32 e (λ z. own 32 (omega arith) (omega arith) z))))

  try_32 : after (look 32) (hit (best g 31)) (λ c. hit c) ≡ hit (best g 32)
  try_32 = bool (E 32)
      (λ e. rw (hit_at 32 (omega arith) (omega arith) e))
      (λ e. rw (miss_at 32 (omega arith) (omega arith) e, end_32 e))

  pub finds : (n m lo hi : ℕ) → Node n m lo hi → search look n m (best g lo) ≡ hit (best g 32)
  unfolding search
  finds zero m lo hi w =
      let a : 1 ≤ m = omega (arith, w.low) in
      let b : m ≤ 32 = omega (arith, w.high, w.top) in
      bool (E m)
      (λ e. rw (hit_at m a b e) (same m 31
      (λ q d. rw (d, q) try_32)
      (λ q d. rw (d, end_hit m lo hi w e a q))))
      (λ e. rw (miss_at m a b e, end_miss m lo hi w a e))
  finds (suc n) m lo hi w =
      let a : 1 ≤ m = omega (arith, w.low, pow_pos (suc n)) in
      let b : m ≤ 32 = omega (arith, w.high, w.top) in
      bool (E m)
      (λ e. rw (hit_at m a b e) (finds n (m + 2 ^ n) m hi (longer n m lo hi w)))
      (λ e. rw (miss_at m a b e) (finds n (m - 2 ^ n) lo m (shorter n m lo hi w a e)))
