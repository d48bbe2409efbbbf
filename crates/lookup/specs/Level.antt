-- One level of the longest match: the best of a cell stands for the last hop held among the lengths of its array. Assumes
-- nothing.
use Rattle.std.specs.Prelude.{◌≡◌, refl, false, cond, ℕ, zero, suc, ◌+◌, ◌*◌, ◌/◌, ◌%◌, ◌^◌, ◌≤◌, ◌<◌, ltb, eqb}
use Rattle.std.proofs.Math.Nat.{pow-succ'}
use Rattle.std.proofs.Common.{arith, pow_pos, ne_eqb, le-ltb}
use Rattle.sizes.specs.Sizes.{slot_end, cell_count, cell_slots, hop_bound}
use Rattle.routes.specs.Match.{Match, none, or_shorter, last}
use Rattle.array.specs.Page.{best_of}
use Rattle.array.specs.Best.{best_parts, halved}
use Rattle.lookup.specs.Walk.{deeper}

-- ---- the length of a cell's best is in its range

pub best-inside : (f : ℕ → ℕ) → ((s : ℕ) → 1 ≤ s → s < slot_end → f s < hop_bound) → (i : ℕ) → i < cell_count
    → ltb 8 (best_of f (cell_slots + i) 8 / hop_bound) ≡ false
best-inside f hops i b =
    let h = best_parts f hops (cell_slots + i) 8 (omega arith) (omega arith) in
    le-ltb 8 (best_of f (cell_slots + i) 8 / hop_bound) (omega (arith, h))

-- ---- the lengths of one array

-- one length more
hit_deeper : (h base d : ℕ) (m : Match) (b : ℕ) → h < hop_bound
    → or_shorter h (base + d) (deeper base m b) ≡ deeper base m (cond (eqb h 0) b (d * hop_bound + h))
hit_deeper zero base d m b w = refl
hit_deeper (suc h) base d m b w =
    let p : (d * hop_bound + suc h) % hop_bound ≡ suc h = omega arith in
    let q : (d * hop_bound + suc h) / hop_bound ≡ d = omega arith in
    rw (ne_eqb (suc h) 0 (λ e. omega arith), p, q, ne_eqb (suc h) 0 (λ e. omega arith))

-- g is the hop of each length along an address, f the slots of the array whose lengths are base + 1 .. base + d, s the slot of
-- the last one
pub level_last : (g f : ℕ → ℕ) → ((s : ℕ) → 1 ≤ s → s < slot_end → f s < hop_bound) → (base : ℕ) (m : Match) (d s : ℕ) → 2 ^ d ≤ s
    → s < slot_end
    → last g base ≡ deeper base m (best_of f (s / 2 ^ d) 0) → ((j e : ℕ) → e + j ≡ d → 1 ≤ j → g (base + j) ≡ f (s / 2 ^ e))
    → last g (base + d) ≡ deeper base m (best_of f s d)
unfolding last best_of
level_last g f hops base m zero s l b start along =
    let e : base + 0 ≡ base = omega arith in
    let q : s / 1 ≡ s = omega arith in
    rw e (rw q at start)
level_last g f hops base m (suc d) s l b start along =
    let e : base + suc d ≡ suc (base + d) = omega arith in
    let q : s / 1 ≡ s = omega arith in
    let here : g (suc (base + d)) ≡ f s = rw (e, q) at (along (suc d) 0 (omega arith) (omega arith)) in
    let above = level_last g f hops base m d (s / 2) (omega (arith, l, pow-succ' 2 d)) (omega arith) (rw (halved s d) start)
    (λ j k p h. rw (halved s k) (along j (suc k) (omega arith) h)) in
    rw (e, here, above, ← e)
    (hit_deeper (f s) base (suc d) m (best_of f (s / 2) d) (hops s (omega (arith, l, pow_pos (suc d))) b))

-- the last hop above level k, whose lengths begin past 8 * k
abbrev pub up_to : (ℕ → ℕ) → ℕ → Match
up_to g zero = none
up_to g (suc k) = last g (8 * suc k)

-- length 0 is the root's, and no other array has it
pub level_first : (g f : ℕ → ℕ) (k : ℕ) → f 1 < hop_bound → (k ≡ 0 → g 0 ≡ f 1) → (1 ≤ k → f 1 ≡ 0)
    → last g (8 * k) ≡ deeper (8 * k) (up_to g k) (best_of f 1 0)
unfolding last best_of
level_first g f zero small root below = rw (root refl) (first (f 1) small)
  where
    first : (h : ℕ) → h < hop_bound → or_shorter h 0 none ≡ deeper 0 none h
    first zero b = refl
    first (suc h) b =
        let p : suc h % hop_bound ≡ suc h = omega arith in
        let q : suc h / hop_bound ≡ 0 = omega arith in
        rw (p, q, ne_eqb (suc h) 0 (λ e. omega arith))
level_first g f (suc k) small root below = rw (below (omega arith))
