-- How many entries the lengths can have: of m bits there are 2 ^ m numbers, so the lengths up to m have fewer than 2 ^ (m + 1)
-- together. Assumes nothing.
use Rattle.std.specs.Prelude.{◌≡◌, true, List, [], ◌∷◌, ℕ, zero, suc, ◌+◌, ◌-◌, ◌/◌, ◌^◌, ◌≤◌, ◌<◌, eqb}
use Rattle.std.proofs.lemmas.Bool.{false≢true}
use Rattle.std.proofs.Common.{le_trans, arith, shr_lt, eqb-true}
use Rattle.std.proofs.Math.Nat.{pow-succ'}
use Rattle.routes.specs.Route.{Route}
use Rattle.routes.specs.Room.{mem, distinct}
use Rattle.logic.specs.Cases.{bool, same}
use Rattle.logic.specs.Bools.{or_left, or_right, or_case}
use Rattle.laws.specs.Longest.{Wfs}
use Rattle.laws.specs.Room.{distinct_le}
use Rattle.lengths.specs.Marks.{is_entry, entries}
use Rattle.lengths.specs.Entries.{entries_to}

-- ---- the numbers below n

unfoldable below : ℕ → List ℕ
below zero = []
below (suc n) = n ∷ below n

below-has : (n z : ℕ) → z < n → mem z (below n) ≡ true
unfolding below
below-has zero z h = absurd (omega arith)
below-has (suc n) z h =
    same n z
    (λ q e. or_left (eqb n z) (mem z (below n)) e)
    (λ q e. or_right (eqb n z) (mem z (below n)) (below-has n z (omega arith)))

below-count : (n : ℕ) → distinct (below n) ≤ n
unfolding below
below-count zero = omega arith
below-count (suc n) =
    let ih = below-count n in
    bool (mem n (below n)) (λ e. rw e (omega arith)) (λ e. rw e (omega arith))

few_below : (n : ℕ) (xs : List ℕ) → ((z : ℕ) → mem z xs ≡ true → z < n) → distinct xs ≤ n
few_below n xs f = le_trans (distinct_le xs (below n) (λ z e. below-has n z (f z e))) (below-count n)

-- ---- the entries of a length, and of all up to it

head_low : (m z : ℕ) (rs : List Route) → m ≤ 32 → Wfs 32 rs → mem z (entries m rs) ≡ true → z < 2 ^ m
head_low m z [] h w e = absurd (false≢true e)
head_low m z (r ∷ rs) h w e =
    bool (is_entry m r.len)
    (λ d. or_case (eqb (r.addr / 2 ^ (32 - m)) z) (mem z (entries m rs)) (rw d at e)
    (λ q. rw (← (eqb-true (r.addr / 2 ^ (32 - m)) z q)) first)
    (λ t. head_low m z rs h w.1 t))
    (λ d. head_low m z rs h w.1 (rw d at e))
  where
    first : r.addr / 2 ^ (32 - m) < 2 ^ m
    first = let s : m + (32 - m) ≡ 32 = omega arith in shr_lt m (32 - m) (rw s w.0.inside)

pub few_entries : (m : ℕ) (rs : List Route) → m ≤ 32 → Wfs 32 rs → distinct (entries m rs) ≤ 2 ^ m
few_entries m rs h w = few_below (2 ^ m) (entries m rs) (λ z e. head_low m z rs h w e)

pub few_upto : (m : ℕ) (rs : List Route) → m ≤ 32 → Wfs 32 rs → entries_to m rs + 2 ≤ 2 ^ suc m
unfolding entries_to
few_upto zero rs h w = omega arith
few_upto (suc m) rs h w =
    omega (arith, few_upto m rs (omega arith) w, few_entries (suc m) rs h w, pow-succ' 2 (suc m))
