-- The lengths whose way turns longer at m: those after m, up to its reach. So the entries of a length are the heads of the routes
-- between two lengths. Assumes nothing.
--
--     m         1  2  3  4  5  6  7  8 .. 16 .. 24 .. 28 .. 30  31
--     reach     1  3  3  7  5  7  7 15    32    32    32    32  32
use Rattle.std.specs.Prelude.{◌≡◌, refl, ◌≢◌, Bool, true, false, cond, not, List, ℕ, zero, suc, ◌+◌, ◌-◌, ◌%◌, ◌≤◌, eqb}
use Rattle.std.proofs.Common.{sym, arith, eq-eqb, ne_eqb}
use Rattle.routes.specs.Route.{Route}
use Rattle.logic.specs.Bools.{not_true}
use Rattle.logic.specs.Every.{all_b}
use Rattle.logic.specs.Reflects.{all_to_lem}
use Rattle.laws.specs.Longest.{Wfs}
use Rattle.listing.specs.Heads.{picks, between, picks_same}
use Rattle.lengths.specs.Way.{turns, turns_at}
use Rattle.lengths.specs.Marks.{is_entry, entries}

-- how far m stands from the next lengths that were looked at before it: the largest power of 2 in it, 16 at most
unfoldable pub stride : ℕ → ℕ
stride m = cond (eqb (m % 2) 0) (cond (eqb (m % 4) 0) (cond (eqb (m % 8) 0) (cond (eqb (m % 16) 0) 16 8) 4) 2) 1

-- the length before the next one, or 32
abbrev pub reach : ℕ → ℕ
reach m = cond (eqb (m + stride m) 32) 32 (m + stride m - 1)

pub reach_last : (m s : ℕ) → s ≡ stride m → m + s ≡ 32 → 32 ≡ reach m
reach_last m s e q = rw (← e, eq-eqb (m + s) 32 q)

pub reach-before : (m s : ℕ) → s ≡ stride m → m + s ≢ 32 → m + s - 1 ≡ reach m
reach-before m s e q = rw (← e, ne_eqb (m + s) 32 q)

-- ---- of all lengths, by computation

abbrev alike : Bool → Bool → Bool
alike true b = b
alike false b = not b

alike_same : (a b : Bool) → alike a b ≡ true → a ≡ b
alike_same true true e = refl
alike_same true false e = sym e
alike_same false b e = rw (not_true b e)

-- at every length from 1 to 32 two tests agree on the lengths from 0 to 32
abbrev everywhere : (ℕ → ℕ → Bool) → (ℕ → ℕ → Bool) → Bool
everywhere P Q = all_b (λ m. all_b (λ l. alike (P (suc m) l) (Q (suc m) l)) 33) 32

every : (P Q : ℕ → ℕ → Bool) → everywhere P Q ≡ true → (m l : ℕ) → 1 ≤ m → m ≤ 32 → l ≤ 32 → P m l ≡ Q m l
every P Q e zero l h k j = absurd (omega arith)
every P Q e (suc m) l h k j =
    alike_same (P (suc m) l) (Q (suc m) l)
    (all_to_lem _ 33 (all_to_lem (λ m. all_b (λ l. alike (P (suc m) l) (Q (suc m) l)) 33) 32 e m (omega arith)) l (omega arith))

pub turns-reach : (m l : ℕ) → 1 ≤ m → m ≤ 32 → l ≤ 32 → turns_at m l ≡ between (m + 1) (reach m) l
unfolding turns all_b stride
turns-reach = every turns_at (λ m l. between (m + 1) (reach m) l) refl

entry-reach : (m l : ℕ) → 1 ≤ m → m ≤ 32 → l ≤ 32 → is_entry m l ≡ between m (reach m) l
unfolding turns all_b stride
entry-reach = every is_entry (λ m l. between m (reach m) l) refl

-- ---- of a list

pub entries-reach : (m : ℕ) (rs : List Route) → 1 ≤ m → m ≤ 32 → Wfs 32 rs → entries m rs ≡ picks (between m (reach m)) m rs
entries-reach m rs h k w = picks_same (is_entry m) (between m (reach m)) m rs (λ l j. entry-reach m l h k j) w
