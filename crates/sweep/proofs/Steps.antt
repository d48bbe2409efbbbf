-- The steps on sets of hops, over plain variables. Assumes nothing.
use Rattle.std.specs.Prelude.{Option, Some, None, MatchOption}
use Rattle.logic.specs.Nonzero.{nonzero, nonzero_some, nonzero_none}
use mathlib.Core.Path.{◌≡◌, refl, sym, ◌∙◌}
use mathlib.Core.Logic.{◌≢◌}
use mathlib.Core.Bool.{true, false}
use mathlib.Core.List.{List}
use Prim.Native.Nat.{ℕ, zero, suc, ◌+◌, ◌-◌, ◌/◌, ◌%◌, ◌^◌, ◌≤◌, ◌<◌}
use native.Mathlib.Omega.{arith}
use lib.Count.{count_trailing_zeros, trailing_le}
use borrow.Author.Tests.{eq-eqb, ne_eqb}
use Rattle.logic.specs.Cases.{bool}
use Rattle.words.specs.Half.{half_of}
use Rattle.shortest.specs.HopSet.{has, has_zero, has_shr, has_bound}
use Rattle.shortest.specs.Chosen.{pick}
use Rattle.sweep.specs.Walk.{low_of}

-- ---- choose

pub lowest_le : (m : ℕ) → count_trailing_zeros 32 m + 1 ≤ 33
lowest_le m = omega (arith, trailing_le 32 m)

lowest-pick : (m h : ℕ) → has m h ≡ false → (count_trailing_zeros 32 m + 1 ≡ pick 32 m h) × (count_trailing_zeros 32 m + 1 ≤ 33)
lowest-pick m h e = (rw e (omega arith), lowest_le m)

pub choose_none : (m h : ℕ) → h ≡ 0 → (count_trailing_zeros 32 m + 1 ≡ pick 32 m h) × (count_trailing_zeros 32 m + 1 ≤ 33)
choose_none m h e = lowest-pick m h (rw e (has_zero m))

pub choose_over : (m h : ℕ) → m < 2 ^ 32 → h ≡ 33
    → (count_trailing_zeros 32 m + 1 ≡ pick 32 m h) × (count_trailing_zeros 32 m + 1 ≤ 33)
choose_over m h b e = bool (has m h) (λ t. absurd (omega (arith, (has_bound 32 m h b t).1))) (λ t. lowest-pick m h t)

pub choose_kept : (m h : ℕ) → h ≢ 0 → m / 2 ^ (h - 1) % 2 ≡ 1 → (◌≡◌ {A = ℕ} 0 (pick 32 m h)) × (0 ≤ 33)
choose_kept m h n e =
    let t : has m h ≡ true = has_shr m h (omega arith) ∙ eq-eqb (m / 2 ^ (h - 1) % 2) 1 e in
    (rw t, omega arith)

pub choose_lowest : (m h : ℕ) → h ≢ 0 → m / 2 ^ (h - 1) % 2 ≢ 1
    → (count_trailing_zeros 32 m + 1 ≡ pick 32 m h) × (count_trailing_zeros 32 m + 1 ≤ 33)
choose_lowest m h n e = lowest-pick m h (has_shr m h (omega arith) ∙ ne_eqb (m / 2 ^ (h - 1) % 2) 1 e)

-- ---- lower

pub lower_half : (ws : List ℕ) (bits p : ℕ) (r : Option ℕ) → bits ≢ 0 → r ≡ nonzero (half_of ws p)
    → MatchOption r (low_of ws bits p ≡ 0) (λ low. (low ≡ low_of ws bits p) × (low ≢ 0))
lower_half ws zero p r n e = absurd (n refl)
lower_half ws (suc d) p None n e = nonzero_none (half_of ws p) (sym e)
lower_half ws (suc d) p (Some x) n e =
    let k = nonzero_some (half_of ws p) x (sym e) in (sym k.0, λ z. k.1 (k.0 ∙ z))
