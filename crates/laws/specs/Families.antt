-- What the two families have in common: the laws above need no more of a family than this. Assumes nothing.
use Rattle.std.specs.Prelude.{◌≡◌, refl, Bool, true, false, cond, ℕ, ◌≤◌, ◌<◌, eqb}
use Rattle.std.proofs.Common.{arith}
use Rattle.logic.specs.Cases.{same}
use Rattle.routes.specs.Family.{Family, v4, v6, levels, width, Role, ending, announcing, withdrawing, looking, announcing_for}
use Rattle.routes.specs.Family.{withdrawing_for, unknown, kind_of, role_of}

pub levels_some : (F : Family) → 1 ≤ levels F
levels_some v4 = omega arith
levels_some v6 = omega arith

pub levels_few : (F : Family) → levels F ≤ 16
levels_few v4 = omega arith
levels_few v6 = omega arith

-- lengths fit a byte
pub width_low : (F : Family) → width F < 256
width_low F = omega (arith, levels_few F)

-- a kind that is a byte is that of one role only
pub role_back : (F : Family) (r : Role) → kind_of F r < 256 → role_of F (kind_of F r) ≡ r
role_back F ending h = refl
role_back v4 announcing h = refl
role_back v4 withdrawing h = refl
role_back v4 looking h = refl
role_back v4 announcing_for h = refl
role_back v4 withdrawing_for h = refl
role_back v6 announcing h = absurd (omega arith)
role_back v6 withdrawing h = absurd (omega arith)
role_back v6 looking h = refl
role_back v6 announcing_for h = refl
role_back v6 withdrawing_for h = refl
role_back F unknown h = absurd (omega arith)

-- an end is kind 0
pub end_kind : (F : Family) (k : ℕ) → role_of F k ≡ ending → k ≡ 0
end_kind F k e =
    same k 0 (λ z _. z) (λ _ z.
    absurd (others (eqb k (kind_of F announcing)) (eqb k (kind_of F withdrawing)) (eqb k (kind_of F looking))
    (eqb k (kind_of F announcing_for)) (eqb k (kind_of F withdrawing_for)) (rw z at e)))
  where
    others : (a b c d f : Bool)
        → cond a announcing (cond b withdrawing (cond c looking (cond d announcing_for (cond f withdrawing_for unknown))))
        ≡ ending
        → ⊥
    others true b c d f e = let z : ◌≡◌ {A = ℕ} 0 1 = cc in omega arith
    others false true c d f e = let z : ◌≡◌ {A = ℕ} 0 1 = cc in omega arith
    others false false true d f e = let z : ◌≡◌ {A = ℕ} 0 1 = cc in omega arith
    others false false false true f e = let z : ◌≡◌ {A = ℕ} 0 1 = cc in omega arith
    others false false false false true e = let z : ◌≡◌ {A = ℕ} 0 1 = cc in omega arith
    others false false false false false e = let z : ◌≡◌ {A = ℕ} 0 1 = cc in omega arith
