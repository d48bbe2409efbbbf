-- What lies inside a prefix, of lists put together: all of them, none, or a part. Assumes nothing.
use Rattle.std.specs.Prelude.{◌≡◌, Bool, true, false, ◌&&◌, ℕ, ◌+◌, ◌-◌, ◌*◌, ◌/◌, ◌^◌, ◌≤◌, ◌<◌, leb, eqb, length}
use Rattle.std.proofs.Math.Path.{refl}
use mathlib.Core.List.{List, [], ◌∷◌, ◌++◌}
use Rattle.std.proofs.Math.Nat.{div-eq_of_lt-le, lt-div-mul-add}
use Rattle.std.proofs.Common.{mul-div_cancel, div-add-mod', pow_pos, le-leb, eq-eqb, ne_eqb}
use native.Mathlib.Omega.{arith}
use Rattle.logic.specs.Cases.{bool}
use Rattle.logic.specs.Reflects.{Reflects, reflects_le, reflects_eq, reflects_and}
use Rattle.routes.specs.Route.{Route, All}
use Rattle.laws.specs.Longest.{Wfs}
use Rattle.inside.specs.Inside.{lies, inside}
use Rattle.inside.specs.Held.{ends, apart}

module _ (W l e v : ℕ) (bits : l + e ≡ W) (r : Route) where
  pub is_before : r.addr < v * 2 ^ e → lies W (v * 2 ^ e) l r ≡ false
  is_before h = (apart W l e v bits r) (λ q. omega (arith, ((ends W l e v bits r) q).0))

  pub is_after : (v + 1) * 2 ^ e ≤ r.addr → lies W (v * 2 ^ e) l r ≡ false
  is_after h = (apart W l e v bits r) (λ q. omega (arith, ((ends W l e v bits r) q).1))
