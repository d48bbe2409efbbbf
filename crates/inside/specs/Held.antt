-- What lies inside a prefix, of lists put together: all of them, none, or a part. Assumes nothing.
use Rattle.std.specs.Prelude.{◌≡◌, Bool, true, false, ◌&&◌, ℕ, ◌+◌, ◌-◌, ◌*◌, ◌/◌, ◌^◌, ◌≤◌, ◌<◌, leb, eqb, length}
use Rattle.std.proofs.Math.Path.{refl}
use mathlib.Core.List.{List, [], ◌∷◌, ◌++◌}
use Rattle.std.proofs.Math.Nat.{div-eq_of_lt-le, lt-div-mul-add}
use Rattle.std.proofs.Common.{mul-div_cancel, div-add-mod', pow_pos, le-leb, eq-eqb, ne_eqb}
use native.Mathlib.Omega.{arith}
use Rattle.logic.specs.Cases.{bool}
use Rattle.logic.specs.Reflects.{Reflects, reflects_le, reflects_eq, reflects_and}
use Rattle.routes.specs.Route.{Route, All}
use Rattle.laws.specs.Longest.{Wfs}
use Rattle.inside.specs.Inside.{lies, inside}

-- what the test says
pub lies_reflects : (W a l : ℕ) (r : Route)
    → Reflects (lies W a l r) ((l ≤ r.len) × (r.addr / 2 ^ (W - l) ≡ a / 2 ^ (W - l)))
lies_reflects W a l r = reflects_and (reflects_le l r.len) (reflects_eq (r.addr / 2 ^ (W - l)) (a / 2 ^ (W - l)))

module _ (W a l : ℕ) where
  pub inside-append : (xs ys : List Route) → inside W (xs ++ ys) a l ≡ inside W xs a l + inside W ys a l
  unfolding inside
  inside-append [] ys = omega arith
  inside-append (x ∷ xs) ys = rw (inside-append xs ys) (omega arith)

  pub inside_all : (rs : List Route) → All (λ r. lies W a l r ≡ true) rs → inside W rs a l ≡ length rs
  unfolding inside
  inside_all [] p = refl
  inside_all (r ∷ rs) p = rw (p.0, inside_all rs p.1) (omega arith)

  pub inside_none : (rs : List Route) → All (λ r. lies W a l r ≡ false) rs → inside W rs a l ≡ 0
  unfolding inside
  inside_none [] p = refl
  inside_none (r ∷ rs) p = rw (p.0, inside_none rs p.1)

  pub inside_most : (rs : List Route) → inside W rs a l ≤ length rs
  unfolding inside
  inside_most [] = omega arith
  inside_most (r ∷ rs) =
      bool (lies W a l r) (λ e. rw e (omega (arith, inside_most rs))) (λ e. rw e (omega (arith, inside_most rs)))

-- inside 0.0.0.0/0 lies all
pub inside_whole : (W : ℕ) (rs : List Route) → Wfs W rs → inside W rs 0 0 ≡ length rs
unfolding inside
inside_whole W [] p = refl
inside_whole W (r ∷ rs) p =
    let e : r.addr / 2 ^ W ≡ 0 = div-eq_of_lt-le (2 ^ W) (omega arith) (omega (arith, p.0.inside)) in
    let f : 0 / 2 ^ W ≡ 0 = div-eq_of_lt-le (2 ^ W) (omega arith) (omega (arith, pow_pos W)) in
    let z : W - 0 ≡ W = omega arith in
    rw (z, le-leb 0 r.len (omega arith), e, f, inside_whole W rs p.1) (omega arith)

-- ---- of the e bits below the prefix v of l bits

false_right : (b c : Bool) → c ≡ false → (b && c) ≡ false
false_right true c q = q
false_right false c q = refl

module _ (W l e v : ℕ) (bits : l + e ≡ W) (r : Route) where
  rest : W - l ≡ e
  rest = omega arith

  pub is_inside : l ≤ r.len → v * 2 ^ e ≤ r.addr → r.addr < (v + 1) * 2 ^ e → lies W (v * 2 ^ e) l r ≡ true
  is_inside s lo hi =
      let p : r.addr / 2 ^ e ≡ v = div-eq_of_lt-le (2 ^ e) lo hi in
      rw (rest, le-leb l r.len s, p, mul-div_cancel v (pow_pos e)) (eq-eqb v v refl)

  pub ends : r.addr / 2 ^ e ≡ v → (v * 2 ^ e ≤ r.addr) × (r.addr < (v + 1) * 2 ^ e)
  ends q =
      let m = div-add-mod' r.addr (2 ^ e) in
      let n = lt-div-mul-add {a = r.addr} {b = 2 ^ e} (pow_pos e) in
      (omega (arith, rw q at m), omega (arith, rw q at n))

  pub apart : (r.addr / 2 ^ e ≡ v → ⊥) → lies W (v * 2 ^ e) l r ≡ false
  apart n =
      rw (rest, mul-div_cancel v (pow_pos e))
      (false_right (leb l r.len) (eqb (r.addr / 2 ^ e) v) (ne_eqb (r.addr / 2 ^ e) v n))
