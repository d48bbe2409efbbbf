-- What the returns of `address` ask, over plain numbers and lists. Assumes nothing.
use mathlib.Core.Path.{◌≡◌, refl, sym, ap, ap₂, ◌∙◌}
use mathlib.Core.Logic.{◌≢◌}
use mathlib.Core.Bool.{Bool, true, false, not}
use mathlib.Core.List.{List, [], ◌∷◌}
use Rattle.std.specs.List.{list_any}
use Prim.Native.Nat.{ℕ, ◌+◌, ◌-◌, ◌*◌, ◌/◌, ◌%◌, ◌^◌, ◌≤◌, ◌<◌}
use native.Mathlib.Nat.{zero-mul, mul-le-mul_right}
use native.Mathlib.Omega.{arith}
use lib.Dec.{eqb}
use lib.ListN.{length, get_or, drop}
use lib.Pow.{pow_pos, mod-pow-add, mod-mod-pow}
use borrow.Author.Tests.{ne_eqb, eqb-true, eqb-false}
use Rattle.logic.specs.Cases.{same}
use Rattle.logic.specs.Bools.{not_true, not_false}
use Rattle.routes.specs.Route.{stray}
use Rattle.numbers.specs.Number.{number, AreBytes}
use Rattle.numbers.proofs.Number.{number_byte, number_rest}

-- ---- bytes of which one is not 0

pub some_any : (bs : List ℕ) → list_any (λ y. not (eqb y 0)) bs ≡ not (eqb (number bs) 0)
unfolding number
some_any [] = refl
some_any (b ∷ bs) =
    let p = 2 ^ (8 * length bs) in
    same b 0
    (λ e t.
    let z : b * p + number bs ≡ number bs = omega (arith, zero-mul p, ap (λ (n : ℕ). n * p) e) in
    rw (t, some_any bs) (rw z))
    (λ n t.
    let g : 1 * p ≤ b * p = mul-le-mul_right p (omega arith) in
    rw (t, ne_eqb (b * p + number bs) 0 (λ z. omega (arith, pow_pos (8 * length bs)))))

-- ---- stray

module _ (bs : List ℕ) (ok : AreBytes bs) (l k : ℕ) (top : l ≤ 8 * length bs) (ek : k ≡ l / 8) where
  -- the bits after the length: those of the byte k, then the rest
  after : k < length bs
      → number bs % 2 ^ (8 * length bs - l)
      ≡ get_or bs k 0 % 2 ^ (8 - l % 8) * 2 ^ (8 * length bs - 8 * (k + 1)) + number (drop (k + 1) bs)
  after h =
      let L = length bs in
      let a = number bs in
      let s = 8 - l % 8 in
      let e = 8 * L - 8 * (k + 1) in
      let p : s + e ≡ 8 * L - l = omega arith in
      let q : (l % 8) + s ≡ 8 = omega arith in
      let r : 8 * L - 8 - 8 * k ≡ e = omega arith in
      let y : a / 2 ^ e % 256 ≡ get_or bs k 0 = ap (λ (n : ℕ). a / 2 ^ n % 256) (sym r) ∙ number_byte bs ok k h in
      let m : a / 2 ^ e % 2 ^ s ≡ get_or bs k 0 % 2 ^ s =
      sym (mod-mod-pow (a / 2 ^ e) (l % 8) s) ∙ ap (λ (n : ℕ). a / 2 ^ e % 2 ^ n % 2 ^ s) q ∙ ap (λ (n : ℕ). n % 2 ^ s) y in
      ap (λ (n : ℕ). a % 2 ^ n) (sym p) ∙ mod-pow-add a s e
      ∙ ap₂ (λ (x z : ℕ). x * 2 ^ e + z) m (number_rest bs ok (k + 1) (omega arith))

  abbrev here : Bool
  here = stray 8 (get_or bs k 0) (l % 8)

  pub stray_here : k < length bs → here ≡ true → true ≡ stray (8 * length bs) (number bs) l
  stray_here h n =
      let e = 8 * length bs - 8 * (k + 1) in
      let y = get_or bs k 0 % 2 ^ (8 - l % 8) in
      let z : y ≢ 0 = eqb-false y 0 (not_true (eqb y 0) n) in
      let g : 1 * 2 ^ e ≤ y * 2 ^ e = mul-le-mul_right (2 ^ e) (omega arith) in
      sym (ap not (ne_eqb (number bs % 2 ^ (8 * length bs - l)) 0 (λ z. omega (arith, after h, pow_pos e))))

  pub stray_rest : k < length bs → here ≡ false
      → list_any (λ y. not (eqb y 0)) (drop (k + 1) bs) ≡ stray (8 * length bs) (number bs) l
  stray_rest h n =
      let e = 8 * length bs - 8 * (k + 1) in
      let y = get_or bs k 0 % 2 ^ (8 - l % 8) in
      let z : y ≡ 0 = eqb-true y 0 (not_false (eqb y 0) n) in
      let f : number bs % 2 ^ (8 * length bs - l) ≡ number (drop (k + 1) bs) =
      after h ∙ ap (λ (n : ℕ). n * 2 ^ e + number (drop (k + 1) bs)) z ∙ omega (arith, zero-mul (2 ^ e)) in
      some_any (drop (k + 1) bs) ∙ rw f
