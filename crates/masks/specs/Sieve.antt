-- Which masks pass, told by two products over all pairs of prefixes: X, the differences that were met, and Y, the bits that were
-- added. Assumes nothing.
--
--     0110xxxx, 01111000, 11001101      X: 00010000, 10100000, 10110101      Y: 0
--     a mask passes if it meets each difference in X and has all bits of Y
use Rattle.std.specs.Prelude.{◌≡◌, refl, Bool, true, false, not, ◌&&◌, ◌||◌, List, ℕ, ◌<◌, leb, eqb, length, get_or, set}
use Rattle.std.proofs.Common.{sym, arith, get_or-set_same, get_or-set_other, eqb-true, eq-eqb}
use Rattle.std.specs.Int.Bits.{bit_and, bit_or}
use Rattle.std.proofs.lemmas.Nat.{or_lt}
use Rattle.logic.specs.Cases.{same}
use Rattle.logic.specs.Bools.{and_to, and_from, or_right}
use Rattle.logic.specs.Every.{all_b}
use Rattle.logic.specs.Reflects.{all_to_lem, all_from}
use Rattle.masks.specs.Bits.{or_bit, inside_to, inside_from}

-- the prefixes of an array as 512 flags: slot s from 1 on is held if word s is not 0
unfoldable pub held_in : List ℕ → ℕ → Bool
held_in fs s = leb 1 s && not (eqb (get_or fs s 0) 0)

-- m meets the difference x, if X has it
abbrev pub meets : List ℕ → ℕ → ℕ → Bool
meets xs m x = eqb (get_or xs x 0) 0 || not (eqb (bit_and m x) 0)

abbrev pub includes : ℕ → ℕ → Bool
includes m y = eqb (bit_and m y) y

unfoldable pub passes : List ℕ → ℕ → ℕ → Bool
passes xs y m = all_b (meets xs m) 256 && includes m y

-- what a step says: those masks pass after it that passed before it and keep c
pub record Sifted (xs zs : List ℕ) (y z : ℕ) (c : ℕ → Bool) : Type 0 where
  pub size : length zs ≡ length xs
  pub fit : z < 256
  pub sifts : (m : ℕ) → passes zs z m ≡ (passes xs y m && c m)

-- ---- Booleans

both_ways : (b c : Bool) → (b ≡ true → c ≡ true) → (c ≡ true → b ≡ true) → b ≡ c
both_ways true c f g = sym (f refl)
both_ways false true f g = g refl
both_ways false false f g = refl

and_swap : (a b c : Bool) → ((a && b) && c) ≡ ((a && c) && b)
and_swap true b c =
    both_ways (b && c) (c && b)
    (λ e. and_from c b (and_to b c e).1 (and_to b c e).0)
    (λ e. and_from b c (and_to c b e).1 (and_to c b e).0)
and_swap false b c = refl

pub and_assoc : (a b c : Bool) → ((a && b) && c) ≡ (a && (b && c))
and_assoc true b c = refl
and_assoc false b c = refl

-- ---- one difference more in X

module _ (xs : List ℕ) (m k : ℕ) (n : length xs ≡ 256) (h : k < 256) where
  abbrev meets_k : Bool
  meets_k = not (eqb (bit_and m k) 0)

  met : all_b (meets (set xs k 1) m) 256 ≡ true → meets_k ≡ true
  met e = rw (get_or-set_same xs k 1 0 (omega arith)) at (all_to_lem (meets (set xs k 1) m) 256 e k h)

  meets-set : all_b (meets (set xs k 1) m) 256 ≡ (all_b (meets xs m) 256 && meets_k)
  meets-set = both_ways _ _
      (λ e. and_from (all_b (meets xs m) 256) meets_k
      (all_from (meets xs m) 256 (λ x l. same x k
      (λ q _. rw q (or_right (eqb (get_or xs k 0) 0) meets_k (met e)))
      (λ q _. rw (get_or-set_other xs k x 1 0 q) at (all_to_lem (meets (set xs k 1) m) 256 e x l))))
      (met e))
      (λ e.
      let a = and_to (all_b (meets xs m) 256) meets_k e in
      all_from (meets (set xs k 1) m) 256 (λ x l. same x k
      (λ q _. rw q (or_right (eqb (get_or (set xs k 1) k 0) 0) meets_k a.1))
      (λ q _. rw (get_or-set_other xs k x 1 0 q) (all_to_lem (meets xs m) 256 a.0 x l))))

  pub passes-set : (y : ℕ) → passes (set xs k 1) y m ≡ (passes xs y m && meets_k)
  unfolding passes
  passes-set y = rw meets-set (and_swap (all_b (meets xs m) 256) meets_k (includes m y))

-- ---- more bits in Y

includes_or : (m y z : ℕ) → y < 256 → z < 256 → includes m (bit_or y z) ≡ (includes m y && includes m z)
includes_or m y z h l = both_ways _ _
    (λ e.
    let p = eqb-true (bit_and m (bit_or y z)) (bit_or y z) e in
    and_from (includes m y) (includes m z)
    (eq-eqb (bit_and m y) y (inside_from 8 m y h (λ i _. omega (arith, inside_to m (bit_or y z) i p, or_bit y z i))))
    (eq-eqb (bit_and m z) z (inside_from 8 m z l (λ i _. omega (arith, inside_to m (bit_or y z) i p, or_bit y z i)))))
    (λ e.
    let p = and_to (includes m y) (includes m z) e in
    let a = eqb-true (bit_and m y) y p.0 in
    let b = eqb-true (bit_and m z) z p.1 in
    eq-eqb (bit_and m (bit_or y z)) (bit_or y z)
    (inside_from 8 m (bit_or y z) (or_lt 8 y z h l) (λ i _. omega (arith, inside_to m y i a, inside_to m z i b, or_bit y z i))))

pub passes_or : (xs : List ℕ) (y m z : ℕ) → y < 256 → z < 256 → passes xs (bit_or y z) m ≡ (passes xs y m && includes m z)
unfolding passes
passes_or xs y m z h l =
    rw (includes_or m y z h l) (sym (and_assoc (all_b (meets xs m) 256) (includes m y) (includes m z)))
