-- Two bytes agree on some bits: where the exclusive or has none of them. A byte may have a prefix as far as a mask tells.
-- Assumes nothing.
use Rattle.std.specs.Prelude.{◌≡◌, Bool, true, ℕ, ◌<◌, min, eqb}
use Rattle.std.proofs.Common.{sym, ap, ◌∙◌, arith, eqb-true, eq-eqb}
use Rattle.std.specs.Int.Bits.{bit_and, bit_xor}
use Rattle.std.proofs.lemmas.Nat.{and_le_r}
use Rattle.logic.specs.Cases.{same}
use Rattle.logic.specs.Reflects.{Reflects}
use Rattle.masks.specs.Bits.{bit, bit_lt, and_bit, xor_bit, differ_to, differ_same, zero_bit, no_bits}
use Rattle.masks.specs.Prefix.{value, reach, has, reach_lt}

-- a and b agree on the bits of r
pub record On (r a b : ℕ) : Type 0 where
  pub each : (i : ℕ) → i < 8 → bit r i ≡ 1 → bit a i ≡ bit b i

pub masked : (d r : ℕ) → r < 2 → (r ≡ 1 → d ≡ 0) → min d r ≡ 0
masked d r h f = same r 1 (λ e _. let z = f e in omega arith) (λ n _. omega arith)

pub on_reflects : (r a b : ℕ) → r < 256 → Reflects (eqb (bit_and (bit_xor a b) r) 0) (On r a b)
on_reflects r a b h = record {
  to = λ e. record {
    each = λ i l q.
        let x = bit_and (bit_xor a b) r in
        let z : bit x i ≡ 0 = ap (λ (n : ℕ). bit n i) (eqb-true x 0 e) ∙ zero_bit i in
        let w : min (bit (bit_xor a b) i) (bit r i) ≡ 0 = sym (and_bit (bit_xor a b) r i) ∙ z in
        differ_to (bit a i) (bit b i) (sym (xor_bit a b i) ∙ (omega arith));
  };
  from = λ o. eq-eqb (bit_and (bit_xor a b) r) 0
      (no_bits 8 (bit_and (bit_xor a b) r) (omega (arith, and_le_r (bit_xor a b) r)) (λ i l.
      and_bit (bit_xor a b) r i ∙ masked (bit (bit_xor a b) i) (bit r i) (bit_lt r i)
      (λ q. xor_bit a b i ∙ rw (o.each i l q) (differ_same (bit b i)))));
}

-- ---- as far as a mask tells

-- a byte may have the prefix: it agrees with it on the mask's bits
abbrev pub fits : ℕ → ℕ → ℕ → Bool
fits m y s = eqb (bit_and (bit_xor (value s) y) (bit_and m (reach s))) 0

pub both-set : (a b : ℕ) → a < 2 → b < 2 → min a b ≡ 1 → (a ≡ 1) × (b ≡ 1)
both-set a b h l e = (omega arith, omega arith)

-- the bits on which it is asked
pub asked : (m s i : ℕ) → bit (bit_and m (reach s)) i ≡ 1 → (bit m i ≡ 1) × (bit (reach s) i ≡ 1)
asked m s i q = both-set (bit m i) (bit (reach s) i) (bit_lt m i) (bit_lt (reach s) i) (sym (and_bit m (reach s) i) ∙ q)

pub asks : (m s i : ℕ) → bit m i ≡ 1 → bit (reach s) i ≡ 1 → bit (bit_and m (reach s)) i ≡ 1
asks m s i p q = and_bit m (reach s) i ∙ rw (p, q)

pub has_on : (y s : ℕ) → Reflects (has y s) (On (reach s) (value s) y)
has_on y s = on_reflects (reach s) (value s) y (reach_lt s)

pub fits_on : (m y s : ℕ) → Reflects (fits m y s) (On (bit_and m (reach s)) (value s) y)
fits_on m y s = on_reflects (bit_and m (reach s)) (value s) y (omega (arith, and_le_r m (reach s), reach_lt s))

pub has-fits : (m y s : ℕ) → has y s ≡ true → fits m y s ≡ true
has-fits m y s e =
    let o = (has_on y s).to e in
    (fits_on m y s).from (record { each = λ i l q. o.each i l (asked m s i q).1 })
