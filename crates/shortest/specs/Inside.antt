-- The addresses inside a prefix, which hop a table of routes gives them, and the least number of routes that does. A prefix has d
-- bits below its first bits v: its addresses are those from v * 2 ^ d to (v + 1) * 2 ^ d. Assumes nothing.
--
--     cost of a prefix      1 for each prefix in it whose halves have no hop in common
--     least                 the cost, and 1 if the hop that comes from above is not in the set
use Rattle.std.specs.Prelude.{◌≡◌, cond, ℕ, zero, suc, ◌+◌, ◌*◌, ◌/◌, ◌^◌, ◌≤◌, ◌<◌, eqb}
use Rattle.std.proofs.Common.{sym, ap, ◌∙◌, mul-le-mul_right, arith, pow-add}
use Rattle.std.proofs.Math.Nat.{pow-succ', div-eq_of_lt-le}
use Rattle.std.specs.Int.Bits.{bit_and}
use Rattle.logic.specs.Cases.{less}
use Rattle.laws.specs.Collect.{dbl}
use Rattle.shortest.specs.HopSet.{has}
use Rattle.shortest.specs.Chosen.{set_of, under}

-- 1 for two sets that have nothing in common
abbrev pub apart : ℕ → ℕ → ℕ
apart x y = cond (eqb (bit_and x y) 0) 1 0

-- 1 for a set without the hop h
abbrev pub lacks : ℕ → ℕ → ℕ
lacks m h = cond (has m h) 0 1

unfoldable pub cost : (ℕ → ℕ) → ℕ → ℕ → ℕ
cost G zero v = 0
cost G (suc d) v = cost G d (2 * v) + cost G d (2 * v + 1) + apart (set_of G d (2 * v)) (set_of G d (2 * v + 1))

-- the hop that the table f gives to the address a inside a prefix of length l, where h comes from above
unfoldable pub carried : (ℕ → ℕ → ℕ) → ℕ → ℕ → ℕ → ℕ → ℕ
carried f zero l h a = under (f a l) h
carried f (suc d) l h a = carried f d (suc l) (under (f (a / 2 ^ suc d) l) h) a

-- ---- the addresses of a prefix, and of its halves

pub record In (d v a : ℕ) : Type 0 where
  pub from : v * 2 ^ d ≤ a
  pub to : a < (v + 1) * 2 ^ d

pub in_one : (v : ℕ) → In zero v v
in_one v = record { from = omega arith; to = omega arith }

pub in_left : (d v a : ℕ) → In d (2 * v) a → In (suc d) v a
in_left d v a i = record { from = omega (arith, dbl v d, i.from); to = omega (arith, dbl v d, pow-succ' 2 d, i.to) }

pub in_right : (d v a : ℕ) → In d (2 * v + 1) a → In (suc d) v a
in_right d v a i = record { from = omega (arith, dbl v d, i.from); to = omega (arith, dbl v d, pow-succ' 2 d, i.to) }

pub in_head : (d v a : ℕ) → In d v a → a / 2 ^ d ≡ v
in_head d v a i = div-eq_of_lt-le (2 ^ d) i.from i.to

-- an address is in one of the halves
pub in_half : {P : Type 0} (d v a : ℕ) → In (suc d) v a → (In d (2 * v) a → P) → (In d (2 * v + 1) a → P) → P
in_half d v a i x y =
    less a ((2 * v + 1) * 2 ^ d)
    (λ h _. x (record { from = omega (arith, dbl v d, i.from); to = h }))
    (λ h _. y (record { from = h; to = omega (arith, dbl v d, pow-succ' 2 d, i.to) }))

-- and below 2 ^ W
pub in_low : (W d v l a : ℕ) → l + d ≡ W → v < 2 ^ l → In d v a → a < 2 ^ W
in_low W d v l a s b i =
    let p : 2 ^ l * 2 ^ d ≡ 2 ^ W = sym (pow-add 2 l d) ∙ ap (λ (n : ℕ). 2 ^ n) s in
    omega (arith, i.to, p, mul-le-mul_right (2 ^ d) b)
