-- The prefixes of one array of 8 bits, by their slots: d bits of value x are slot 2 ^ d + x. A byte has a prefix if its first d
-- bits are the prefix's; two prefixes are apart under a mask by the two properties of the scheme of masks. Assumes nothing.
--
--     slot 22 = 2 ^ 4 + 6       0110xxxx    spare 4     value 01100000     reach 11110000
--     slot 376 = 2 ^ 8 + 120    01111000    spare 0     value 01111000     reach 11111111
--     parted 00010000, so a mask must have bit 4 (property 1); were it 0, the mask would need all of added 00001111 (property 2)
use Rattle.std.specs.Prelude.{◌≡◌, refl, Bool, true, cond, not, ◌&&◌, ℕ, ◌+◌, ◌-◌, ◌*◌, ◌^◌, ◌≤◌, ◌<◌, ltb, leb, eqb}
use Rattle.std.proofs.Common.{◌∙◌, mod-eq_of_lt, arith, pow_pos, eqb-true, leb-true, ltb-true, eq-eqb}
use Rattle.std.specs.Int.Bits.{bit_and, bit_xor}
use Rattle.std.proofs.lemmas.Nat.{and_comm, and_mask, and_le_r, xor_lt}
use Rattle.std.specs.Int.Count.{count_leading_zeros}
use Rattle.logic.specs.Cases.{same}
use Rattle.logic.specs.Bools.{and_to}
use Rattle.logic.specs.Every.{all_b}
use Rattle.logic.specs.Reflects.{all_to_lem}
use Rattle.sizes.specs.Sizes.{slot_end, last_slot, cell_slots}

-- how many bits of a byte come after those of the prefix
abbrev pub spare : ℕ → ℕ
spare s = count_leading_zeros 9 s

-- its bits with 0 after them, and 1 for each bit that it has: test value and test mask
abbrev pub value : ℕ → ℕ
value s = s * 2 ^ spare s - cell_slots

abbrev pub reach : ℕ → ℕ
reach s = cell_slots - 2 ^ spare s

-- a byte has the prefix
abbrev pub has : ℕ → ℕ → Bool
has y s = eqb (bit_and (bit_xor (value s) y) (reach s)) 0

-- ---- two prefixes under a mask

-- where they differ, of the bits that both have
abbrev pub parted : ℕ → ℕ → ℕ
parted s t = bit_and (bit_xor (value s) (value t)) (bit_and (reach s) (reach t))

-- the bits that only the longer has
abbrev pub added : ℕ → ℕ → ℕ
added s t = bit_xor (reach s) (reach t)

-- property 1 where they differ: the mask has a bit of the difference; property 2 where one goes on from the other: the mask has
-- all bits that the longer adds
abbrev pub apart : ℕ → ℕ → ℕ → Bool
apart m s t =
    cond (eqb (parted s t) 0) (eqb (bit_and m (added s t)) (added s t)) (not (eqb (bit_and m (parted s t)) 0))

-- ---- their laws

pub reach_lt : (s : ℕ) → reach s < 256
reach_lt s = omega (arith, pow_pos (spare s))

pub parted_lt : (s t : ℕ) → parted s t < 256
parted_lt s t =
    let both = bit_and (reach s) (reach t) in
    omega (arith, and_le_r (bit_xor (value s) (value t)) both, and_le_r (reach s) (reach t), reach_lt t)

pub added_lt : (s t : ℕ) → added s t < 256
added_lt s t = xor_lt 8 (reach s) (reach t) (reach_lt s) (reach_lt t)

-- under the mask of all bits any two are apart
whole : (n : ℕ) → n < 256 → bit_and 255 n ≡ n
whole n h = and_comm 255 n ∙ and_mask n 8 ∙ mod-eq_of_lt h

pub apart-full : (s t : ℕ) → apart 255 s t ≡ true
apart-full s t =
    same (parted s t) 0
    (λ q e. rw (e, whole (added s t) (added_lt s t)) (eq-eqb (added s t) (added s t) refl))
    (λ n e. rw (e, whole (parted s t) (parted_lt s t), e))

-- ---- every slot from 1 on is a prefix

pub record Slot (s : ℕ) : Type 0 where
  pub low : 256 ≤ s * 2 ^ spare s
  pub high : s * 2 ^ spare s < 512
  pub short : spare s ≤ 8
  pub told : count_leading_zeros 32 s ≡ spare s + 23

slot_b : ℕ → Bool
slot_b s =
    leb 256 (s * 2 ^ spare s)
    && (ltb (s * 2 ^ spare s) 512 && (leb (spare s) 8 && eqb (count_leading_zeros 32 s) (spare s + 23)))

slots : all_b (λ s. slot_b (s + 1)) last_slot ≡ true
unfolding all_b slot_b count_leading_zeros
slots = refl

pub slot : (s : ℕ) → 1 ≤ s → s < slot_end → Slot s
unfolding slot_b
slot s h l =
    let k : s - 1 + 1 ≡ s = omega arith in
    let e : slot_b s ≡ true = rw k at (all_to_lem (λ s. slot_b (s + 1)) last_slot slots (s - 1) (omega arith)) in
    let a = and_to (leb 256 (s * 2 ^ spare s)) _ e in
    let b = and_to (ltb (s * 2 ^ spare s) 512) _ a.1 in
    let c = and_to (leb (spare s) 8) _ b.1 in
    record {
      low = leb-true 256 (s * 2 ^ spare s) a.0;
      high = ltb-true (s * 2 ^ spare s) 512 b.0;
      short = leb-true (spare s) 8 c.0;
      told = eqb-true (count_leading_zeros 32 s) (spare s + 23) c.1;
    }
