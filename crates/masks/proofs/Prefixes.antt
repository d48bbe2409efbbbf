-- What the code of one prefix computes, over plain variables. Assumes nothing.
use mathlib.Core.Path.{◌≡◌}
use Prim.Native.Nat.{ℕ, ◌-◌, ◌*◌, ◌%◌, ◌^◌, ◌≤◌, ◌<◌}
use native.Mathlib.Omega.{arith}
use lib.Count.{count_leading_zeros}
use Rattle.sizes.specs.Sizes.{slot_end}
use Rattle.masks.specs.Prefix.{spare, value, slot}

module _ (s : ℕ) (h : 1 ≤ s) (l : s < slot_end) where
  pub spare_least : 23 ≤ count_leading_zeros 32 s
  spare_least = let p = slot s h l in omega (arith, p.told)

  pub spare_is : (count_leading_zeros 32 s - 23 ≡ spare s) × (count_leading_zeros 32 s - 23 ≤ 8)
  spare_is = let p = slot s h l in (omega (arith, p.told), omega (arith, p.told, p.short))

  module _ (e : ℕ) (q : e ≡ spare s) where
    pub value_least : 256 ≤ (s * 2 ^ e) % 4294967296
    value_least = let p = slot s h l in rw q (omega (arith, p.low, p.high))

    pub value_is : ((s * 2 ^ e) % 4294967296 - 256 ≡ value s) × ((s * 2 ^ e) % 4294967296 - 256 < 256)
    value_is = let p = slot s h l in rw q (omega (arith, p.low, p.high), omega (arith, p.low, p.high))
