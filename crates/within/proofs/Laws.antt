-- What the functions of the count cite: a turn of the walk, as the loop takes it, and the whole. Assumes nothing.
use Rattle.std.proofs.Common.{◌≡◌, sym, List, ℕ, suc, ◌+◌, ◌-◌, ◌^◌, ◌≤◌, ◌<◌, length, arith}
use Rattle.sizes.specs.Sizes.{level_bound}
use Rattle.numbers.specs.Front.{byte_of, value_lt}
use Rattle.numbers.specs.Number.{number, AreBytes, number_lt}
use Rattle.address.specs.Address.{Stands}
use Rattle.words.specs.Words.{arrays_of, array_count}
use Rattle.within.specs.Walk.{read_at, turn, walk_from, walked, within_seen}
use Rattle.within.specs.Counted.{within_seen_lem}

-- from level j of k, at array a

module _ (L : ℕ) (ws : List ℕ) (x s k j a : ℕ) where
  pub walk_end : k ≤ j → walk_from L ws x s k (k - j) a ≡ read_at ws s a
  unfolding walk_from
  walk_end h = let e : k - j ≡ 0 = omega arith in rw e

  pub walk_turn : j < k
      → walk_from L ws x s k (k - j) a
      ≡ turn (array_count ws) ((arrays_of ws).link a (byte_of L x j)) (walk_from L ws x s k (k - (j + 1)))
  unfolding walk_from
  walk_turn h =
      let left : k - j ≡ suc (k - (j + 1)) = omega arith in
      let here : k - suc (k - (j + 1)) ≡ j = omega arith in
      rw (left, here)

-- what the walk gives is what the words are seen to give
pub walk_seen : (ws bs : List ℕ) (l : ℕ) → AreBytes bs → 1 ≤ length bs → length bs < level_bound
    → within_seen (length bs) ws (number bs) l ≡ walked (length bs) ws (number bs) l
walk_seen ws bs l ok some levels = sym (within_seen_lem (length bs) ws (number bs) l some levels (number_lt bs ok))

-- a place has a slot
pub stands_slot : (L a l k d x : ℕ) → Stands L a l k d x → (d ≤ 8) × (x < 2 ^ d)
stands_slot L a l k d x s = (s.deep, rw s.bits (value_lt L a k d s.top s.deep))
