-- The answer depends on the number of words and on the arrays of the path alone, from the root to the given prefix's own,
-- whatever the words hold: two runs of words that agree there give the same. Assumes nothing.
use Rattle.std.specs.Prelude.{◌≡◌, List, length}
use Rattle.std.proofs.Math.Path.{refl, ap}
use Rattle.std.proofs.Common.{◌∙◌, pow_mono}
use Prim.Native.Nat.{ℕ, zero, suc, ◌+◌, ◌-◌, ◌*◌, ◌^◌, ◌≤◌, ◌<◌}
use native.Mathlib.Omega.{arith}
use Rattle.logic.specs.Cases.{less, same}
use Rattle.sizes.specs.Sizes.{slot_end, cells_at, total_at, word_at, cell_at}
use Rattle.routes.specs.Room.{level}
use Rattle.numbers.specs.Front.{front, byte_of, value, byte_lt, value_lt, front_more}
use Rattle.array.specs.Cell.{link_in}
use Rattle.tree.specs.Arrays.{node, depth_of}
use Rattle.tree.specs.Need.{node_child}
use Rattle.words.specs.Words.{arrays_of, array_count, totals_of}
use Rattle.paths.specs.Alike.{Alike}
use Rattle.within.specs.Walk.{walk_from, walked}

-- the arrays of the first 8 * j bits of x, for j up to k, have the same words
abbrev pub AlikeOn : ℕ → List ℕ → List ℕ → ℕ → ℕ → Type 0
AlikeOn L ws us x k = (j : ℕ) → j ≤ k → 1 ≤ node (arrays_of ws) (front L x j) j
    → Alike ws us (node (arrays_of ws) (front L x j) j)

module _ (L : ℕ) (ws us : List ℕ) (x s k : ℕ) (top : k < L) (small : s < slot_end) (size : length us ≡ length ws)
    (f : AlikeOn L ws us x k) where
  count : array_count us ≡ array_count ws
  count = rw size

  from : (n j a : ℕ) → n + j ≡ k → node (arrays_of ws) (front L x j) j ≡ a → 1 ≤ a
      → walk_from L us x s k n a ≡ walk_from L ws x s k n a
  unfolding walk_from
  from zero j a e q h =
      let g = rw q at (f j (omega arith) (rw q h)) in
      let total : totals_of us a s ≡ totals_of ws a s = g (total_at s) (omega arith) in
      rw (count, total)
  from (suc n) j a e q h =
      let lv : k - suc n ≡ j = omega arith in
      let b = byte_of L x j in
      let g = rw q at (f j (omega arith) (rw q h)) in
      let at : cell_at a b ≡ word_at a (cells_at + b) = omega arith in
      let link : (arrays_of us).link a b ≡ (arrays_of ws).link a b = ap link_in (rw at (g (cells_at + b) (omega arith))) in
      let c = (arrays_of ws).link a b in
      let next : node (arrays_of ws) (front L x (suc j)) (suc j) ≡ c =
      ap (λ (v : ℕ). node (arrays_of ws) v (suc j)) (front_more L x j (omega arith))
      ∙ node_child (arrays_of ws) (front L x j) j b (byte_lt L x j) (rw q h) ∙ ap (λ (d : ℕ). (arrays_of ws).link d b) q in
      rw (lv, count, link) (same c 0
      (λ _ z. rw z)
      (λ m z. rw z (less (array_count ws) c
      (λ _ y. rw y)
      (λ _ y. rw y (from n (suc j) c (omega arith) next (omega arith))))))

  walk_local : walk_from L us x s k k 1 ≡ walk_from L ws x s k k 1
  unfolding node
  walk_local = from k 0 1 (omega arith) refl (omega arith)

-- down to the level of the prefix x of length l; one that is too long is refused before any word is read
pub within_local : (L : ℕ) (ws us : List ℕ) (x l : ℕ) → 1 ≤ L → length us ≡ length ws → AlikeOn L ws us x (level l)
    → walked L us x l ≡ walked L ws x l
within_local L ws us x l some size f =
    rw size (less (8 * L) l
    (λ _ e. rw e)
    (λ h e. rw e (let k = level l in
    let d = depth_of l in
    let top : k < L = omega arith in
    let deep : d ≤ 8 = omega arith in
    let small = slot_in L x k d top deep in
    rw (walk_local L ws us x (2 ^ d + value L x k d) k top small size f))))
  where
    slot_in : (L x k d : ℕ) → k < L → d ≤ 8 → 2 ^ d + value L x k d < slot_end
    slot_in L x k d top deep = omega (arith, value_lt L x k d top deep, pow_mono {i = d} {j = 8} deep)
