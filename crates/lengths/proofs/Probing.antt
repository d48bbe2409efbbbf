-- What each test of a look says of the definition: of a start, of a place, of a probe, and of a table among the words.
-- Assumes nothing.
use mathlib.Core.Path.{◌≡◌, sym, ◌∙◌}
use mathlib.Core.Logic.{◌≢◌}
use mathlib.Core.Bool.{Bool, true, false, not}
use mathlib.Core.List.{List}
use Prim.Native.Nat.{ℕ, suc, ◌+◌, ◌-◌, ◌*◌, ◌/◌, ◌≤◌, ◌<◌}
use native.Mathlib.Nat.{mul_left_comm}
use native.Mathlib.Omega.{arith}
use lib.ListN.{length}
use borrow.Author.Tests.{lt-ltb, le-ltb, le-leb, lt-leb, eq-eqb, ne_eqb}
use Rattle.logic.specs.Bools.{not_true, not_false}
use Rattle.lengths.specs.Way.{miss, hit, outside}
use Rattle.lengths.specs.Layout.{begin_of, size_of, key_of, Places, mix, start, place, look_at, probe, find}
use Rattle.lengths.specs.Layout.{find_in, look}
use Rattle.lengths.specs.Hash.{start_lt}

-- ---- where a probe begins

pub start_is : (v size : ℕ) → 1 ≤ size → (mix v * size / 1073741824 ≡ start v (4 * size)) × (start v (4 * size) < 4 * size)
unfolding start
start_is v size h =
    let e : mix v * (4 * size) ≡ 4 * (mix v * size) = mul_left_comm (mix v) 4 size in
    (omega (arith, e), start_lt v (4 * size) (omega arith))

-- ---- places

pub place_on : (s p d : ℕ) → s + d < p → s + d ≡ place s p d
unfolding place
place_on s p d h = rw (lt-ltb (s + d) p h)

pub place_round : (s p d : ℕ) → p ≤ s + d → s + d - p ≡ place s p d
unfolding place
place_round s p d h = rw (le-ltb (s + d) p h)

pub place_first : (s p : ℕ) → s < p → s ≡ place s p 0
place_first s p h = let e : s + 0 ≡ s = omega arith in sym e ∙ place_on s p 0 (omega arith)

-- a key tells the bits
pub key-own : (k v : ℕ) → v ≤ 4294967295 → k ≡ 4294967295 - v → key_of k ≡ v
key-own k v h e = omega arith

pub key_other : (k v : ℕ) → k ≤ 4294967295 → k ≢ 4294967295 - v → key_of k ≢ v
key_other k v h n e = n (omega arith)

-- ---- a probe, d steps on its way

module _ (T : Places) (p v d : ℕ) where
  step : d < p → probe T p v (p - d) d ≡ look_at T v (place (start v p) p d) (probe T p v (p - (d + 1)) (d + 1))
  unfolding probe
  step h = let e : p - d ≡ suc (p - (d + 1)) = omega arith in rw e

  pub probe_none : p ≤ d → miss ≡ probe T p v (p - d) d
  unfolding probe
  probe_none h = let e : p - d ≡ 0 = omega arith in rw e

  -- f is the test whether the place is free
  module _ (h : d < p) (j : ℕ) (e : j ≡ place (start v p) p d) (f : Bool) (t : f ≡ not (T.taken j)) where
    pub probe_free : f ≡ true → miss ≡ probe T p v (p - d) d
    probe_free q = sym (step h ∙ rw (← e, not_true (T.taken j) (sym t ∙ q)))

    taken : f ≡ false → T.taken j ≡ true
    taken q = not_false (T.taken j) (sym t ∙ q)

    pub probe-own : f ≡ false → T.value j ≡ v → hit (T.best j) ≡ probe T p v (p - d) d
    probe-own q k = sym (step h ∙ rw (← e, taken q, eq-eqb (T.value j) v k))

    pub probe_on : f ≡ false → T.value j ≢ v → probe T p v (p - (d + 1)) (d + 1) ≡ probe T p v (p - d) d
    probe_on q k = sym (step h ∙ rw (← e, taken q, ne_eqb (T.value j) v k))

pub find_none : (T : Places) (p v : ℕ) → p ≡ 0 → miss ≡ find T p v
unfolding probe
find_none T p v e = rw e

pub find_all : (T : Places) (p v : ℕ) → probe T p v (p - 0) 0 ≡ find T p v
find_all T p v = let e : p - 0 ≡ p = omega arith in rw e

-- ---- a table among the words

module _ (ws : List ℕ) (m v : ℕ) where
  pub look_out : length ws < begin_of ws m + 8 * size_of ws m → outside ≡ look ws m v
  unfolding look
  look_out h = rw (lt-leb (begin_of ws m + 8 * size_of ws m) (length ws) h)

  pub look_there : begin_of ws m + 8 * size_of ws m ≤ length ws → find_in ws m (begin_of ws m) (size_of ws m) v ≡ look ws m v
  unfolding look
  look_there h = rw (le-leb (begin_of ws m + 8 * size_of ws m) (length ws) h)
