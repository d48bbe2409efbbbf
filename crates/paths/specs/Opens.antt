-- How far a path leads on any words, what stands in the way of the arrays that it lacks, and the words with these hung: as
-- functions of the words. Assumes nothing.
--
--     b of level j ──▶ taken 0 ──▶ taken 1 ──▶ .. ──▶ taken (k - j - 1) of level k        the free arrays that a search finds
use Rattle.std.specs.Prelude.{◌≡◌, Bool, false, cond, ◌&&◌, List, eqb, leb, ltb, get_or}
use Rattle.std.proofs.Math.Path.{refl, ap}
use Rattle.std.proofs.Common.{◌∙◌, eq-eqb, ne_eqb, le-ltb, lt-ltb}
use Prim.Native.Nat.{ℕ, zero, suc, ◌+◌, ◌-◌, ◌/◌, ◌%◌, ◌≤◌, ◌<◌}
use native.Mathlib.Omega.{arith}
use Rattle.logic.specs.Cases.{same}
use Rattle.sizes.specs.Sizes.{cell_at, best_bound}
use Rattle.array.specs.Cell.{best_in, block_in}
use Rattle.tree.specs.Arrays.{down, node}
use Rattle.words.specs.Words.{arrays_of, array_count, bests_of, blocks_of}
use Rattle.words.specs.Offers.{taken, takes_b}
use Rattle.words.specs.Gained.{gained_in}
use Rattle.numbers.specs.Front.{front, byte_of, front-up}
use Rattle.paths.specs.Stop.{On, Stops, next}

-- ---- how far

-- the deepest level up to k on which the links along an address lead to an array
unfoldable pub reach : ℕ → List ℕ → ℕ → ℕ → ℕ
reach L ws a zero = 0
reach L ws a (suc k) = cond (eqb (node (arrays_of ws) (front L a (suc k)) (suc k)) 0) (reach L ws a k) (suc k)

module _ (L : ℕ) (ws : List ℕ) (a : ℕ) where
  below_none : (n : ℕ) → suc n ≤ L → node (arrays_of ws) (front L a n) n ≡ 0 → node (arrays_of ws) (front L a (suc n)) (suc n) ≡ 0
  unfolding node down
  below_none n h e =
      let d : front L a (suc n) / 256 ≡ front L a n = front-up L a 1 n (suc n) (omega arith) h in
      ap (λ (q : ℕ). down (arrays_of ws) (node (arrays_of ws) q n) (front L a (suc n) % 256)) d
      ∙ ap (λ (q : ℕ). down (arrays_of ws) q (front L a (suc n) % 256)) e

  module _ (j b : ℕ) (o : On L ws a j b) where
    past_stop : (n : ℕ) → (arrays_of ws).link b (byte_of L a j) ≡ 0 → j + suc n ≤ L
        → node (arrays_of ws) (front L a (j + suc n)) (j + suc n) ≡ 0
    past_stop zero z h = let d : j + suc zero ≡ suc j = omega arith in rw d (next L ws a j b o (omega arith) ∙ z)
    past_stop (suc n) z h =
        let d : j + suc (suc n) ≡ suc (j + suc n) = omega arith in
        rw d (below_none (j + suc n) (omega arith) (past_stop n z (omega arith)))

    reach_here : reach L ws a j ≡ j
    unfolding reach
    reach_here = go j refl
      where
        go : (i : ℕ) → i ≡ j → reach L ws a i ≡ i
        go zero e = refl
        go (suc i) e =
            let d : node (arrays_of ws) (front L a (suc i)) (suc i) ≡ b = rw e o.leads in
            rw (ne_eqb (node (arrays_of ws) (front L a (suc i)) (suc i)) 0 (λ z. omega (arith, o.some, d)))

    reach_past : (n : ℕ) → (arrays_of ws).link b (byte_of L a j) ≡ 0 → j + n ≤ L → reach L ws a (j + n) ≡ j
    unfolding reach
    reach_past zero z h = let d : j + 0 ≡ j = omega arith in rw d reach_here
    reach_past (suc n) z h =
        let d : j + suc n ≡ suc (j + n) = omega arith in
        let e = rw d at (past_stop n z h) in
        rw d (rw (eq-eqb _ 0 e) (reach_past n z (omega arith)))

  pub reach-stops : (k j b : ℕ) → k < L → Stops L ws a k j b → reach L ws a k ≡ j
  reach-stops k j b h s =
      same j k
      (λ e _. rw (← e) (reach_here j b s.on))
      (λ n _. (let d : j + (k - j) ≡ k = omega (arith, s.low) in
      rw d at (reach_past j b s.on (k - j) (s.off (omega (arith, s.low))) (omega arith))))

-- ---- what stands in the way

-- cell y of array b is fit to take a link: its best and its block are in their ranges
abbrev pub fit_b : List ℕ → ℕ → ℕ → Bool
fit_b ws b y = ltb (bests_of ws b y) best_bound && leb (blocks_of ws b y) 8

-- as the code tests it
module _ (ws : List ℕ) (b y w r : ℕ) (we : w ≡ get_or ws (cell_at b y) 0) (re : r ≡ best_in w) where
  pub fit_far : best_bound ≤ r → false ≡ fit_b ws b y
  fit_far h = rw (← we, ← re, le-ltb r best_bound h)

  pub fit_near : r < best_bound → (q : ℕ) → q ≡ block_in w → leb q 8 ≡ fit_b ws b y
  fit_near h q e = rw (← we, ← re, ← e, lt-ltb r best_bound h)

-- the number with which m arrays cannot be gained below that cell, 0 where they can: 8 where the header tells of too few free
-- ones, 2 where the cell is not fit or the free ones told of are not there
abbrev pub gain_fault : List ℕ → ℕ → ℕ → ℕ → ℕ
gain_fault ws b y m =
    cond (fit_b ws b y) (cond (leb (get_or ws 0 0 + m) (array_count ws)) (cond (takes_b ws m) 0 2) 8) 2

-- the same of the arrays that the path of an address lacks below array b of level j, down to level k
abbrev pub open_fault : ℕ → List ℕ → ℕ → ℕ → ℕ → ℕ → ℕ
open_fault L ws a j k b = cond (eqb j k) 0 (gain_fault ws b (byte_of L a j) (k - j))

-- ---- the words with m arrays hung in a row below array b of level j

-- the last of them
abbrev pub last_hung : List ℕ → ℕ → ℕ → ℕ
last_hung ws b zero = b
last_hung ws b (suc m) = taken ws m

unfoldable pub hung_in : ℕ → List ℕ → ℕ → ℕ → ℕ → ℕ → List ℕ
hung_in L ws a j b zero = ws
hung_in L ws a j b (suc m) = gained_in (hung_in L ws a j b m) (last_hung ws b m) (byte_of L a (j + m)) (taken ws m)
