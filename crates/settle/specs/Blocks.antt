-- The blocks of all slots of an array, each from the one above it and from what is calm there; and a cell's by that. Assumes
-- nothing.
use Rattle.std.specs.Prelude.{◌≡◌, refl, ◌≢◌, Bool, true, not, cond, ◌||◌, List, ℕ, zero, suc, ◌+◌, ◌-◌, ◌*◌, ◌/◌, ◌^◌, ◌≤◌, ◌<◌}
use Rattle.std.specs.Prelude.{eqb, length, get_or, set}
use Rattle.std.proofs.Common.{sym, ◌∙◌, arith, length-set, pow_pos, get_or-set_same, get_or-set_other, eq-eqb, ne_eqb, eqb-true}
use Rattle.std.proofs.Common.{le-leb}
use Rattle.std.proofs.Math.Nat.{pow-succ'}
use Rattle.logic.specs.Cases.{bool, same, less}
use Rattle.sizes.specs.Sizes.{slot_end, cell_count, cells_at, cell_slots}
use Rattle.calm.specs.Calm.{Block}
use Rattle.calm.specs.Check.{calm_of, block_b, block_reflects, cell_b}
use Rattle.array.specs.Best.{halved, one_depth}
use Rattle.array.specs.Cell.{link_in, block_in}
use Rattle.array.specs.Page.{slots, links, blocks}
use Rattle.settle.specs.Busy.{Busy, ends_b, ends-block}

-- the fewest bits of slot s, of in-array length d, below whose slots all is calm by the list c, if it is below s itself
unfoldable pub block_over : List ℕ → ℕ → ℕ → ℕ
block_over c s zero = 0
block_over c s (suc d) = cond (eqb (get_or c (s / 2) 0) 0) (block_over c (s / 2) d) (suc d)

-- q holds it of each slot below n
pub record Blocks (c q : List ℕ) (n : ℕ) : Type 0 where
  pub block : (d s : ℕ) → 2 ^ d ≤ s → s < 2 * 2 ^ d → s < n → get_or q s 0 ≡ block_over c s d

pub blocks_first : (c q : List ℕ) → get_or q 1 0 ≡ 0 → Blocks c q 2
unfolding block_over
blocks_first c q z = record {
  block = λ d s a b h.
      let e : s ≡ 1 = omega (arith, pow_pos d) in
      let k : d ≡ 0 = one_depth s d 0 a b (omega arith) (omega arith) in
      rw (e, k) z;
}

blocks_more : (c q : List ℕ) (s d v : ℕ) → s < length q → 2 ^ d ≤ s → s < 2 * 2 ^ d → v ≡ block_over c s d → Blocks c q s
    → Blocks c (set q s v) (s + 1)
blocks_more c q s d v l a b e o = record {
  block = λ k t m n h. same t s
      (λ y _. rw (y, get_or-set_same q s v 0 l, one_depth s k d (rw y at m) (rw y at n) a b) e)
      (λ y _. get_or-set_other q s t v 0 y ∙ o.block k t m n (omega arith));
}

-- the two below a slot
pub blocks_two : (c q : List ℕ) (s d v : ℕ) → 2 * s + 1 < length q → 2 ^ d ≤ s → s < 2 * 2 ^ d
    → v ≡ cond (eqb (get_or c s 0) 0) (get_or q s 0) (d + 1) → Blocks c q (2 * s)
    → Blocks c (set (set q (2 * s) v) (2 * s + 1) v) (2 * (s + 1))
unfolding block_over
blocks_two c q s d v l a b p o =
    let e : d + 1 ≡ suc d = omega arith in
    let k : 2 ^ suc d ≡ 2 * 2 ^ d = pow-succ' 2 d in
    let one : 1 ≤ s = omega (arith, pow_pos d) in
    let x : 2 * s / 2 ≡ s = omega arith in
    let y : (2 * s + 1) / 2 ≡ s = omega arith in
    let t : 2 * (s + 1) ≡ 2 * s + 1 + 1 = omega arith in
    let g : v ≡ cond (eqb (get_or c s 0) 0) (block_over c s d) (suc d) = p ∙ rw (e, o.block d s a b (omega arith)) in
    let m : 2 * s + 1 < length (set q (2 * s) v) = rw (length-set q (2 * s) v) l in
    rw t (blocks_more c (set q (2 * s) v) (2 * s + 1) (suc d) v m (omega arith) (omega arith) (rw y g)
    (blocks_more c q (2 * s) (suc d) v (omega arith) (omega arith) (omega arith) (rw x g) o))

-- ---- it is the block of a cell without a link

record Ladder (c : List ℕ) (s d b : ℕ) : Type 0 where
  fits : b ≤ d
  calm : get_or c (s / 2 ^ (d - b)) 0 ≡ 0
  ends : b ≢ 0 → get_or c (s / 2 ^ (d - (b - 1))) 0 ≢ 0

up : (c : List ℕ) (s d b : ℕ) → Ladder c (s / 2) d b → Ladder c s (suc d) b
up c s d b y =
    let fits = y.fits in
    let e : suc d - b ≡ suc (d - b) = omega arith in
    let k : suc d - (b - 1) ≡ suc (d - (b - 1)) = omega arith in
    record {
      fits = omega arith;
      calm = rw (e, ← (halved s (d - b))) y.calm;
      ends = λ n. rw (k, ← (halved s (d - (b - 1)))) (y.ends n);
    }

ladder : (c : List ℕ) (d s : ℕ) → get_or c s 0 ≡ 0 → Ladder c s d (block_over c s d)
unfolding block_over
ladder c zero s z = record { fits = omega arith; calm = (let e : s / 1 ≡ s = omega arith in rw e z); ends = λ n. absurd (n refl) }
ladder c (suc d) s z =
    same (get_or c (s / 2) 0) 0
    (λ e t. rw t (up c s d (block_over c (s / 2) d) (ladder c d (s / 2) e)))
    (λ n t. rw t (
    let e : suc d - suc d ≡ 0 = omega arith in
    let k : suc d - (suc d - 1) ≡ 1 = omega arith in
    let o : s / 1 ≡ s = omega arith in
    record { fits = omega arith; calm = rw (e, o) z; ends = λ _. rw k n }))

ends-over : (c : List ℕ) (i b : ℕ) → Ladder c (cell_slots + i) 8 b → ends_b c i b ≡ true
ends-over c i b y =
    rw (le-leb b 8 y.fits, eq-eqb _ 0 y.calm) (same b 0 (λ e t. rw t) (λ n t. rw (t, ne_eqb _ 0 (y.ends n))))

one_block : (f g : ℕ → ℕ) (i d e : ℕ) → Block f g i d → Block f g i e → d ≡ e
one_block f g i d e x y =
    less d e (λ h _. absurd (y.least d h x.calm)) (λ h _.
    less e d (λ k _. absurd (x.least e k y.calm)) (λ k _. omega arith))

block_is : (f g : ℕ → ℕ) (c : List ℕ) (i d : ℕ) → i < cell_count → g i ≡ 0 → Busy f g c 1
    → eqb d (block_over c (cell_slots + i) 8) ≡ block_b f g i d
unfolding calm_of
block_is f g c i d h z y =
    let b = block_over c (cell_slots + i) 8 in
    let w : cell_slots + i - cell_slots ≡ i = omega arith in
    let m : eqb (get_or c (cell_slots + i) 0) 0 ≡ true =
    y.tells (cell_slots + i) 0 (omega arith, omega arith, omega arith) (omega arith) ∙ rw w (eq-eqb (g i) 0 z) in
    let t : block_b f g i b ≡ true =
    sym (ends-block f g c i b h y) ∙ ends-over c i b (ladder c 8 (cell_slots + i) (eqb-true _ 0 m)) in
    same d b
    (λ e q. rw (q, e) (sym t))
    (λ n q. rw q (bool (block_b f g i d)
    (λ k. absurd (n (one_block f g i d b ((block_reflects f g i d h).to k) ((block_reflects f g i b h).to t)))) (λ k. sym k)))

-- a cell's word has this block, or a link
abbrev pub cell_is : ℕ → ℕ → Bool
cell_is w q = not (eqb (link_in w) 0) || eqb (block_in w) q

pub cell_is_lem : (l c q : List ℕ) (i : ℕ) → i < cell_count → Busy (slots l) (links l) c 1 → Blocks c q slot_end
    → cell_is (get_or l (cells_at + i) 0) (get_or q (cell_slots + i) 0) ≡ cell_b (slots l) (links l) (blocks l) i
unfolding cell_b
cell_is_lem l c q i h y o =
    same (links l i) 0
    (λ z e. rw (e, o.block 8 (cell_slots + i) (omega arith) (omega arith) (omega arith))
    (block_is (slots l) (links l) c i (blocks l i) h z y))
    (λ n e. rw e)
