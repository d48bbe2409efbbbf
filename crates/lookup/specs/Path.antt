-- One level of an address's path: which slots of its array the address's lengths are held in, which array is below its cell, and
-- that nothing longer is held where the path ends. Assumes nothing.
--
--     the first 8 * k bits v      byte i of level k
--     ── path of v ──▶ array a    slot of its first j bits: (256 + i) / 2 ^ (8 - j), held for v * 2 ^ j + i / 2 ^ (8 - j)
--                                 cell i ── link ──▶ the array of level k + 1, or nothing longer is held
use Rattle.std.specs.Prelude.{◌≡◌, ℕ, suc, ◌+◌, ◌-◌, ◌*◌, ◌/◌, ◌^◌, ◌≤◌, ◌<◌}
use Rattle.std.proofs.Common.{sym, ap, ◌∙◌, arith, shr-shr, shr_lt}
use Rattle.sizes.specs.Sizes.{cell_slots, cell_count}
use Rattle.logic.specs.Cases.{same}
use Rattle.numbers.specs.Powers.{cut}
use Rattle.numbers.specs.Front.{front, byte_of, front_more}
use Rattle.tree.specs.Arrays.{Arrays, node, held}
use Rattle.tree.specs.Shape.{Shape}
use Rattle.tree.specs.Need.{held_at, at_some, node_child, above}

-- ---- bytes of an address

-- the slot of a byte's first bits
slot_cut : (i e j : ℕ) → e + j ≡ 8 → (cell_slots + i) / 2 ^ e ≡ 2 ^ j + i / 2 ^ e
slot_cut i e j p = cut 1 i j e (omega arith) ∙ omega arith

byte_cut : (i e j : ℕ) → e + j ≡ 8 → i < cell_count → i / 2 ^ e < 2 ^ j
byte_cut i e j p b = let q : j + e ≡ 8 = omega arith in shr_lt j e (rw q b)

-- the first 8 * k + j bits of an address of L bytes
pub bits : (L x k e j : ℕ) → k < L → e + j ≡ 8 → x / 2 ^ (8 * L - (8 * k + j)) ≡ front L x k * 2 ^ j + byte_of L x k / 2 ^ e
bits L x k e j p q =
    let s = 8 * L - 8 * suc k in
    let r : 8 * L - (8 * k + j) ≡ s + e = omega arith in
    rw r (sym (shr-shr x s e) ∙ ap (λ (y : ℕ). y / 2 ^ e) (front_more L x k p)
    ∙ cut (front L x k) (byte_of L x k) j e (omega arith))

-- ---- the array of the first 8 * k bits v

-- a length of its level, over cell i
pub slot_held : (t : Arrays) (v k i e j : ℕ) → 1 ≤ node t v k → i < cell_count → e + j ≡ 8 → 1 ≤ j
    → held t (v * 2 ^ j + i / 2 ^ e) (8 * k + j) ≡ t.slot (node t v k) ((cell_slots + i) / 2 ^ e)
slot_held t v k i e j there b q h =
    held_at t v k j (i / 2 ^ e) h (omega arith) (byte_cut i e j q b)
    ∙ at_some t (node t v k) (2 ^ j + i / 2 ^ e) there
    ∙ ap (t.slot (node t v k)) (sym (slot_cut i e j q))

-- ---- the array a of level k on the path of an address x, and its cell there

module _ (L : ℕ) (t : Arrays) (x k : ℕ) (top : k < L) (there : 1 ≤ node t (front L x k) k) where
  abbrev a : ℕ
  a = node t (front L x k) k

  abbrev i : ℕ
  i = byte_of L x k

  -- a length of this level
  pub along_slot : (j e : ℕ) → e + j ≡ 8 → 1 ≤ j
      → held t (x / 2 ^ (8 * L - (8 * k + j))) (8 * k + j) ≡ t.slot a ((cell_slots + i) / 2 ^ e)
  along_slot j e q h =
      ap (λ (v : ℕ). held t v (8 * k + j)) (bits L x k e j top q)
      ∙ slot_held t (front L x k) k i e j there (omega arith) q h

  -- the array below the cell
  pub below-cell : node t (front L x (suc k)) (suc k) ≡ t.link a i
  below-cell =
      ap (λ (v : ℕ). node t v (suc k)) (front_more L x k top)
      ∙ node_child t (front L x k) k i (omega arith) there

  -- where the path ends, nothing longer is held
  pub nothing_longer : (A : ℕ) → Shape A L t → x < 2 ^ (8 * L) → t.link a i ≡ 0
      → (l : ℕ) → 8 * suc k < l → l ≤ 8 * L → held t (x / 2 ^ (8 * L - l)) l ≡ 0
  nothing_longer A s small z l h w = same (held t (x / 2 ^ (8 * L - l)) l) 0 (λ q _. q) (λ q _. absurd (omega (
    arith,
    below-cell,
    above A L t s (8 * L) (suc k) (front L x (suc k)) (omega arith) (record {
      v = x / 2 ^ (8 * L - l);
      l = l;
      long = h;
      fits = w;
      small = let e : l + (8 * L - l) ≡ 8 * L = omega arith in shr_lt l (8 * L - l) (rw e small);
      head =
          let e : 8 * L - l + (l - 8 * suc k) ≡ 8 * L - 8 * suc k = omega arith in
          shr-shr x (8 * L - l) (l - 8 * suc k) ∙ rw e;
      held = omega arith;
    }),
  )))
