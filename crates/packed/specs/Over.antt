-- A byte has a prefix exactly where the prefix's slot stands over the byte's own. Assumes nothing.
--
--     byte 01101010 is cell 106, below slot 362      362 / 2 ^ 4 = 22 = the slot of 0110xxxx
use Rattle.std.specs.Prelude.{◌≡◌, refl, true, ◌&&◌, ℕ, ◌+◌, ◌-◌, ◌*◌, ◌/◌, ◌^◌, ◌≤◌, ◌<◌, eqb}
use Rattle.std.proofs.Common.{sym, ap, ◌∙◌, true≢false, arith, pow_pos, pow-add, shr_lt, eqb-true, eq-eqb, le-leb}
use Rattle.std.proofs.Math.Nat.{add-mul-div_right}
use Rattle.std.proofs.lemmas.Nat.{shl-shr}
use Rattle.std.specs.Int.Count.{count_leading_zeros}
use Rattle.logic.specs.Cases.{bool, same}
use Rattle.logic.specs.Bools.{and_to}
use Rattle.logic.specs.Every.{all_b}
use Rattle.logic.specs.Reflects.{all_to_lem}
use Rattle.sizes.specs.Sizes.{slot_end, cell_slots, cell_count}
use Rattle.masks.specs.Bits.{bit_shift, same_bits, high_bit}
use Rattle.masks.specs.Prefix.{spare, value, has, slot}
use Rattle.masks.specs.On.{has_on}

-- the slot j levels over a byte has j spare bits, and the byte has its prefix
ups : all_b (λ j. all_b (λ y. eqb (spare ((cell_slots + y) / 2 ^ j)) j && has y ((cell_slots + y) / 2 ^ j)) cell_count) 9 ≡ true
unfolding all_b count_leading_zeros
ups = refl

pub up : (j y : ℕ) → j ≤ 8 → y < cell_count
    → (spare ((cell_slots + y) / 2 ^ j) ≡ j) × (has y ((cell_slots + y) / 2 ^ j) ≡ true)
up j y h l =
    let over = (cell_slots + y) / 2 ^ j in
    let row = all_to_lem (λ j. all_b (λ y. eqb (spare ((cell_slots + y) / 2 ^ j)) j && has y ((cell_slots + y) / 2 ^ j))
    cell_count) 9
    ups j (omega arith) in
    let e = all_to_lem (λ y. eqb (spare ((cell_slots + y) / 2 ^ j)) j && has y ((cell_slots + y) / 2 ^ j)) cell_count row y l in
    let a = and_to (eqb (spare over) j) (has y over) e in
    (eqb-true (spare over) j a.0, a.1)

module _ (y s : ℕ) (small : y < cell_count) (low : 1 ≤ s) (high : s < slot_end) where
  -- the bits that the prefix has
  first_bits : has y s ≡ true → value s / 2 ^ spare s ≡ y / 2 ^ spare s
  first_bits e =
      let k = spare s in
      let p = slot s low high in
      let o = (has_on y s).to e in
      let w : 8 - k + k ≡ 8 = omega (arith, p.short) in
      same_bits (8 - k) (value s / 2 ^ k) (y / 2 ^ k)
      (shr_lt (8 - k) k (rw w (omega (arith, p.low, p.high)))) (shr_lt (8 - k) k (rw w small))
      (λ i h.
      bit_shift (value s) k i
      ∙ o.each (k + i) (omega arith) (high_bit k (k + i) p.short (omega arith) ∙ rw (le-leb k (k + i) (omega arith)))
      ∙ sym (bit_shift y k i))

  pub has-up : has y s ≡ true → (cell_slots + y) / 2 ^ spare s ≡ s
  has-up e =
      let k = spare s in
      let p = slot s low high in
      let o : 8 - k + k ≡ 8 = omega (arith, p.short) in
      let w : 2 ^ (8 - k) * 2 ^ k ≡ 256 = sym (pow-add 2 (8 - k) k) ∙ ap (λ (n : ℕ). 2 ^ n) o in
      let a : cell_slots + y ≡ y + 2 ^ (8 - k) * 2 ^ k = omega arith in
      let b : value s + 2 ^ (8 - k) * 2 ^ k ≡ s * 2 ^ k = omega (arith, p.low) in
      ap (λ (n : ℕ). n / 2 ^ k) a ∙ add-mul-div_right y (2 ^ (8 - k)) (pow_pos k)
      ∙ ap (λ (n : ℕ). n + 2 ^ (8 - k)) (sym (first_bits e))
      ∙ sym (add-mul-div_right (value s) (2 ^ (8 - k)) (pow_pos k)) ∙ ap (λ (n : ℕ). n / 2 ^ k) b ∙ shl-shr s k

  -- so one shift and one comparison tell
  pub has_shift : has y s ≡ eqb ((cell_slots + y) / 2 ^ spare s) s
  has_shift =
      bool (has y s)
      (λ e. e ∙ sym (eq-eqb ((cell_slots + y) / 2 ^ spare s) s (has-up e)))
      (λ e. same ((cell_slots + y) / 2 ^ spare s) s
      (λ q _. absurd (true≢false (sym (ap (has y) (sym q) ∙ (up (spare s) y (slot s low high).short small).1) ∙ e)))
      (λ _ d. e ∙ sym d))
