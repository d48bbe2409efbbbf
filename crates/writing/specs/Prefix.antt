-- The address of the prefix at which writing out stands, as bytes. Those that the prefix reaches into are its own, with zeros
-- behind it in the last one. The bytes behind are anything: a prefix further down has left its own there. Assumes nothing.
--
--     10.1.4.0/22, which has 10 bits below it, reaches into 4 - 10 / 8 = 3 bytes: 10, 1 and 4. Two of them are whole
use Rattle.std.specs.Prelude.{◌≡◌, ◌≢◌, List, ℕ, suc, ◌+◌, ◌-◌, ◌*◌, ◌/◌, ◌%◌, ◌^◌, ◌≤◌, ◌<◌, length, get_or, take, set}
use Rattle.std.proofs.Common.{sym, ap, ap₂, ◌∙◌, mul_assoc, add-mul, arith, get_or-set_same, pow-add, shr-shr, shl_lt}
use Rattle.std.proofs.Math.ListN.{length-set}
use Rattle.std.proofs.Math.Seq.{take-set-le}
use Rattle.std.proofs.lemmas.Nat.{shl-shr}
use Rattle.std.proofs.Math.Pow.{high}
use Rattle.logic.specs.Cases.{less}
use Rattle.sizes.specs.Sizes.{slot_words, slot_at, word_at}
use Rattle.numbers.specs.Number.{number, AreBytes}
use Rattle.address.specs.Parts.{number_more, filled, filled-number}

-- ---- the definitions: a prefix with some bits below it, in an address of L bytes

-- how many bytes it reaches into
abbrev pub reach : ℕ → ℕ → ℕ
reach L bits = L - bits / 8

-- how many of them are whole
abbrev pub whole : ℕ → ℕ → ℕ
whole L bits = (8 * L - bits) / 8

-- its value
unfoldable pub prefix_of : List ℕ → ℕ → ℕ
prefix_of a bits = number (take (reach (length a) bits) a) / 2 ^ (bits % 8)

-- the address is that of the prefix v
pub record Leads (a : List ℕ) (bits v : ℕ) : Type 0 where
  pub most : bits ≤ 8 * length a
  pub bytes : number (take (reach (length a) bits) a) ≡ v * 2 ^ (bits % 8)

-- made that of the prefix in slot p, of which the whole bytes are there: a slot's number has its bits behind a 1
unfoldable pub stand_at : List ℕ → ℕ → ℕ → List ℕ
stand_at a p bits = set a (length a - 1 - bits / 8) (p / slot_words * 2 ^ (bits % 8) % 256)

-- ---- the value and the whole address

module _ {a : List ℕ} {bits v : ℕ} (h : Leads a bits v) where
  pub leads-value : prefix_of a bits ≡ v
  unfolding prefix_of
  leads-value = rw h.bytes (shl-shr v (bits % 8))

  pub leads-own : Leads a bits (prefix_of a bits)
  leads-own = rw leads-value h

  pub leads-number : number (filled (reach (length a) bits) a) ≡ v * 2 ^ bits
  leads-number =
      let e : length a - reach (length a) bits ≡ bits / 8 = omega (arith, h.most) in
      let f : bits % 8 + 8 * (bits / 8) ≡ bits = omega arith in
      filled-number a (reach (length a) bits) (omega arith)
      ∙ ap₂ (λ (x n : ℕ). x * 2 ^ (8 * n)) h.bytes e
      ∙ mul_assoc v (2 ^ (bits % 8)) (2 ^ (8 * (bits / 8)))
      ∙ ap (λ (x : ℕ). v * x) (sym (pow-add 2 (bits % 8) (8 * (bits / 8))) ∙ ap (λ (n : ℕ). 2 ^ n) f)

  -- the bytes above the last bits of a prefix one bit longer
  pub leads_whole : AreBytes a → bits ≢ 0 → number (take (whole (length a) bits) a) ≡ v / 2 ^ (7 - (bits - 1) % 8)
  leads_whole ok n =
      let k = whole (length a) bits in
      less ((bits - 1) % 8) 7
      (λ l _.
      let r : reach (length a) bits ≡ suc k = omega (arith, h.most) in
      let e : bits % 8 + (7 - (bits - 1) % 8) ≡ 8 = omega arith in
      let m = ap (λ (j : ℕ). number (take j a)) (sym r) ∙ h.bytes in
      let g : number (take k a) * 2 ^ 8 + get_or a k 0 ≡ v * 2 ^ (bits % 8) =
      sym (number_more a k (omega (arith, h.most))) ∙ m in
      sym (high (number (take k a)) 8 (ok k))
      ∙ ap (λ (x : ℕ). x / 2 ^ 8) g
      ∙ ap (λ (j : ℕ). v * 2 ^ (bits % 8) / 2 ^ j) (sym e)
      ∙ sym (shr-shr (v * 2 ^ (bits % 8)) (bits % 8) (7 - (bits - 1) % 8))
      ∙ ap (λ (x : ℕ). x / 2 ^ (7 - (bits - 1) % 8)) (shl-shr v (bits % 8)))
      (λ l _.
      let r : reach (length a) bits ≡ k = omega (arith, h.most) in
      let e : bits % 8 ≡ 0 = omega arith in
      let f : 7 - (bits - 1) % 8 ≡ 0 = omega arith in
      ap (λ (j : ℕ). number (take j a)) (sym r) ∙ h.bytes ∙ rw (e, f) (omega arith))

-- ---- standing at another prefix

module _ (a : List ℕ) (p bits : ℕ) where
  pub stand-length : length (stand_at a p bits) ≡ length a
  unfolding stand_at
  stand-length = length-set a (length a - 1 - bits / 8) (p / slot_words * 2 ^ (bits % 8) % 256)

  pub stand-kept : (k : ℕ) → k ≤ length a - 1 - bits / 8 → take k (stand_at a p bits) ≡ take k a
  unfolding stand_at
  stand-kept k h = take-set-le k a (length a - 1 - bits / 8) (p / slot_words * 2 ^ (bits % 8) % 256) h

-- a slot's number, moved to the front of its byte, is there the bits of its prefix: an array's slots before it are 3 * 256
slot_byte : (A d x e : ℕ) → d + e ≡ 8 → x < 2 ^ d → word_at A (slot_at (2 ^ d + x)) / slot_words * 2 ^ e % 256 ≡ x * 2 ^ e
slot_byte A d x e h s =
    let w : 2 ^ d * 2 ^ e ≡ 256 = sym (pow-add 2 d e) ∙ ap (λ (n : ℕ). 2 ^ n) h in
    let l : x * 2 ^ e < 256 = rw h at (shl_lt d e s) in
    let n : word_at A (slot_at (2 ^ d + x)) / slot_words ≡ 768 * A + (2 ^ d + x) = omega arith in
    rw n (omega arith)

pub stand-leads : (a : List ℕ) (bits A q d x : ℕ) → bits < 8 * length a → d + bits % 8 ≡ 8 → x < 2 ^ d
    → number (take (length a - 1 - bits / 8) a) ≡ q
    → Leads (stand_at a (word_at A (slot_at (2 ^ d + x))) bits) bits (q * 2 ^ d + x)
unfolding stand_at
stand-leads a bits A q d x h e s w =
    let k = length a - 1 - bits / 8 in
    let y = word_at A (slot_at (2 ^ d + x)) / slot_words * 2 ^ (bits % 8) % 256 in
    let b = set a k y in
    let l : length b ≡ length a = length-set a k y in
    let r : reach (length b) bits ≡ suc k = omega (arith, l) in
    let z : 2 ^ d * 2 ^ (bits % 8) ≡ 256 = sym (pow-add 2 d (bits % 8)) ∙ ap (λ (n : ℕ). 2 ^ n) e in
    let f : number (take k b) ≡ q = ap number (take-set-le k a k y (omega arith)) ∙ w in
    let g : get_or b k 0 ≡ x * 2 ^ (bits % 8) = get_or-set_same a k y 0 (omega arith) ∙ slot_byte A d x (bits % 8) e s in
    let m : (q * 2 ^ d + x) * 2 ^ (bits % 8) ≡ q * 256 + x * 2 ^ (bits % 8) =
    add-mul (q * 2 ^ d) x (2 ^ (bits % 8))
    ∙ ap (λ (n : ℕ). n + x * 2 ^ (bits % 8)) (mul_assoc q (2 ^ d) (2 ^ (bits % 8)) ∙ ap (λ (n : ℕ). q * n) z) in
    record {
      most = omega (arith, l);
      bytes =
          ap (λ (n : ℕ). number (take n b)) r
          ∙ number_more b k (omega (arith, l))
          ∙ ap₂ (λ (u t : ℕ). u * 256 + t) f g
          ∙ sym m;
    }
