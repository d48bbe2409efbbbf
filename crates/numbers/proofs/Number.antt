-- The number that bytes write down, the high one first, for any number of bytes. Assumes nothing.
--
--     10.1.4.0      number = 10 * 2 ^ 24 + 1 * 2 ^ 16 + 4 * 2 ^ 8 + 0
use Rattle.std.specs.Prelude.{◌≡◌, List, [], ◌∷◌, ℕ, suc, ◌+◌, ◌-◌, ◌*◌, ◌/◌, ◌%◌, ◌^◌, ◌≤◌, ◌<◌, length, get_or, take}
use Rattle.std.specs.Prelude.{drop}
use Rattle.std.proofs.Common.{sym, ap, ap₂, ◌∙◌, arith}
use Rattle.std.proofs.Common.{length-drop, take-append-drop, take-suc}
use Rattle.std.proofs.Common.{get_or-drop, ext_get_or}
use Rattle.std.proofs.Math.Pow.{high, low}
use Rattle.numbers.specs.Front.{front, byte_of}
use Rattle.numbers.specs.Number.{AreBytes, number, number_lt, number_append}

module _ (bs : List ℕ) (ok : AreBytes bs) (k : ℕ) (h : k ≤ length bs) where
  pub number_split : number bs ≡ number (take k bs) * 2 ^ (8 * length bs - 8 * k) + number (drop k bs)
  number_split =
      let e : 8 * length (drop k bs) ≡ 8 * length bs - 8 * k = omega (arith, length-drop k bs) in
      ap number (sym (take-append-drop k bs)) ∙ number_append (take k bs) (drop k bs) ∙ rw e

  rest_lt : number (drop k bs) < 2 ^ (8 * length bs - 8 * k)
  rest_lt =
      let e : 8 * length (drop k bs) ≡ 8 * length bs - 8 * k = omega (arith, length-drop k bs) in
      rw (← e) (number_lt (drop k bs) (λ i. rw (get_or-drop k bs i 0) (ok (k + i))))

  -- the first 8 * k bits are the first k bytes
  pub number-front : front (length bs) (number bs) k ≡ number (take k bs)
  number-front = rw number_split (high (number (take k bs)) (8 * length bs - 8 * k) rest_lt)

  -- and the others the rest
  pub number_rest : number bs % 2 ^ (8 * length bs - 8 * k) ≡ number (drop k bs)
  number_rest = rw number_split (low (number (take k bs)) (8 * length bs - 8 * k) rest_lt)

-- the byte behind the first k
pub number_byte : (bs : List ℕ) → AreBytes bs → (k : ℕ) → k < length bs → byte_of (length bs) (number bs) k ≡ get_or bs k 0
unfolding number
number_byte bs ok k h =
    let s : 8 * length bs - 8 - 8 * k ≡ 8 * length bs - 8 * suc k = omega arith in
    let f : number bs / 2 ^ (8 * length bs - 8 * suc k) ≡ number (take (suc k) bs) = number-front bs ok (suc k) h in
    let g : number (take (suc k) bs) ≡ number (take k bs) * 256 + get_or bs k 0 =
    ap number (take-suc bs k 0 h) ∙ number_append (take k bs) (get_or bs k 0 ∷ []) ∙ omega arith in
    rw (s, f, g) (omega (arith, ok k))

-- equal numbers of equal length have equal bytes
pub number_same : (xs ys : List ℕ) → AreBytes xs → AreBytes ys → length xs ≡ length ys → number xs ≡ number ys → xs ≡ ys
number_same xs ys p q e v =
    ext_get_or 0 xs ys e
    (λ i h. sym (number_byte xs p i h) ∙ ap₂ (λ (n a : ℕ). byte_of n a i) e v ∙ number_byte ys q i (rw (← e) h))
