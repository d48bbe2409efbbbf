-- A number written down as n bytes and read back, wherever these stand. Assumes nothing.
use Rattle.std.specs.Prelude.{◌≡◌, refl, [], ◌∷◌, ℕ, zero, suc, ◌+◌, ◌*◌, ◌/◌, ◌%◌, ◌^◌, length}
use Rattle.std.proofs.Common.{sym, ap, ◌∙◌, arith}
use Rattle.std.proofs.lemmas.Nat.{mod-pow-add}
use Rattle.numbers.specs.Digits.{four, digits}
use Rattle.numbers.specs.Number.{AreBytes, number}

pub digits-length : (n a : ℕ) → length (digits n a) ≡ n
unfolding digits
digits-length zero a = refl
digits-length (suc n) a = ap suc (digits-length n a)

pub digits-bytes : (n a : ℕ) → AreBytes (digits n a)
unfolding digits
digits-bytes zero a i = omega arith
digits-bytes (suc n) a zero = omega arith
digits-bytes (suc n) a (suc i) = digits-bytes n a i

-- a number too great for n bytes loses what is above them
pub rest : (n a : ℕ) → number (digits n a) ≡ a % 2 ^ (8 * n)
unfolding number digits
rest zero a = omega arith
rest (suc n) a =
    let e : 8 + 8 * n ≡ 8 * suc n = omega arith in
    rw (digits-length n a, rest n a) (sym (mod-pow-add a 8 (8 * n)) ∙ ap (λ (k : ℕ). a % 2 ^ k) e)

-- four bytes by halves
pub four-digits : (a : ℕ) → digits 4 a ≡ four a
unfolding digits
four-digits a =
    let p : a / 2 ^ 24 % 256 ≡ a / 65536 / 256 % 256 = omega arith in
    let q : a / 2 ^ 16 % 256 ≡ a / 65536 % 256 = omega arith in
    let r : a / 2 ^ 8 % 256 ≡ a % 65536 / 256 % 256 = omega arith in
    let s : a / 2 ^ 0 % 256 ≡ a % 65536 % 256 = omega arith in
    λ i. p i ∷ q i ∷ r i ∷ s i ∷ []
