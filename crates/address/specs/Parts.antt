-- The number of an address by parts: one byte more, zeros behind the first bytes. Assumes nothing.
use Rattle.std.specs.Prelude.{◌≡◌, refl, List, [], ◌∷◌, ◌++◌, ℕ, zero, suc, ◌+◌, ◌-◌, ◌*◌, ◌^◌, ◌≤◌, ◌<◌, take, replicate}
use Rattle.std.proofs.Math.Path.{ap}
use Rattle.std.proofs.Common.{◌∙◌, zero-mul, arith, take-suc}
use Rattle.std.proofs.Math.ListN.{length, get_or, length-append, length-replicate, get_or-append}
use Rattle.std.proofs.Math.Seq.{length-take-le, get_or-take, get_or-append-add}
use Rattle.logic.specs.Cases.{less}
use Rattle.numbers.specs.Number.{number, AreBytes, number_append}

pub number_more : (bs : List ℕ) (k : ℕ) → k < length bs → number (take (suc k) bs) ≡ number (take k bs) * 256 + get_or bs k 0
unfolding number
number_more bs k h = ap number (take-suc bs k 0 h) ∙ number_append (take k bs) (get_or bs k 0 ∷ []) ∙ omega arith

-- ---- the first m bytes, then zeros

abbrev zeros : ℕ → List ℕ
zeros n = replicate n 0

unfoldable pub filled : ℕ → List ℕ → List ℕ
filled m bs = take m bs ++ zeros (length bs - m)

zeros-number : (n : ℕ) → number (zeros n) ≡ 0
unfolding number
zeros-number zero = refl
zeros-number (suc n) = omega (arith, zeros-number n, zero-mul (2 ^ (8 * length (zeros n))))

zeros_byte : (n i : ℕ) → get_or (zeros n) i 0 ≡ 0
zeros_byte zero i = refl
zeros_byte (suc n) zero = refl
zeros_byte (suc n) (suc i) = zeros_byte n i

module _ (bs : List ℕ) (m : ℕ) (h : m ≤ length bs) where
  pub filled-number : number (filled m bs) ≡ number (take m bs) * 2 ^ (8 * (length bs - m))
  unfolding filled
  filled-number =
      let n = length bs - m in
      number_append (take m bs) (zeros n)
      ∙ ap (λ (k : ℕ). number (take m bs) * 2 ^ (8 * k) + number (zeros n)) (length-replicate {A = ℕ} n 0)
      ∙ omega (arith, zeros-number n)

  pub filled-length : length (filled m bs) ≡ length bs
  unfolding filled
  filled-length =
      let n = length bs - m in
      omega (arith, length-append (take m bs) (zeros n), length-take-le m bs h, length-replicate {A = ℕ} n 0)

  pub filled-own : (i : ℕ) → i < m → get_or (filled m bs) i 0 ≡ get_or bs i 0
  unfolding filled
  filled-own i s =
      get_or-append (take m bs) (zeros (length bs - m)) 0 i (omega (arith, length-take-le m bs h)) ∙ get_or-take m bs i 0 s

  pub filled_zero : (i : ℕ) → m ≤ i → get_or (filled m bs) i 0 ≡ 0
  unfolding filled
  filled_zero i s =
      let zs = zeros (length bs - m) in
      let e : i ≡ length (take m bs) + (i - m) = omega (arith, length-take-le m bs h) in
      ap (λ (j : ℕ). get_or (take m bs ++ zs) j 0) e ∙ get_or-append-add (take m bs) zs (i - m) 0
      ∙ zeros_byte (length bs - m) (i - m)

  pub filled-bytes : AreBytes bs → AreBytes (filled m bs)
  filled-bytes ok i = less i m (λ s _. rw (filled-own i s) (ok i)) (λ s _. omega (arith, filled_zero i s))
