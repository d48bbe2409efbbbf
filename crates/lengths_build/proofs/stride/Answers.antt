-- `lengths_build::stride` meets its contract: the zeros that a number ends with tell the power of 2 in it. Assumes nothing.
use Rattle.std.specs.Prelude.{◌≡◌, ℕ, ◌/◌, ◌%◌, ◌^◌, ◌≤◌, ◌<◌, min}
use Rattle.std.proofs.Common.{arith, eq-eqb, ne_eqb}
use Rattle.std.proofs.lemmas.Nat.Bits.{bit_at-trailing_zeros}
use Rattle.std.proofs.lemmas.Nat.{one_shl}
use Rattle.std.proofs.Math.Pow.{pow_mono, pow_pos}
use lib.Count.{count_trailing_zeros}
use mir.Syntax.{w32}
use Rattle.logic.specs.Cases.{same}
use Rattle.lengths_build.specs.Reach.{stride}
use Rattle.lengths_build.proofs.stride.Goals as goal

module _ (m t : ℕ) (low : (i : ℕ) → i < t → m / 2 ^ i % 2 ≡ 0) where
  -- none of the last four bits is set
  none : 4 ≤ t → 2 ^ min t 4 ≡ stride m
  unfolding stride
  none h =
      let a = low 0 (omega arith) in
      let b = low 1 (omega arith) in
      let c = low 2 (omega arith) in
      let d = low 3 (omega arith) in
      let k : min t 4 ≡ 4 = omega arith in
      rw (
        k,
        eq-eqb (m % 2) 0 (omega arith),
        eq-eqb (m % 4) 0 (omega arith),
        eq-eqb (m % 8) 0 (omega arith),
        eq-eqb (m % 16) 0 (omega arith),
      )

  -- bit t is the lowest that is set
  lowest : m / 2 ^ t % 2 ≡ 1 → 2 ^ min t 4 ≡ stride m
  unfolding stride
  lowest one =
      same t 0 (λ z _. (let o = rw z at one in rw (z, ne_eqb (m % 2) 0 (λ q. omega arith))))
      (λ x _. same t 1 (λ z _. (let o = rw z at one in
      let a = low 0 (omega arith) in
      rw (z, eq-eqb (m % 2) 0 (omega arith), ne_eqb (m % 4) 0 (λ q. omega arith))))
      (λ y _. same t 2 (λ z _. (let o = rw z at one in
      let a = low 0 (omega arith) in
      let b = low 1 (omega arith) in
      rw (z, eq-eqb (m % 2) 0 (omega arith), eq-eqb (m % 4) 0 (omega arith), ne_eqb (m % 8) 0 (λ q. omega arith))))
      (λ w _. same t 3 (λ z _. (let o = rw z at one in
      let a = low 0 (omega arith) in
      let b = low 1 (omega arith) in
      let c = low 2 (omega arith) in
      rw (
        z,
        eq-eqb (m % 2) 0 (omega arith),
        eq-eqb (m % 4) 0 (omega arith),
        eq-eqb (m % 8) 0 (omega arith),
        ne_eqb (m % 16) 0 (λ q. omega arith),
      )))
      (λ v _. none (omega arith)))))

zeros : (m : ℕ) → m < 2 ^ 32 → 2 ^ min (count_trailing_zeros 32 m) 4 ≡ stride m
unfolding stride count_trailing_zeros
zeros m h =
    same m 0 (λ z _. rw z)
    (λ n _. (let b = bit_at-trailing_zeros w32 m (omega arith) h in lowest m (count_trailing_zeros 32 m) b.2 b.1))

pub returns : goal.returns
returns c =
    let k = c.min.result in
    let few : k ≤ 4 = omega (arith, c.min.ensures) in
    let most : 2 ^ k ≤ 2 ^ 4 = pow_mono {i = k} {j = 4} few in
    let z : 2 ^ k ≡ stride c.args.m = rw c.min.ensures (zeros c.args.m (omega arith)) in
    rw (one_shl k 32 (omega arith)) (z, pow_pos k, most)
