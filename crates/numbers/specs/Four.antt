-- Four bytes are an IPv4 address: those of a number, and those that stand in a feed. Assumes nothing.
use Rattle.std.specs.Prelude.{◌≡◌, List, ℕ, suc, ◌+◌, ◌*◌, ◌/◌, ◌%◌, ◌≤◌, ◌<◌, length, take, drop}
use Rattle.std.proofs.Common.{arith, drop-cons}
use Rattle.numbers.specs.Digits.{four, four_at}
use Rattle.numbers.specs.Number.{number}

-- as two halves
pub four-number : (a : ℕ) → a < 4294967296 → number (four a) ≡ a
unfolding number
four-number a h =
    let x : a / 65536 / 256 % 256 * 256 + a / 65536 % 256 ≡ a / 65536 = omega arith in
    let y : a % 65536 / 256 % 256 * 256 + a % 65536 % 256 ≡ a % 65536 = omega arith in
    let z : a / 65536 * 65536 + a % 65536 ≡ a = omega arith in
    omega arith

-- the four from a place on
pub four_at_lem : (bs : List ℕ) (i : ℕ) → i + 4 ≤ length bs → number (take 4 (drop i bs)) ≡ four_at bs i
unfolding number
four_at_lem bs i h =
    let e : i + 1 ≡ suc i = omega arith in
    let f : i + 2 ≡ suc (suc i) = omega arith in
    let g : i + 2 + 1 ≡ suc (suc (suc i)) = omega arith in
    rw (
      drop-cons bs i 0 (omega arith),
      drop-cons bs (suc i) 0 (omega arith),
      drop-cons bs (suc (suc i)) 0 (omega arith),
      drop-cons bs (suc (suc (suc i))) 0 (omega arith),
      e,
      g,
      f,
    ) (omega arith)
