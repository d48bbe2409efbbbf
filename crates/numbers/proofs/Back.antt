-- A number written down as n bytes and read back, wherever these stand. Assumes nothing.
use Rattle.std.specs.Prelude.{◌≡◌, List, ◌++◌, ℕ, ◌*◌, ◌^◌, ◌<◌, length}
use Rattle.std.proofs.Common.{sym, ◌∙◌, mod-eq_of_lt, take_at, drop_at}
use Rattle.numbers.specs.Digits.{digits}
use Rattle.numbers.specs.Number.{AreBytes, number, number_at, number_lt}
use Rattle.numbers.proofs.Number.{number_same}
use Rattle.numbers.specs.Back.{digits-length, digits-bytes, rest}

pub digits_number : (n a : ℕ) → a < 2 ^ (8 * n) → number (digits n a) ≡ a
digits_number n a h = rest n a ∙ mod-eq_of_lt h

-- bytes are those of their number
pub number_digits : (n : ℕ) (bs : List ℕ) → length bs ≡ n → AreBytes bs → digits n (number bs) ≡ bs
number_digits n bs e ok =
    let h : number bs < 2 ^ (8 * n) = rw e at (number_lt bs ok) in
    number_same (digits n (number bs)) bs (digits-bytes n (number bs)) ok (digits-length n (number bs) ∙ sym e)
    (digits_number n (number bs) h)

pub number_back : (pre ys : List ℕ) (i n a : ℕ) → i ≡ length pre → a < 2 ^ (8 * n) → number_at n (pre ++ (digits n a ++ ys)) i ≡ a
number_back pre ys i n a e h =
    rw (drop_at pre (digits n a ++ ys) i (sym e), take_at (digits n a) ys n (digits-length n a)) (digits_number n a h)
