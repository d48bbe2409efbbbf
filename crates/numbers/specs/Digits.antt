-- Numbers of one, two, four and n bytes, the high byte first. Assumes nothing.
use Rattle.std.specs.Prelude.{List, [], ◌∷◌, ◌++◌, ℕ, zero, suc, ◌+◌, ◌*◌, ◌/◌, ◌%◌, ◌^◌, get_or}

abbrev pub one : ℕ → List ℕ
one n = (n % 256) ∷ []

abbrev pub two : ℕ → List ℕ
two n = (n / 256 % 256) ∷ (n % 256) ∷ []

abbrev pub four : ℕ → List ℕ
four n = two (n / 65536) ++ two (n % 65536)

unfoldable pub digits : ℕ → ℕ → List ℕ
digits zero a = []
digits (suc n) a = (a / 2 ^ (8 * n) % 256) ∷ digits n a

abbrev pub two_at : List ℕ → ℕ → ℕ
two_at bs i = get_or bs i 0 * 256 + get_or bs (i + 1) 0

abbrev pub four_at : List ℕ → ℕ → ℕ
four_at bs i = two_at bs i * 65536 + two_at bs (i + 2)
