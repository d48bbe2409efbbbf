-- A call gives something or refuses with a number, never both, and what it gives is one thing. Assumes nothing.
use Rattle.std.specs.Prelude.{◌≡◌, ℕ}
use Rattle.std.proofs.Common.{arith}
use Rattle.routes.specs.Seen.{Answer, gives, refuses}

pub given_one : {T : Type 0} {x y : T} → gives x ≡ gives y → x ≡ y
given_one e = cc

pub refused_one : {T : Type 0} {m n : ℕ} → ◌≡◌ {A = Answer T} (refuses m) (refuses n) → m ≡ n
refused_one e = cc

pub given_refused : {T : Type 0} {x : T} {n : ℕ} → gives x ≡ refuses n → ⊥
given_refused e = let z : ◌≡◌ {A = ℕ} 0 1 = cc in omega arith
