-- The or of words: it is 0 where all of them are. Assumes nothing.
use Rattle.std.specs.Prelude.{◌≡◌, ◌&&◌, ℕ, eqb}
use Rattle.std.proofs.Common.{arith, eq-eqb, ne_eqb}
use Rattle.std.specs.Int.Bits.{bit_or, or_add_and}
use Rattle.std.proofs.lemmas.Nat.{and_le_l, and_le_r}
use Rattle.logic.specs.Cases.{same}

pub or_none : (a b : ℕ) → eqb (bit_or a b) 0 ≡ (eqb a 0 && eqb b 0)
or_none a b =
    let s = or_add_and a b in
    let l = and_le_l a b in
    let r = and_le_r a b in
    same a 0
    (λ e x. same b 0 (λ f y. rw (x, y) (eq-eqb (bit_or a b) 0 (omega arith)))
    (λ n y. rw (x, y) (ne_eqb (bit_or a b) 0 (λ z. omega arith))))
    (λ n x. rw x (ne_eqb (bit_or a b) 0 (λ z. omega arith)))
