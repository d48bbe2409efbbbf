-- No total of a table is over 511 times its arrays, so that none wraps. Assumes nothing.
use Rattle.std.specs.Prelude.{◌≡◌, ℕ, zero, suc, ◌+◌, ◌-◌, ◌*◌, ◌^◌, ◌<◌, ◌≤◌, length, refl}
use Rattle.std.proofs.Common.{arith}
use Rattle.logic.specs.Cases.{same}
use Rattle.sizes.specs.Sizes.{last_slot}
use Rattle.routes.specs.Collect.{collect, routes}
use Rattle.slots.specs.Taken.{taken}
use Rattle.tree.specs.Arrays.{Arrays, held}
use Rattle.tree.specs.Shape.{Shape}
use Rattle.tree.specs.Taken.{First, taken_to}
use Rattle.tree.proofs.Taken.{taken-routes}
use Rattle.inside.specs.Held.{inside_most}
use Rattle.inside.proofs.Below.{routes-inside}
use Rattle.totals.specs.Sums.{Sums}

taken_most : (f : ℕ → ℕ) (n : ℕ) → taken f n ≤ n
unfolding taken
taken_most f zero = omega arith
taken_most f (suc n) =
    let g = taken_most f n in
    same (f (n + 1)) 0 (λ _ e. rw e (omega (arith, g))) (λ _ e. rw e (omega (arith, g)))

to_most : (t : Arrays) (n : ℕ) → taken_to t n ≤ last_slot * n
unfolding taken_to
to_most t zero = omega arith
to_most t (suc n) =
    let g = to_most t n in
    same (t.tag (suc n)) 0
    (λ _ e. rw e (omega (arith, g)))
    (λ _ e. rw e (omega (arith, g, taken_most (t.slot (suc n)) last_slot)))

module _ (A L : ℕ) (t : Arrays) (T : ℕ → ℕ → ℕ) (s : Shape A L t) (c : Sums A t T) (r : First A t) where
  pub list_most : length (routes (8 * L) (held t)) ≤ last_slot * A
  list_most = omega (arith, taken-routes A L (taken_to t A) t s r refl, to_most t A)

  -- any part of the list
  pub part_most : (v l e : ℕ) → l + e ≡ 8 * L → v < 2 ^ l → length (collect (held t) e v l) ≤ last_slot * A
  part_most v l e p b =
      let q : 8 * L - l ≡ e = omega arith in
      let g = rw q at (routes-inside (8 * L) (held t) v l (omega arith) b) in
      omega (arith, list_most, g, inside_most (8 * L) (v * 2 ^ e) l (routes (8 * L) (held t)))
