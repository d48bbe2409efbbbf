-- A prefix of an address of L bytes, and where it stands: in the array of its level, with what is left of its length and its bits
-- there. Assumes nothing.
--
--     10.1.4.0/22, L = 4      level 2, depth 6, value 1: the first 6 bits of byte 4
use Rattle.std.specs.Prelude.{◌≡◌, List, ◌⊎◌, cond, ℕ, ◌+◌, ◌-◌, ◌*◌, ◌/◌, ◌%◌, ◌^◌, ◌≤◌, ◌<◌, length}
use Rattle.std.proofs.Common.{inl, inr, ⊎_elim, arith}
use Rattle.logic.specs.Cases.{same, less}
use Rattle.sizes.specs.Sizes.{level_bound}
use Rattle.numbers.specs.Front.{byte_of, value}
use Rattle.routes.specs.Route.{too_long, stray}
use Rattle.routes.specs.Room.{level}

-- lent bytes that are an address: some, and not more than a tag has levels for
pub record IsAddress (bs : List ℕ) : Type 0 where
  pub some : 1 ≤ length bs
  pub levels : length bs < level_bound

-- no bit after the length is set
pub record IsPrefix (L a l : ℕ) : Type 0 where
  pub fits : l ≤ 8 * L
  pub clean : a % 2 ^ (8 * L - l) ≡ 0

-- the number of the first fault of a prefix, 0 where it has none
abbrev pub prefix_fault : ℕ → ℕ → ℕ → ℕ
prefix_fault W a l = cond (too_long W l) 3 (cond (stray W a l) 4 0)

pub no_fault : (L a l : ℕ) → prefix_fault (8 * L) a l ≡ 0 → IsPrefix L a l
no_fault L a l e =
    less (8 * L) l (λ _ t. absurd (omega (arith, rw t at e)))
    (λ h t. same (a % 2 ^ (8 * L - l)) 0 (λ q _. record { fits = h; clean = q }) (λ _ y. absurd (omega (arith, rw (t, y) at e))))

pub record Stands (L a l k d x : ℕ) : Type 0 where
  pub top : k < L
  pub deep : d ≤ 8
  pub own : (1 ≤ d) ⊎ (k ≡ 0)
  pub whole : l ≡ 8 * k + d
  pub bits : x ≡ value L a k d

pub stands-level : (L a l k d x : ℕ) → Stands L a l k d x → level l ≡ k
stands-level L a l k d x s =
    ⊎_elim (λ (z : 1 ≤ d). omega (arith, s.whole, s.deep)) (λ (z : k ≡ 0). omega (arith, s.whole, s.deep)) s.own

pub stands_at : (L a l k d y : ℕ) → 1 ≤ L → l ≤ 8 * L → k ≡ level l → d ≡ l - 8 * k → y ≡ byte_of L a k
    → Stands L a l k d (y / 2 ^ (8 - d))
stands_at L a l k d y z h ek ed ey = record {
  top = omega arith;
  deep = omega arith;
  own = same l 0 (λ o _. inr (omega arith)) (λ n _. inl (omega arith));
  whole = omega arith;
  bits = rw ey;
}
