-- Every cell without a link has a block: the least number of first bits at which the array is calm below it. Assumes nothing.
use Rattle.std.specs.Prelude.{◌≡◌, cond}
use Rattle.std.proofs.Common.{sym, ◌∙◌}
use Rattle.std.proofs.Math.Bool.{true≢false}
use Prim.Native.Nat.{ℕ, zero, suc, ◌-◌, ◌≤◌, ◌<◌}
use native.Mathlib.Omega.{arith}
use Rattle.logic.specs.Cases.{bool}
use Rattle.calm.specs.Calm.{Calm, Block, Settled, calm_less}
use Rattle.calm.specs.Check.{calm_at, calm_reflects}

-- from m down, while it is calm one bit above
unfoldable pub least_of : (ℕ → ℕ) → (ℕ → ℕ) → ℕ → ℕ → ℕ
least_of f g i zero = 0
least_of f g i (suc m) = cond (calm_at f g i m) (least_of f g i m) (suc m)

abbrev pub block_of : (ℕ → ℕ) → (ℕ → ℕ) → ℕ → ℕ
block_of f g i = least_of f g i 8

module _ (f g : ℕ → ℕ) where
  pub least_block : (i m : ℕ) → i < 256 → m ≤ 8 → Calm f g i (8 - m) → Block f g i (least_of f g i m)
  unfolding least_of
  least_block i zero b h z = record { fits = h; calm = z; least = λ c l _. omega arith }
  least_block i (suc m) b h z =
      let t = calm_reflects f g (8 - m) i (omega arith) b in
      bool (calm_at f g i m)
      (λ e. rw e (least_block i m b (omega arith) (t.to e)))
      (λ e. rw e (record {
        fits = h;
        calm = z;
        least = λ c l y. true≢false (sym (t.from (calm_less f g i (8 - c) (8 - m) (omega arith) y)) ∙ e);
      }))

  -- below the cell itself there is nothing but its link
  pub block_exists : (i : ℕ) → i < 256 → g i ≡ 0 → Block f g i (block_of f g i)
  block_exists i b o =
      least_block i 8 b (omega arith) (λ j jb q. (let e : j ≡ i = omega arith in rw e o, λ c l. absurd (omega arith)))

  pub settled_exists : Settled f g (block_of f g)
  settled_exists = block_exists
