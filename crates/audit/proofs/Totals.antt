-- The total of the array below a cell: a law for each way out of the function. Assumes nothing.
use mathlib.Core.Path.{◌≡◌, sym, ◌∙◌}
use mathlib.Core.Logic.{◌≢◌}
use mathlib.Core.List.{List}
use Prim.Native.Nat.{ℕ, ◌<◌}
use native.Mathlib.Omega.{arith}
use lib.ListN.{get_or-eq_default}
use Rattle.sizes.specs.Sizes.{total_at, word_at}
use Rattle.totals.specs.Sums.{sum, sum_none, sum_some}
use Rattle.words.specs.Words.{totals_of}
use Rattle.words.specs.Size.{Sized}

-- ---- the array below a cell

module _ (ws : List ℕ) (n b : ℕ) where
  pub below_none : b ≡ 0 → 0 ≡ sum (totals_of ws) b 1
  below_none e = sym (sum_none (totals_of ws) b 1 e)

  -- past the last array all reads 0
  pub below_far : Sized ws n → n < b → 0 ≡ sum (totals_of ws) b 1
  below_far z h =
      sym (sum_some (totals_of ws) b 1 (omega arith)
      ∙ get_or-eq_default ws 0 {n = word_at b (total_at 1)} (omega (arith, z.whole)))

  pub below_there : (r : ℕ) → b ≢ 0 → r ≡ totals_of ws b 1 → r ≡ sum (totals_of ws) b 1
  below_there r h e = e ∙ sym (sum_some (totals_of ws) b 1 (omega arith))
