-- The size of a table's words, by the number of its arrays. Assumes nothing.
use Rattle.std.specs.Prelude.{◌≡◌, ℕ, ◌+◌, ◌≤◌, false, List, length}
use Rattle.std.proofs.Common.{arith}
use Rattle.sizes.specs.Sizes.{least_words, most_words, most_arrays, array_at}
use Rattle.routes.specs.Seen.{misfits}
use Rattle.words.specs.Words.{array_count}
use Rattle.words.specs.View.{no_misfit_fits}

-- no fewer words than a table has at least, and no more than it has at most
abbrev pub Bounded : List ℕ → Type 0
Bounded ws = (least_words ≤ length ws) × (length ws ≤ most_words)

-- the words of n arrays and of the header
pub record Sized (ws : List ℕ) (n : ℕ) : Type 0 where
  pub whole : length ws ≡ array_at (n + 1)
  pub some : 1 ≤ n
  pub most : n ≤ most_arrays

pub sized : (ws : List ℕ) (n : ℕ) → misfits (length ws) ≡ false → n ≡ array_count ws → Sized ws n
sized ws n e q =
    let f = no_misfit_fits (length ws) e in
    rw q (record { whole = omega (arith, f.whole, f.low); some = omega (arith, f.low); most = omega (arith, f.high) })
