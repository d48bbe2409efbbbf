-- What a look of the code gives, as the definitions' look: the code tells the word of a best match. Assumes nothing.
use Rattle.std.specs.Prelude.{◌≡◌, List, ℕ, ◌<◌, length, get_or}
use Rattle.lengths.specs.Way.{miss, hit, outside}
use Rattle.lengths.specs.Way as way
use Rattle.lengths.specs.declared.Look.{Look}
use Rattle.lengths.specs.declared.Look.TheVariants.{Miss, Hit, Outside}

abbrev pub look_of : List ℕ → Look → way.Look
look_of ws Miss = miss
look_of ws (Hit at) = hit (get_or ws at 0)
look_of ws Outside = outside

-- the word that it tells is there
abbrev pub there : List ℕ → Look → Type 0
there ws Miss = Unit {0}
there ws (Hit at) = at < length ws
there ws Outside = Unit {0}

pub record Looked (ws : List ℕ) (r : Look) (x : way.Look) : Type 0 where
  pub told : look_of ws r ≡ x
  pub inside : there ws r
