-- The answer to how many prefixes lie inside a given one, by what the words are seen to be. The refusals stand in the order
-- 1, 3, 4, 2. Assumes nothing.
use Rattle.std.specs.Prelude.{cond, ℕ}
use Rattle.routes.specs.Route.{too_long, stray}
use Rattle.routes.specs.Seen.{Answer, gives, refuses}
use Rattle.candidates.specs.Seen.{Seen, misfit, foreign, table}
use Rattle.inside.specs.Inside.{prefixes_inside}

-- a given prefix that is none is told before the words are read
abbrev pub asked : ℕ → ℕ → ℕ → Answer ℕ → Answer ℕ
asked W a l r = cond (too_long W l) (refuses 3) (cond (stray W a l) (refuses 4) r)

-- the words are not checked: on those that are no table it gives what the layout's walk gives
abbrev pub within_on : ℕ → Seen → Answer ℕ → ℕ → ℕ → Answer ℕ
within_on W misfit walked a l = refuses 1
within_on W foreign walked a l = asked W a l walked
within_on W (table A cs) walked a l = asked W a l (gives (prefixes_inside W cs a l))
