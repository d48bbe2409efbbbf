-- When words are a list laid out by lengths, and that the walk on them then gives the longest match. Assumes nothing.
use Rattle.std.specs.Prelude.{◌≡◌, List, ℕ, ◌-◌, ◌/◌, ◌^◌, ◌<◌, length}
use Rattle.std.proofs.Common.{ap, ◌∙◌, le-ltb}
use native.Mathlib.Omega.{arith}
use Rattle.routes.specs.Route.{Route, IsList}
use Rattle.routes.specs.Match.{longest}
use Rattle.routes.specs.Seen.{gives}
use Rattle.laws.specs.Longest.{wfs}
use Rattle.lengths.specs.Way.{hit, search, code}
use Rattle.lengths.specs.Marks.{best_at}
use Rattle.lengths.proofs.Held.{list_way}
use Rattle.lengths.specs.Layout.{header_words, look, walk}
use Rattle.lengths.specs.Layout.{answered}
use Rattle.lengths.specs.Laid.{Laid, code_back, laid_look, longest-low}

module _ (rs : List Route) (ws : List ℕ) (l : IsList 32 rs) (c : Laid rs ws) (a : ℕ) (h : a < 4294967296) where
  laid_search : search (λ m. look ws m (a / 2 ^ (32 - m))) 4 16 (best_at rs 0 (a / 2 ^ 32)) ≡ hit (code (longest 32 a rs))
  laid_search = list_way rs (wfs 32 rs l.routes) a (λ m. look ws m (a / 2 ^ (32 - m)))
      (λ m i j. (laid_look rs ws l c a h) m (a / 2 ^ (32 - m)) i j)

  pub laid_walk : walk ws a ≡ gives (longest 32 a rs)
  unfolding walk
  laid_walk =
      let z : a / 4294967296 ≡ 0 = omega arith in
      rw (le-ltb (length ws) header_words (omega (arith, c.long)), c.default)
      (ap answered (rw z at laid_search) ∙ code_back (longest 32 a rs) (longest-low rs ws l c a h))
