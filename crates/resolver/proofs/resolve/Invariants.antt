-- `resolver::resolve`: a turn keeps what the way stands for, which has a lookup left. The measure is the lookups left. Assumes nothing.
use mathlib.Core.Path.{◌≡◌}
use Rattle.std.proofs.Common.{◌≤◌}
use Rattle.words.specs.Table.{seen}
use Rattle.resolver.specs.Entry.{lead_by}
use Rattle.resolver.specs.Resolve.{walked_by, resolve_on, routed}
use Rattle.resolver.specs.Steps.{looks}
use Rattle.resolver.specs.Turns.{stands}
use Rattle.resolver.specs.Begun.{entries}
use Rattle.resolver.specs.Coded.{as_way}
use Rattle.resolver.proofs.resolve.Given as goal

abbrev pub invariant-loop-run : goal.invariant-loop-run
invariant-loop-run g l =
    (1 ≤ l.way.left)
    × (stands (looks l.words) (lead_by (g.R.Run.at l.run)) (as_way l.way)
    ≡ routed (resolve_on (seen 4 l.words) (walked_by l.words) (entries (g.R.Run.at l.run) (g.R.Run.entries l.run)) l.address))

abbrev pub decreases-loop-run : goal.decreases-loop-run
decreases-loop-run g l = l.way.left
