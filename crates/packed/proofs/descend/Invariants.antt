-- `packed::descend` takes a turn of the walk a level. Assumes nothing.
use mathlib.Core.Path.{◌≡◌}
use Prim.Native.Nat.{◌<◌}
use Rattle.routes.specs.Match.{none}
use Rattle.lookup.specs.Walk.{deeper}
use Rattle.packed.specs.Layout.{walk_from, walk}
use Rattle.packed.specs.Ended.{astray}
use Rattle.packed.proofs.descend.Given as goal

abbrev pub invariant-loop-left : goal.invariant-loop-left
invariant-loop-left l =
    (l.o < 4294967296) × (l.best < astray)
    × (walk_from 4 l.words l.address l.left l.o l.m (deeper 0 none l.best) ≡ walk 4 l.words l.address)
