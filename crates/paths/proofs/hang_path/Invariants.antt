-- `paths::hang_path` meets its contract. A turn hangs the next of the free arrays below the last. Assumes nothing.
use Prim.Native.Nat.{◌<◌}
use lib.ListN.{length}
use Rattle.numbers.specs.Number.{number}
use Rattle.paths.specs.Hung.{Hanging}
use Rattle.paths.proofs.hang_path.Given as goal

abbrev pub invariant-loop-i : goal.invariant-loop-i
invariant-loop-i l =
    (l.b < 4097)
    × Hanging (length l.address) l.initial.words l.words (number l.address) l.s.level l.k l.s.array l.fresh l.i l.b
