-- `paths::walk_down` meets its contract. At each turn a is the array of the first j bytes, its tags lead up, and what is left of the
-- path test is the whole. Assumes nothing.
use Prim.Native.Nat.{◌<◌}
use lib.ListN.{length}
use Rattle.numbers.specs.Number.{number}
use Rattle.paths.specs.Way.{Going}
use Rattle.paths.proofs.walk_down.Given as goal

abbrev pub invariant-loop-j : goal.invariant-loop-j
invariant-loop-j l = (l.a < 4097) × Going (length l.address) l.words (number l.address) l.k l.j l.a
