-- `within::descend` is the layout's walk. The loop's invariant: what is left of the walk, from this array on, is the whole walk.
-- Assumes nothing.
use mathlib.Core.Path.{◌≡◌}
use Prim.Native.Nat.{◌-◌, ◌≤◌}
use lib.ListN.{length}
use Rattle.numbers.specs.Number.{number}
use Rattle.within.specs.Walk.{walk_from}
use Rattle.within.proofs.descend.Given as goal

abbrev pub invariant-loop-j : goal.invariant-loop-j
invariant-loop-j l =
    let L = length l.address in
    let x = number l.address in
    (1 ≤ l.a) × (l.a ≤ l.arrays) × (walk_from L l.words x l.s l.k (l.k - l.j) l.a ≡ walk_from L l.words x l.s l.k l.k 1)
