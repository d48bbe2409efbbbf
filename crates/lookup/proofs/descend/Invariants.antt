-- `lookup::descend` is the layout's walk. The loop's invariant: what is left of the walk, from this array on and with the best so far,
-- is the whole walk. Assumes nothing.
use Rattle.std.proofs.Common.{◌≡◌, ◌-◌, ◌≤◌, length}
use Rattle.routes.specs.Match.{none}
use Rattle.numbers.specs.Number.{number}
use Rattle.lookup.specs.Walk.{deeper, walk_from, walk}
use Rattle.lookup.proofs.descend.Given as goal

abbrev pub invariant-loop-k : goal.invariant-loop-k
invariant-loop-k l =
    let L = length l.address in
    let x = number l.address in
    (1 ≤ l.a) × (l.a ≤ l.arrays) × (walk_from L l.words x (L - l.k) l.a (deeper 0 none l.best) ≡ walk L l.words x)
