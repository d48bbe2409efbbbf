-- `words::first_free` finds the first free array of a range: those passed are used. Assumes nothing.
use Rattle.std.proofs.Common.{◌≡◌, ◌-◌, ◌≤◌}
use Rattle.words.specs.Words.{arrays_of}
use Rattle.tree.specs.Free.{first_free}
use Rattle.words.proofs.first_free.Given as goal

abbrev pub invariant-loop-a : goal.invariant-loop-a
invariant-loop-a l =
    (l.from ≤ l.a)
    × (first_free (arrays_of l.words) l.a (l.to - l.a) ≡ first_free (arrays_of l.words) l.from (l.to - l.from))
