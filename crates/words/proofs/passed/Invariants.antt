-- `words::passed` leaves out groups that are full, a stride at a time: what is left to search stays the same. Assumes nothing.
use Rattle.std.proofs.Common.{◌*◌}
use Rattle.sizes.specs.Sizes.{group_stride}
use Rattle.words.specs.Frees.{Passed}
use Rattle.words.proofs.passed.Given as goal

abbrev pub invariant-loop-k : goal.invariant-loop-k
invariant-loop-k l = Passed l.words (group_stride * l.k)
