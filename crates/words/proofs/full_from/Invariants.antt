-- `words::full_from` tests the counts of a stride's groups. What the loop carries tells of those that it passed. Assumes nothing.
use Rattle.std.proofs.Common.{◌≡◌, ◌+◌, eqb, get_or}
use Rattle.logic.specs.Every.{all_b}
use Rattle.sizes.specs.Sizes.{per_group}
use Rattle.words.proofs.full_from.Given as goal

abbrev pub invariant-loop-k : goal.invariant-loop-k
invariant-loop-k l = l.full ≡ all_b (λ j. eqb (get_or l.words (l.g + 1 + j) 0) per_group) l.k
