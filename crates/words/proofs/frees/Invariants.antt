-- `words::frees` finds free arrays one after the other, each without slots and cells. Assumes nothing.
use Rattle.words.specs.Frees.{Offered, found_last, FreesTo}
use Rattle.words.proofs.frees.Given as goal

abbrev pub invariant-loop-i : goal.invariant-loop-i
invariant-loop-i l = Offered l.words l.last × FreesTo l.words l.i (found_last l.last) l.all
