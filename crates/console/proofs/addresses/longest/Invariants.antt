-- Of the groups passed, the stretch that ends them and the longest are known. Assumes nothing.
use Rattle.console.specs.Groups.{group}
use Rattle.console.proofs.Zeros.{Search}
use Rattle.console.proofs.addresses.longest.Given as goal

abbrev pub invariant-loop-i : goal.invariant-loop-i
invariant-loop-i l = Search (group l.bytes) l.i l.from l.best.start l.best.end
