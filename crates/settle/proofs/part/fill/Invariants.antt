-- `settle::part::fill` meets its contract: the page is the one at the start with the cells passed written. Assumes nothing.
use Rattle.std.proofs.Common.{◌≡◌, ◌-◌}
use Rattle.settle.specs.Fill.{filled}
use Rattle.settle.proofs.part.fill.Given as goal

abbrev pub invariant-loop-i : goal.invariant-loop-i
invariant-loop-i l = l.page ≡ filled l.initial.page l.from (l.i - l.from) l.q
