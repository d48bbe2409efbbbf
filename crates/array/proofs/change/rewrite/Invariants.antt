-- `array::change::rewrite` meets its contract. The page is the one at the start with the cells passed rewritten, and the number
-- is that of those that gave way. Assumes nothing.
use Rattle.std.proofs.Common.{◌≡◌, ◌-◌, ◌≤◌}
use Rattle.array.specs.Rewrite.{over, map_cells, yielding}
use Rattle.array.proofs.change.rewrite.Given as goal

abbrev pub invariant-loop-i : goal.invariant-loop-i
invariant-loop-i l = record {
  few : l.cells ≤ l.i;
  list : l.page ≡ map_cells (over l.d l.best) l.initial.page l.from (l.i - l.from);
  count : l.cells ≡ yielding l.initial.page l.d l.from (l.i - l.from);
}
