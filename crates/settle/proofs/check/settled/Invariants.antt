-- `settle::check::settled` meets its contract: what the loop carries tells of the cells that it passed. Assumes nothing.
use Rattle.std.proofs.Common.{◌≡◌}
use Rattle.logic.specs.Every.{all_b}
use Rattle.calm.specs.Check.{cell_b}
use Rattle.array.specs.Page.{slots, links, blocks}
use Rattle.settle.proofs.check.settled.Given as goal

abbrev pub invariant-loop-i : goal.invariant-loop-i
invariant-loop-i l = l.ok ≡ all_b (cell_b (slots l.page) (links l.page) (blocks l.page)) l.i
