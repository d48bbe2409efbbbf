-- `settle::part::climb` meets its contract: the block sought is that from where the loop stands, for all that it passed joins.
-- Assumes nothing.
use Rattle.std.proofs.Common.{◌≡◌, ◌-◌, ◌≤◌}
use Rattle.calm.specs.Climb.{climb_of}
use Rattle.array.specs.Page.{slots, links, blocks}
use Rattle.settle.proofs.part.climb.Given as goal

abbrev pub invariant-loop-m : goal.invariant-loop-m
invariant-loop-m l = record {
  some : 1 ≤ l.m;
  left : climb_of (slots l.page) (links l.page) (blocks l.page) l.over.cell (l.m - 1)
      ≡ climb_of (slots l.page) (links l.page) (blocks l.page) l.over.cell l.over.bits;
}
