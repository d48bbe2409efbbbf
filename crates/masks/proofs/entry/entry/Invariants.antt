-- `masks::entry::entry` seeks from the highest slot down. Assumes nothing.
use Rattle.std.proofs.Common.{◌≡◌, ◌≤◌}
use Rattle.masks.specs.Sieve.{held_in}
use Rattle.masks.specs.Top.{top}
use Rattle.masks.specs.Entry.{mapped, entry}
use Rattle.masks.proofs.entry.entry.Given as goal

abbrev pub invariant-loop-slot : goal.invariant-loop-slot
invariant-loop-slot l = record {
  low : 1 ≤ l.slot;
  left : top (mapped (held_in l.held) l.m l.y) l.slot ≡ entry (held_in l.held) l.m l.y;
}
