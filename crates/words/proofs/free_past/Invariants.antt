-- `words::free_past` finds the first free array past some groups: one that is told full offers none, so what is left to search
-- stays the same. Assumes nothing.
use Rattle.std.proofs.Common.{◌≡◌, ◌≤◌}
use Rattle.words.specs.Offers.{behind}
use Rattle.words.proofs.free_past.Given as goal

abbrev pub invariant-loop-g : goal.invariant-loop-g
invariant-loop-g l = (l.from ≤ l.g) × (behind l.words l.g ≡ behind l.words l.from)
