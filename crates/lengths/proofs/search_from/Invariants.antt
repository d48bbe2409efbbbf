-- `lengths::search_from` meets its contract. The loop keeps that what is left of the search is the whole of it. Assumes nothing.
use mathlib.Core.Path.{◌≡◌}
use Prim.Native.Nat.{◌+◌, ◌-◌, ◌*◌, ◌^◌, ◌≤◌, ◌<◌}
use lib.ListN.{length, get_or}
use Rattle.lengths.specs.Way.{search as seek}
use Rattle.lengths.proofs.Searching.{looks}
use Rattle.lengths.proofs.search_from.Given as goal

abbrev pub invariant-loop-n : goal.invariant-loop-n
invariant-loop-n l = (l.n ≤ 4) × (2 ^ l.n ≤ l.m) × (l.m ≤ 32) × (1 ≤ l.n → l.m + 2 ^ l.n ≤ 32)
    × (seek (looks l.words l.address) l.n l.m (get_or l.words l.best 0) ≡ seek (looks l.words l.address) 4 16 (get_or l.words 0 0)) × (l.best < length l.words)

abbrev pub decreases-loop-n : goal.decreases-loop-n
decreases-loop-n l = 64 * l.n + (32 - l.m)
