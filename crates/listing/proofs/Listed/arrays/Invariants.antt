-- `listing::Listed::arrays` meets its contract: the loop keeps the arrays of the levels below k. Assumes nothing.
use mathlib.Core.Path.{◌≡◌}
use Prim.Native.Nat.{◌+◌, ◌-◌, ◌*◌, ◌≤◌}
use Rattle.routes.specs.Room.{need_to}
use Rattle.listing.specs.Listed.{list_of}
use Rattle.listing.specs.Records.{key_bound}
use Rattle.listing.proofs.Listed.arrays.Given as goal

abbrev pub invariant-loop-k : goal.invariant-loop-k
invariant-loop-k l = (l.k ≤ 4) × (l.sum ≡ need_to 32 (l.k - 1) (list_of l.self.bytes.now)) × (l.sum ≤ 1 + l.k * key_bound)
