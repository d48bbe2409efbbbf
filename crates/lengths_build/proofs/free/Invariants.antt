-- `lengths_build::free` meets its contract. The loop keeps that the places passed are taken. Not all are, so it ends inside.
-- Assumes nothing.
use Prim.Native.Nat.{◌*◌, ◌≤◌}
use Rattle.lengths.specs.Layout.{places_of}
use Rattle.lengths_build.proofs.Entry.{Passed}
use Rattle.lengths_build.proofs.free.Given as goal

abbrev pub invariant-loop-d : goal.invariant-loop-d
invariant-loop-d l = (l.d ≤ 4 * l.t.size) × Passed (places_of l.words l.t.m l.t.o (4 * l.t.size)) (4 * l.t.size) l.v l.d
