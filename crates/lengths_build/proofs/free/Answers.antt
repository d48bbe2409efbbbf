-- `lengths_build::free` meets its contract: not all places are taken, so the way does not end. Assumes nothing.
use Prim.Native.Nat.{◌*◌}
use Rattle.lengths.specs.Layout.{places_of}
use Rattle.lengths_build.proofs.Entry.{free_none}
use Rattle.lengths_build.proofs.free.Goals as goal

pub unreachable-requires : goal.unreachable-requires
unreachable-requires c =
    let a = c.args in
    free_none (places_of a.words.now a.t.m a.t.o (4 * a.t.size)) (4 * a.t.size) a.v c.loop-d.d c.loop-d-test.false
    c.loop-d.invariant.1 c.requires.room
