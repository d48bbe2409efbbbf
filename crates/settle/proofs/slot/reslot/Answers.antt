-- `settle::slot::reslot` meets its contract: the hops that won in the slot before and after tell which blocks change. Assumes
-- nothing.
use Prim.Native.Nat.{◌-◌, ◌<◌}
use native.Mathlib.Omega.{arith}
use lib.Pow.{pow_pos}
use Rattle.sizes.specs.Sizes.{cell_count}
use Rattle.settle.proofs.Laws.{resets_any}
use Rattle.settle.proofs.slot.reslot.Goals as goal

pub returns : goal.returns
returns c =
    let i = c.first_cell in
    let b : i.result < cell_count = omega (arith, i.ensures.1, pow_pos (8 - c.args.d)) in
    resets_any c.args.page.now _ c.args.d c.args.x c.args.feed c.args.word i.result _ i.ensures.0 b
    c.requires.0.depth c.requires.1 c.reslot-changed.ensures _
    c.resettle.ensures
