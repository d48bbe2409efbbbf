-- `packed_arrays::flags::flag_all` sets one flag after the other. Assumes nothing.
use native.Mathlib.Omega.{arith}
use Rattle.packed_arrays.specs.Flags.{flagged_none, flagged_more}
use Rattle.packed_arrays.proofs.flags.flag_all.Goals as goal

pub loop-s-init : goal.loop-s-init
loop-s-init c = flagged_none c.args.page.now c.args.held.now c.told-held

pub loop-s-preserved : goal.loop-s-preserved
loop-s-preserved c =
    let l = c.loop-s in
    flagged_more c.args.page.now l.held l.s c.flag.result l.auto.s (omega arith) c.flag.ensures l.invariant
