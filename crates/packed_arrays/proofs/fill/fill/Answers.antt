-- `packed_arrays::fill::fill` puts one entry after the other. Assumes nothing.
use mathlib.Core.Path.{refl}
use native.Mathlib.Omega.{arith}
use Rattle.packed_arrays.specs.Filled.{filled_more}
use Rattle.packed_arrays.specs.Mapped.{zero_back}
use Rattle.packed_arrays.proofs.Laws.{slot_is}
use Rattle.packed_arrays.proofs.fill.fill.Goals as goal

pub loop-v-preserved : goal.loop-v-preserved
loop-v-preserved c =
    let l = c.loop-v in
    let a = c.args in
    let slot = slot_is a.page.now a.map.now _ a.m l.v _ _ c.flag_all.ensures c.spread.ensures.0
    (zero_back c.entry-slot.result _ c.entry-slot.ensures.slot) in
    rw c.put_for.ensures (filled_more a.page.now a.map.now a.words.now l.words a.o a.m l.v l.invariant _ _ _ _ _
    (omega (arith, c.requires.2, c.entries-v-end.ensures.0, c.loop-v-test.true)) slot refl refl refl refl)
