-- `audit::table::candidates_of` tells of all arrays: those passed are right, and their candidates are summed. Assumes nothing.
use mathlib.Core.Path.{refl}
use native.Mathlib.Omega.{arith}
use Rattle.logic.specs.Reflects.{all_none}
use Rattle.gather.specs.Counted.{candidates_of}
use Rattle.audit.proofs.Laws.{arrays_stop, arrays_more, arrays_fit}
use Rattle.audit.proofs.table.candidates_of.Goals as goal

pub loop-j-init : goal.loop-j-init
unfolding candidates_of
loop-j-init c = (all_none _, refl)

pub returns-in_err-m : goal.returns-in_err-m
returns-in_err-m c =
    let a = c.args in
    rw c.from_residual.ensures
    (arrays_stop a.lent.now.levels a.lent.now.words.now c.loop-j.j a.lent.now.arrays (omega arith) c.in_err-m.ensures)

pub overflow_add-m : goal.overflow_add-m
overflow_add-m c =
    let l = c.loop-j in
    let a = c.args in
    omega (arith, arrays_fit a.lent.now.levels a.lent.now.words.now l.j l.m _ c.in_ok-m.ensures l.invariant.1, c.args.lent.now.sized.most)

pub loop-j-preserved : goal.loop-j-preserved
loop-j-preserved c =
    let l = c.loop-j in
    let a = c.args in
    arrays_more a.lent.now.levels a.lent.now.words.now l.j l.m _ c.in_ok-m.ensures l.invariant.1 l.invariant.0
