-- `array::check::bests_are` meets its contract. What the loop carries tells of the cells that it passed. Assumes nothing.
use Rattle.std.proofs.Common.{sym, ap₂, ◌+◌, arith, eqb}
use Rattle.logic.specs.Reflects.{all_none, test_more}
use Rattle.sizes.specs.Sizes.{cell_slots}
use Rattle.array.specs.Page.{slots, bests, best_of}
use Rattle.array.specs.Cover.{cell_cover}
use Rattle.array.proofs.check.bests_are.Goals as goal

pub loop-i-init : goal.loop-i-init
loop-i-init c = sym (all_none _)

pub loop-i-preserved : goal.loop-i-preserved
loop-i-preserved c =
    let l = c.loop-i in
    let p = c.args.page.now in
    test_more (λ j. eqb (bests p j) (best_of (slots p) (cell_slots + j) 8)) l.i l.ok _ l.invariant
    (ap₂ eqb c.best_in.ensures.0 (cell_cover (slots p) c.args.all.now l.i (omega arith) c.requires))
