-- `settle::slot::resettle` meets its contract: by what the slot was and is. Assumes nothing.
use Rattle.settle.specs.Settled.{same_settled}
use Rattle.settle.specs.Recell.{resettled_none, resettled_took, resettled_other, resettled-freed}
use Rattle.settle.specs.Any.{cells_same}
use Rattle.settle.proofs.slot.resettle.Goals as goal

pub returns-then-hop-ne0 : goal.returns-then-hop-ne0
returns-then-hop-ne0 c =
    let free = c.if-old-eq0.true in
    let some = c.if-hop-ne0.true in
    record {
      is = resettled_took _ _ _ _ _ _ free some c.took.ensures.is;
      cells = c.took.ensures.cells;
      right = λ w. c.took.ensures.right (w.free free some);
    }

pub returns-else-hop-ne0 : goal.returns-else-hop-ne0
returns-else-hop-ne0 c =
    let free = c.if-old-eq0.true in
    let none = c.if-hop-ne0.false in
    record {
      is = resettled_none _ _ _ _ _ free none;
      cells = cells_same _;
      right = λ w. same_settled _ (w.none free none);
    }

pub returns-then-hop-eq0 : goal.returns-then-hop-eq0
returns-then-hop-eq0 c =
    let some = c.if-old-eq0.false in
    let none = c.if-hop-eq0.true in
    record {
      is = resettled-freed _ _ _ _ _ _ some none c.freed.ensures.is;
      cells = c.freed.ensures.cells;
      right = λ w. c.freed.ensures.right (w.taken some none);
    }

pub returns-else-hop-eq0 : goal.returns-else-hop-eq0
returns-else-hop-eq0 c =
    let some = c.if-old-eq0.false in
    let other = c.if-hop-eq0.false in
    record {
      is = resettled_other _ _ _ _ _ some other;
      cells = cells_same _;
      right = λ w. same_settled _ (w.other some other);
    }
