-- `settle::slot::took` meets its contract: nothing changes below a link or where no block was shorter, and else the cells part
-- (`took_parts`). Assumes nothing.
use Rattle.std.proofs.Common.{arith}
use Rattle.array.specs.Cell.{linked_by, unlinked_by}
use Rattle.settle.specs.Recell.{took_linked_is, took_deep_is, took_parts_is}
use Rattle.settle.specs.Any.{cells_same, cells-again}
use Rattle.settle.specs.Slot.{took_linked, took_deep, took_parts}
use Rattle.settle.proofs.slot.took.Goals as goal
use Rattle.settle.proofs.slot.took.Goals.{else-not-has_link-via-then-not-has_link+else-q-over, else-not-has_link-via-else-not-has_link}

pub returns-then-q-over : goal.returns-then-q-over
returns-then-q-over c =
    let a = c.args.over in
    let p = c.args.page.now in
    let o = unlinked_by _ _ c.has_link.ensures c.if-not-has_link.true in
    record {
      is = took_parts_is p a.cell a.bits o _ _ (omega arith) c.block_in-q.ensures.0 (omega arith) c.part.ensures;
      cells = cells-again c.part.ensures;
      right = λ w. took_parts p a.cell a.bits (omega arith) w _ _ o c.block_in-q.ensures.0 (omega arith) c.part.ensures;
    }

pub returns-else-not-has_link : goal.returns-else-not-has_link
returns-else-not-has_link c =
    let a = c.args.over in
    let p = c.args.page.now in
    elim c.else-not-has_link.branch [
      | else-not-has_link-via-then-not-has_link+else-q-over v ↦ record {
        is = took_deep_is p a.cell a.bits _ c.block_in-q.ensures.0 (omega arith);
        cells = cells_same _;
        right = λ w. took_deep p a.cell a.bits (omega arith) w (omega (arith, c.block_in-q.ensures.0));
      }
      | else-not-has_link-via-else-not-has_link v ↦
          let n = linked_by _ _ c.has_link.ensures v.if-not-has_link.false in
          record { is = took_linked_is p a.cell a.bits n; cells = cells_same _; right = λ w. took_linked p a.cell a.bits (omega arith) w n }
    ]
