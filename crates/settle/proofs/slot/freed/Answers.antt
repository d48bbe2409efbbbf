-- `settle::slot::freed` meets its contract: nothing changes below a link or where a longer slot is taken, and else the block
-- found is written (`freed-joins`). Assumes nothing.
use Rattle.std.proofs.Common.{refl, arith}
use Rattle.array.specs.Cell.{linked_by, unlinked_by}
use Rattle.settle.specs.Recell.{freed-linked_is, freed-deep_is, freed_alone_is, freed-joins_is}
use Rattle.settle.specs.Any.{cells_same, cells-again}
use Rattle.settle.specs.Slot.{freed-linked, freed-deep, freed_alone, freed-joins}
use Rattle.settle.proofs.slot.freed.Goals as goal
use Rattle.settle.proofs.slot.freed.Goals.{then-has_link-via-then-has_link, then-has_link-via-else-has_link+then-block_in-over}

pub returns-then-has_link : goal.returns-then-has_link
returns-then-has_link c =
    let a = c.args.over in
    let p = c.args.page.now in
    elim c.then-has_link.branch [
      | then-has_link-via-then-has_link v ↦
          let n = linked_by _ _ c.has_link.ensures v.if-has_link.true in
          record { is = freed-linked_is p a.cell a.bits n; cells = cells_same _; right = λ w. freed-linked p a.cell a.bits (omega arith) w n }
      | then-has_link-via-else-has_link+then-block_in-over v ↦ record {
        is = freed-deep_is p a.cell a.bits (omega (arith, v.block_in.ensures.0));
        cells = cells_same _;
        right = λ w. freed-deep p a.cell a.bits (omega arith) w (omega (arith, v.block_in.ensures.0));
      }
    ]

pub returns-then-q-over : goal.returns-then-q-over
returns-then-q-over c =
    let a = c.args.over in
    let p = c.args.page.now in
    let o = unlinked_by _ _ c.has_link.ensures c.if-has_link.false in
    let q = c.climb-q.ensures.0 in
    let fill = rw (c.to.ensures.0, c.to.ensures.1) at c.fill_below.ensures in
    record {
      is = freed-joins_is p a.cell a.bits o _ q (omega (arith, c.block_in.ensures.0)) _ _ (omega arith) (omega arith) refl fill;
      cells = cells-again fill;
      right = λ w. freed-joins p a.cell a.bits (omega arith) w o (omega (arith, c.block_in.ensures.0)) _ q _ _ refl (omega arith) fill;
    }

pub returns-else-q-over : goal.returns-else-q-over
returns-else-q-over c =
    let a = c.args.over in
    let p = c.args.page.now in
    let o = unlinked_by _ _ c.has_link.ensures c.if-has_link.false in
    let q = c.climb-q.ensures.0 in
    record {
      is = freed_alone_is p a.cell a.bits o _ q (omega (arith, c.block_in.ensures.0)) (omega arith);
      cells = cells_same _;
      right = λ w. freed_alone p a.cell a.bits (omega arith) w o (omega (arith, c.block_in.ensures.0)) _ q (omega arith);
    }
