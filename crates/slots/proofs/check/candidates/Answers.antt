-- `slots::check::candidates` meets its contract. The number so far is that of the words passed which are not 0. Assumes nothing.
use Rattle.std.proofs.Common.{arith}
use Rattle.slots.proofs.Laws.{count_more, count_same, count_done}
use Rattle.slots.proofs.check.candidates.Goals as goal
use Rattle.slots.proofs.check.candidates.Goals.{then-page-at-ne0, else-page-at-ne0}

pub loop-k-preserved : goal.loop-k-preserved
loop-k-preserved c =
    let l = c.loop-k in
    let a = c.args in
    elim c.if-page-at-ne0.branch [
      | then-page-at-ne0 w ↦
          let h = count_more a.page.now a.from l.k w.if-page-at-ne0.true in
          rw w.m-is (record { few = omega arith; count = omega arith })
      | else-page-at-ne0 w ↦
          let h = count_same a.page.now a.from l.k w.if-page-at-ne0.false in
          rw w.m-is (record { few = omega arith; count = omega arith })
    ]

pub returns : goal.returns
returns c =
    let l = c.loop-k in
    (count_done c.args.page.now c.args.from l.k c.args.n l.m l.invariant.count (omega arith), omega arith)
