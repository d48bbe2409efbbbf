-- `slots::check::read` meets its contract: what is read of the slots that the loop passed stands in the list, and their
-- candidates are counted. Assumes nothing.
use Rattle.std.proofs.Common.{◌≡◌, ◌+◌, ◌*◌, sym, ◌∙◌, arith}
use Rattle.sizes.specs.Sizes.{last_slot}
use Rattle.slots.specs.Count.{few_candidates}
use Rattle.slots.specs.Read.{read_free, read_count, read_uncounted}
use Rattle.slots.proofs.Laws.{count-start, count-row, count_free}
use Rattle.slots.proofs.check.read.Goals as goal
use Rattle.slots.proofs.check.read.Goals.{then-not-zeros, else-not-zeros}

pub loop-row-init : goal.loop-row-init
loop-row-init c = record { read = c.read_some-bad.ensures; count = count-start _ _ 31 c.candidates-m.ensures.0 }

pub overflow_add-m : goal.overflow_add-m
overflow_add-m c =
    omega (arith, few_candidates c.args.page.now (31 + 32 * c.loop-row.row), c.loop-row.invariant.count, c.candidates-m-then-not-zeros.ensures.1)

pub loop-row-preserved : goal.loop-row-preserved
loop-row-preserved c =
    let l = c.loop-row in
    let e : 31 + 32 * (l.row + 1) ≡ 31 + 32 * l.row + 32 = omega arith in
    elim c.if-not-zeros.branch [
      | then-not-zeros w ↦
          rw (e, w.won-is, w.bad-is, w.m-is) (record {
            read = w.read_some-bad-then-not-zeros.ensures;
            count = count-row _ 32 _ l.m _ l.invariant.count w.candidates-m-then-not-zeros.ensures.0;
          })
      | else-not-zeros w ↦
          let z = sym c.zeros.ensures ∙ w.if-not-zeros.false in
          rw (e, w.won-is, w.bad-is, w.m-is) (record {
            read = read_free _ l.won l.bad _ 32 z l.invariant.read;
            count = count_free _ 32 _ l.m z l.invariant.count;
          })
    ]

pub returns-then-bad-eq0 : goal.returns-then-bad-eq0
returns-then-bad-eq0 c =
    let l = c.loop-row in
    let e : 31 + 32 * l.row ≡ last_slot = omega arith in
    read_count _ l.won l.bad l.m (rw e at l.invariant.read) (rw e at l.invariant.count) c.if-bad-eq0.true

pub returns-else-bad-eq0 : goal.returns-else-bad-eq0
returns-else-bad-eq0 c =
    let l = c.loop-row in
    let e : 31 + 32 * l.row ≡ last_slot = omega arith in
    read_uncounted _ l.won l.bad (rw e at l.invariant.read) c.if-bad-eq0.false
