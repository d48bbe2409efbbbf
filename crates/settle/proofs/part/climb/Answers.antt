-- `settle::part::climb` meets its contract: the block sought is that from where the loop stands, for all that it passed joins.
-- Assumes nothing.
use Rattle.std.proofs.Common.{◌≢◌, ◌-◌, sym, ◌∙◌, arith}
use Rattle.calm.specs.Climb.{climb_top, climb_stop, climb_up}
use Rattle.array.specs.Page.{slots, links, blocks}
use Rattle.settle.proofs.part.climb.Goals as goal

pub returns-then-not-joins : goal.returns-then-not-joins
returns-then-not-joins c =
    let p = c.args.page.now in
    let m = c.loop-m.m - 1 in
    let n : m ≢ 0 = λ z. omega arith in
    let j = rw (c.to.ensures.0, c.to.ensures.1) at (sym c.joins.ensures ∙ c.if-not-joins.true) in
    (sym (climb_stop (slots p) (links p) (blocks p) c.args.over.cell m n j) ∙ c.loop-m.invariant.left, omega arith)

pub loop-m-preserved : goal.loop-m-preserved
loop-m-preserved c =
    let p = c.args.page.now in
    let m = c.loop-m.m - 1 in
    let n : m ≢ 0 = λ z. omega arith in
    let j = rw (c.to.ensures.0, c.to.ensures.1) at (sym c.joins.ensures ∙ c.if-not-joins.false) in
    record {
      some = omega arith;
      left = sym (climb_up (slots p) (links p) (blocks p) c.args.over.cell m n j) ∙ c.loop-m.invariant.left;
    }

pub returns : goal.returns
returns c =
    let p = c.args.page.now in
    (sym (climb_top (slots p) (links p) (blocks p) c.args.over.cell (c.loop-m.m - 1) (omega arith)) ∙ c.loop-m.invariant.left, omega arith)
