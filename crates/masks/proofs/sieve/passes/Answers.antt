-- `masks::sieve::passes` tests the bits of Y, then each difference in X. Assumes nothing.
use Rattle.std.proofs.Common.{sym, ◌∙◌, arith}
use Rattle.logic.specs.Reflects.{all_none, all_more}
use Rattle.masks.specs.Sieve.{meets}
use Rattle.masks.proofs.Pairs.{pass_not, pass_miss, pass_all}
use Rattle.masks.proofs.sieve.passes.Goals as goal

pub returns-then-m-y : goal.returns-then-m-y
returns-then-m-y c = let a = c.args in pass_not a.xs.now a.y a.m c.if-m-y.true

pub loop-x-init : goal.loop-x-init
loop-x-init c = all_none (meets c.args.xs.now c.args.m)

pub returns-then-not-met : goal.returns-then-not-met
returns-then-not-met c =
    let a = c.args in
    pass_miss a.xs.now a.y a.m c.loop-x.x c.loop-x-test.true
    (sym c.met.ensures ∙ c.if-not-met.true)

pub loop-x-preserved : goal.loop-x-preserved
loop-x-preserved c =
    let l = c.loop-x in
    all_more (meets c.args.xs.now c.args.m) l.x l.invariant
    (sym c.met.ensures ∙ c.if-not-met.false)

pub returns : goal.returns
returns c =
    let l = c.loop-x in
    let a = c.args in
    pass_all a.xs.now a.y a.m l.x l.invariant (omega arith) (omega arith) c.if-m-y.false
