-- The test tells the words of a front. Assumes nothing.
use Rattle.std.proofs.Common.{sym, ◌∙◌, arith}
use Rattle.rows.specs.Told.{front-told}
use Rattle.damping.specs.Refuse.{front_is}
use Rattle.damping.proofs.front_fault.Goals as goal

pub returns-then-is_front : goal.returns-then-is_front
returns-then-is_front c =
    let fs = c.args.front.now in
    let r = c.is_front in
    rw (sym (front_is fs r.result r.ensures (front-told fs (λ i. search arith))) ∙ c.if-is_front.true)

pub returns : goal.returns
returns c =
    let fs = c.args.front.now in
    let r = c.is_front in
    rw (sym (front_is fs r.result r.ensures (front-told fs (λ i. search arith))) ∙ c.if-is_front.false)
