-- By the test whether the words are a front. Assumes nothing.
use Rattle.std.proofs.Common.{Ok, ap, arith}
use Rattle.std.proofs.lemmas.Result.{err_from_is_err_and}
use Rattle.routes.specs.Seen.{gives}
use Rattle.damping.specs.Held.{checks_front, checks_fault, no_fault}
use Rattle.damping.proofs.held.check.Goals as goal

pub returns-in_err-front_fault : goal.returns-in_err-front_fault
returns-in_err-front_fault c =
    let p = err_from_is_err_and c.from_residual.result c.from_residual.ensures.1 in
    rw (p.1, p.2) (checks_fault c.args.front.now _ c.in_err-front_fault.ensures)

pub held_in-requires : goal.held_in-requires
held_in-requires c = no_fault c.args.front.now (λ i. search arith) c.in_ok-front_fault.ensures

pub returns : goal.returns
returns c =
    let fs = c.args.front.now in
    checks_front fs (Ok c.held_in.result) (no_fault fs (λ i. search arith) c.in_ok-front_fault.ensures) (ap gives c.held_in.ensures)
