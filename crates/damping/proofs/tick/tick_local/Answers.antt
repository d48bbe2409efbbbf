-- By the number that stands before the work, or by the tick of a front and any words and the check after it. Assumes nothing.
use Rattle.std.proofs.Common.{Ok, sym, ap, arith}
use Rattle.std.proofs.lemmas.Bool.{false≢true}
use Rattle.std.proofs.lemmas.Result.{err_from_is_err_and}
use Rattle.routes.specs.Seen.{gives}
use Rattle.damping.specs.Locally.{before_passed}
use Rattle.damping.specs.Ticks.{tick_locally_refused}
use Rattle.damping.proofs.Ticks.{ticks_locally}
use Rattle.damping.proofs.tick.tick_local.Goals as goal

pub returns-in_err-refusal_local : goal.returns-in_err-refusal_local
returns-in_err-refusal_local c =
    let p = err_from_is_err_and c.from_residual.result c.from_residual.ensures.1 in
    rw (p.1, p.2) (tick_locally_refused c.args.front.now c.args.words.now _ c.in_err-refusal_local.ensures)

pub tick_with-requires : goal.tick_with-requires
tick_with-requires c =
    let p = before_passed c.args.front.now c.args.words.now 0 (λ i. search arith) (sym c.in_ok-refusal_local.ensures) in
    (p.0, λ k. absurd (false≢true k))

pub returns : goal.returns
returns c =
    let a = c.args in
    let t = c.tick_with in
    let p = before_passed a.front.now a.words.now 0 (λ i. search arith) (sym c.in_ok-refusal_local.ensures) in
    ticks_locally a.front.now a.words.now t.new.front t.new.words (Ok c.held_in.result) p.0 p.1 t.ensures
    (ap gives c.held_in.ensures)
