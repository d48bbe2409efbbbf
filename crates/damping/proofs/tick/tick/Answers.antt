-- By the number that stands before the work, or by the tick of a front and a table and the check after it. Assumes nothing.
use Rattle.std.proofs.Common.{Ok, sym, ap, arith}
use Rattle.std.proofs.lemmas.Result.{err_from_is_err_and}
use Rattle.routes.specs.Seen.{gives}
use Rattle.damping.specs.Refuse.{passed_all}
use Rattle.damping.specs.Held.{tick_refused, ticks}
use Rattle.damping.proofs.Behind.{ticked_table}
use Rattle.damping.proofs.tick.tick.Goals as goal

pub returns-in_err-refusal : goal.returns-in_err-refusal
returns-in_err-refusal c =
    let p = err_from_is_err_and c.from_residual.result c.from_residual.ensures.1 in
    rw (p.1, p.2) (tick_refused c.args.front.now c.args.words.now _ c.in_err-refusal.ensures)

pub tick_with-requires : goal.tick_with-requires
tick_with-requires c =
    let p = passed_all c.args.front.now c.args.words.now 0 (λ i. search arith) (sym c.in_ok-refusal.ensures) in (p.0, λ _. p.1)

pub returns : goal.returns
returns c =
    let a = c.args in
    let t = c.tick_with in
    let p = passed_all a.front.now a.words.now 0 (λ i. search arith) (sym c.in_ok-refusal.ensures) in
    ticks a.front.now a.words.now t.new.front t.new.words (Ok c.held_in.result) p.0 p.1
    (ticked_table _ _ _ _ p.1 t.ensures) (ap gives c.held_in.ensures)
