-- By the number that stands before the work, or by the work's promise on a front. Assumes nothing.
use Rattle.std.proofs.Common.{sym, ap, ◌∙◌, arith}
use Rattle.std.proofs.lemmas.Bool.{false≢true}
use Rattle.refusals.specs.Number.{fault}
use Rattle.update.specs.Fault.{number_some}
use Rattle.damping.specs.Code.{update_of}
use Rattle.damping.specs.Refuse.{fault_sound}
use Rattle.damping.specs.Locally.{refusal_before, locally_refused, locally_damped, before_passed}
use Rattle.damping.proofs.update_local.Goals as goal

pub returns-in-Err : goal.returns-in-Err
returns-in-Err c =
    let a = c.args in
    let n = c.number in
    locally_refused a.front.now a.words.now (update_of a.candidate a.update) n.result
    (n.ensures.0 ∙ c.in-Err.ensures ∙ ap (refusal_before a.front.now a.words.now) c.own_fault-own.ensures)
    (λ z. number_some c.in-Err.e (sym n.ensures.0 ∙ z))

pub update_in-requires : goal.update_in-requires
update_in-requires c =
    let a = c.args in
    let own = c.own_fault-own in
    let p = before_passed a.front.now a.words.now (fault own.result) (λ i. search arith) (sym c.in-Ok.ensures) in
    record {
      front = p.0;
      table = λ k. absurd (false≢true k);
      sound = fault_sound (update_of a.candidate a.update) (sym own.ensures ∙ p.2);
    }

pub returns-in-Ok : goal.returns-in-Ok
returns-in-Ok c =
    let a = c.args in
    let u = update_of a.candidate a.update in
    let own = c.own_fault-own in
    let p = before_passed a.front.now a.words.now (fault own.result) (λ i. search arith) (sym c.in-Ok.ensures) in
    locally_damped a.front.now a.words.now u _ _ c.update_in.result p.0 p.1 (sym own.ensures ∙ p.2) c.update_in.ensures
