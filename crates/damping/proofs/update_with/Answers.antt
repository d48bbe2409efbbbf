-- A fault of its own is refused; the rest is the work. Assumes nothing.
use Rattle.std.proofs.Common.{sym, ◌∙◌}
use Rattle.update.specs.Fault.{number_some}
use Rattle.damping.specs.Code.{update_of}
use Rattle.damping.specs.Locally.{locally_fault, locally_damped}
use Rattle.damping.proofs.update_with.Goals as goal

pub returns-in-Err : goal.returns-in-Err
returns-in-Err c =
    let a = c.args in
    let n = c.number in
    locally_fault a.front.now a.words.now (update_of a.candidate a.update) n.result c.requires.fits
    (n.ensures.0 ∙ c.in-Err.ensures) (λ z. number_some c.in-Err.e (sym n.ensures.0 ∙ z))

pub returns-in-Ok : goal.returns-in-Ok
returns-in-Ok c =
    let a = c.args in
    locally_damped a.front.now a.words.now (update_of a.candidate a.update) _ _ c.update_in.result
    c.requires.front c.requires.fits (sym c.in-Ok.ensures) c.update_in.ensures
