-- `audit::check_of` answers by what the words are seen to be: what the test counts are candidates, and the header counts the arrays
-- needed. Assumes nothing.
use mathlib.Core.Path.{◌≡◌, sym, ◌∙◌}
use native.Mathlib.Omega.{arith}
use Rattle.std.specs.Prelude.{Some, None}
use Rattle.std.proofs.lemmas.Result.{err_from_is_err_and}
use Rattle.refusals.specs.declared.Refusal.TheVariants as refusal
use Rattle.audit.proofs.Laws.{check_misfit, check_foreign, check_table}
use Rattle.audit.proofs.check_of.Goals as goal

pub returns-then-misfit : goal.returns-then-misfit
returns-then-misfit c =
    let a = c.args in
    check_misfit a.levels a.words.now (sym c.misfit.ensures ∙ c.if-misfit.true)

pub returns-in_err-routes : goal.returns-in_err-routes
returns-in_err-routes c =
    let p = err_from_is_err_and c.from_residual.result c.from_residual.ensures.1 in
    let z : c.candidates.result ≡ None = grind arith in
    let q : c.in_err-routes.field-0.0 ≡ refusal.Foreign = grind arith in
    let a = c.args in
    rw (p.1, p.2, q)
    (check_foreign a.levels a.words.now (sym c.misfit.ensures ∙ c.if-misfit.false) (sym z ∙ c.candidates.ensures))

pub returns : goal.returns
returns c =
    let z : c.candidates.result ≡ Some c.in_ok-routes.routes = grind arith in
    let a = c.args in
    check_table a.levels a.words.now _ c.requires.0 c.requires.1
    (sym c.misfit.ensures ∙ c.if-misfit.false) (sym z ∙ c.candidates.ensures)
