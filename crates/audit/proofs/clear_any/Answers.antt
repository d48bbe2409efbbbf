-- `audit::clear_any` refuses a wrong size and changes nothing, or leaves the cleared words, which are an empty table. Assumes nothing.
use mathlib.Core.Path.{sym, ◌∙◌}
use Rattle.audit.proofs.Laws.{clear_refused, clear_done}
use borrow.Author.Rules.{rules}
use Rattle.audit.proofs.clear_any.Goals as goal

pub returns-then-misfit : goal.returns-then-misfit
returns-then-misfit c = λ L some levels. search (rules, clear_refused)

pub returns : goal.returns
returns c =
    λ L some levels.
    rw c.array_at.ensures
    (clear_done L some levels c.args.words.now c.fill.new.self
    (sym c.misfit.ensures ∙ c.if-misfit.false) (c.fill.ensures.after (λ y e. e)))
