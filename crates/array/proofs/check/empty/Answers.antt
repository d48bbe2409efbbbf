-- `array::check::empty` meets its contract. The two parts of `empty_b` in order. Assumes nothing.
use mathlib.Core.Path.{sym, ◌∙◌}
use Rattle.array.proofs.Laws.{bare_slot, bare_link, empty_slot, empty_link}
use Rattle.array.proofs.check.empty.Goals as goal

pub returns-then-bare : goal.returns-then-bare
returns-then-bare c =
    let l = c.args.page.now in
    let b = sym c.bare.ensures ∙ c.if-bare.true in
    (c.linkless.ensures ∙ bare_link l b, λ right. c.linkless.ensures ∙ empty_link l right b)

pub returns-else-bare : goal.returns-else-bare
returns-else-bare c =
    let l = c.args.page.now in
    let b = sym c.bare.ensures ∙ c.if-bare.false in
    (c.if-bare.false ∙ bare_slot l b, λ right. c.if-bare.false ∙ empty_slot l right b)
