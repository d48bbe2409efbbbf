-- `array::cell::with_best` writes the best in the form that the cell has. Assumes nothing.
use mathlib.Core.Path.{◌∙◌}
use Rattle.array.specs.Cell.{link_none, linked_by, unlinked_by, unmarked}
use Rattle.array.specs.With.{best-plain, best-linked}
use Rattle.array.proofs.cell.with_best.Goals as goal

pub returns-then-has_link : goal.returns-then-has_link
returns-then-has_link c =
    let w = c.args.word in
    let n = linked_by _ _ c.has_link.ensures c.if-has_link.true in
    c.linked.ensures ∙ best-linked w _ (λ e. n (link_none w e))

pub returns-else-has_link : goal.returns-else-has_link
returns-else-has_link c =
    let w = c.args.word in
    c.plain.ensures ∙ best-plain w _ (unmarked w (unlinked_by _ _ c.has_link.ensures c.if-has_link.false))
