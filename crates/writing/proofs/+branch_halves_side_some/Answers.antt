-- `writing::side`, `some`, `branch` and `halves`, which call each other, meet their contracts: a slot whose total is 0 has no records
-- at it and below it, and a prefix without halves none below it. Else its own come first, then the lower half's, then the upper's.
-- Assumes nothing.
use mathlib.Core.Path.{sym, ◌∙◌}
use native.Mathlib.Omega.{arith}
use Rattle.std.proofs.Common.{rules}
use Rattle.writing.proofs.Laws.{side_within, side_none, ask-own, ask-below, side_kept, side_some}
use Rattle.writing.proofs.Laws.{branch_within, branch_none, branch_bare, branch_half, ask-halves}
use Rattle.writing.proofs.Laws.{high_slot, ask-low, ask_high, halves-wrote}
use Rattle.writing.proofs.+branch_halves_side_some.Goals as goal

-- ---- side

pub side-total_in-requires : goal.side-total_in-requires
side-total_in-requires t c = side_within c.requires

pub side-returns-then-total_in-eq0-clause-wrote : goal.side-returns-then-total_in-eq0-clause-wrote
side-returns-then-total_in-eq0-clause-wrote t c = side_none c.requires (sym c.total_in.ensures ∙ c.if-total_in-eq0.true)

-- ---- some

pub some-put_slot-p-requires : goal.some-put_slot-p-requires
some-put_slot-p-requires t c = ask-own c.requires c.stand_at.ensures

pub some-branch-words-requires : goal.some-branch-words-requires
some-branch-words-requires t c =
    (omega (arith, c.decreases), ask-below c.requires c.stand_at.ensures c.put_slot-p.ensures c.put_slot-p.auto.buffer)

pub some-returns-clause-kept : goal.some-returns-clause-kept
some-returns-clause-kept t c =
    side_kept c.requires c.stand_at.ensures c.branch-words.new.address c.branch-words.ensures.kept

pub some-returns-clause-wrote : goal.some-returns-clause-wrote
some-returns-clause-wrote t c =
    side_some c.requires c.stand_at.ensures c.put_slot-p.ensures c.branch-words.ensures.wrote

-- ---- branch

pub branch-returns-then-bits-eq0-clause-wrote : goal.branch-returns-then-bits-eq0-clause-wrote
branch-returns-then-bits-eq0-clause-wrote t c = branch_none c.requires c.if-bits-eq0.true

pub branch-half-requires : goal.branch-half-requires
branch-half-requires t c = branch_within c.requires

pub branch-returns-in_default-clause-wrote : goal.branch-returns-in_default-clause-wrote
branch-returns-in_default-clause-wrote t c = branch_bare c.requires c.if-bits-eq0.false c.in_default.ensures.any

pub branch-halves-requires : goal.branch-halves-requires
branch-halves-requires t c =
    let l = c.in-Some in
    (omega (arith, c.decreases), ask-halves c.requires c.if-bits-eq0.false l.low (branch_half c.requires l.ensures.low))

-- ---- halves

pub halves-overflow_add-high : goal.halves-overflow_add-high
halves-overflow_add-high t c = omega (arith, high_slot c.requires (λ i. omega (arith, c.type_inv.address i)), c.well_formed)

pub halves-side-p-requires : goal.halves-side-p-requires
halves-side-p-requires t c =
    (omega (arith, c.decreases, c.requires.more), ask-low c.requires (search rules))

pub halves-side-requires : goal.halves-side-requires
halves-side-requires t c = (
  omega (arith, c.decreases, c.requires.more),
  ask_high c.requires (search rules) c.side-p.new.address c.side-p.auto.address
      c.side-p.ensures.kept c.side-p.ensures.wrote c.side-p.auto.buffer,
)

pub halves-returns-clause-wrote : goal.halves-returns-clause-wrote
halves-returns-clause-wrote t c =
    halves-wrote c.requires (search rules) c.side-p.new.address c.side-p.auto.address
    c.side-p.ensures.kept c.side-p.ensures.wrote c.side.ensures.wrote
