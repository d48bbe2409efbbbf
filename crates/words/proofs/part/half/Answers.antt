-- `words::part::half` meets its contract: each return is a way of `half_of`. Assumes nothing.
use Rattle.std.proofs.Common.{◌+◌, ◌%◌, ◌≤◌, sym, ◌∙◌, arith, get_or}
use Rattle.logic.specs.Nonzero.{nonzero_some, nonzero_none}
use Rattle.sizes.specs.Sizes.{array_words, slot_at, word_at}
use Rattle.array.specs.Cell.{link_in}
use Rattle.words.specs.Half.{cell_below, half_inner, half_none, half_outer}
use Rattle.words.proofs.Laws.{some_nonzero, none_nonzero}
use Rattle.words.proofs.part.half.Goals as goal

pub returns-then-s-clause-low : goal.returns-then-s-clause-low
returns-then-s-clause-low c = λ n.
    let p = c.args.slot in
    let m : 1 ≤ p + p % array_words = omega arith in
    some_nonzero (p + p % array_words) _ (half_inner c.args.words.now p c.if-s.true) m

pub returns-then-s-clause-any : goal.returns-then-s-clause-any
returns-then-s-clause-any c = half_inner c.args.words.now c.args.slot c.if-s.true

pub returns-in_err-below-clause-low : goal.returns-in_err-below-clause-low
returns-in_err-below-clause-low c = λ n.
    let a = c.args in
    let z = nonzero_none (link_in (get_or a.words.now (cell_below a.slot) 0)) (sym c.in_err-below.ensures.link) in
    rw c.from_residual.ensures (none_nonzero _ (half_none a.words.now a.slot c.if-s.false z))

pub returns-in_err-below-clause-any : goal.returns-in_err-below-clause-any
returns-in_err-below-clause-any c =
    let a = c.args in
    let z = nonzero_none (link_in (get_or a.words.now (cell_below a.slot) 0)) (sym c.in_err-below.ensures.link) in
    rw c.from_residual.ensures (sym (half_none a.words.now a.slot c.if-s.false z))

pub returns-clause-low : goal.returns-clause-low
returns-clause-low c = λ n.
    let a = c.args in
    let b = c.in_ok-below.below in
    let k = nonzero_some (link_in (get_or a.words.now (cell_below a.slot) 0)) b (sym c.in_ok-below.ensures.link) in
    some_nonzero (word_at b (slot_at 2)) _ (half_outer a.words.now a.slot c.if-s.false b (sym k.0) (λ z. k.1 (k.0 ∙ z)))
    (omega arith)

pub returns-clause-any : goal.returns-clause-any
returns-clause-any c =
    let a = c.args in
    let b = c.in_ok-below.below in
    let k = nonzero_some (link_in (get_or a.words.now (cell_below a.slot) 0)) b (sym c.in_ok-below.ensures.link) in
    half_outer a.words.now a.slot c.if-s.false b (sym k.0) (λ z. k.1 (k.0 ∙ z))
