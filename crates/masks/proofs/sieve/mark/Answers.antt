-- `masks::sieve::mark` takes one pair into X or Y. Assumes nothing.
use Rattle.std.proofs.Common.{sym, ◌∙◌, arith}
use Rattle.masks.proofs.Pairs.{mark-nested, mark-parted}
use Rattle.masks.proofs.sieve.mark.Goals as goal

pub returns-then-x-eq0 : goal.returns-then-x-eq0
returns-then-x-eq0 c =
    let a = c.args in
    rw c.added.ensures.0
    (mark-nested a.xs.now a.y a.s.slot a.t.slot c.requires (sym c.parted-x.ensures.0 ∙ c.if-x-eq0.true))

pub returns : goal.returns
returns c =
    let a = c.args in
    rw c.parted-x.ensures.0
    (mark-parted a.xs.now a.y a.s.slot a.t.slot (omega arith) c.requires (λ e. c.if-x-eq0.false (c.parted-x.ensures.0 ∙ e)))
