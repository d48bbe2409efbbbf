-- `lengths_build::best_of` meets its contract: a route of that length has its own, and a marker what the shorter tables say.
-- Assumes nothing.
use Rattle.lengths_build.proofs.Entry.{of_route, of_marker}
use mathlib.Core.Path.{ap, ◌∙◌}
use Rattle.candidates.specs.Candidate.{Candidate}
use Rattle.lengths_build.proofs.best_of.Goals as goal

pub returns-then-bits-m : goal.returns-then-bits-m
returns-then-bits-m c =
    let a = c.args in
    let p = c.requires in
    let bits = c.bits in
    of_route a.list.bytes.now a.words.now a.i a.m a.v p bits.result c.winner.result
    (bits.ensures.0 ∙ ap (λ (x : Candidate). x.len) c.record.ensures) c.winner.ensures.0
    c.if-bits-m.true

pub returns : goal.returns
returns c =
    let a = c.args in
    let p = c.requires in
    let bits = c.bits in
    of_marker a.list.bytes.now a.words.now a.i a.m a.v p bits.result c.shorter.result
    (bits.ensures.0 ∙ ap (λ (x : Candidate). x.len) c.record.ensures) c.if-bits-m.false
    c.shorter.ensures
