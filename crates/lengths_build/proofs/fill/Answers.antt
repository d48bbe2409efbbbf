-- `lengths_build::fill` meets its contract. The loop keeps what the records from i on have entered. Assumes nothing.
use mathlib.Core.Path.{ap, ◌∙◌}
use Prim.Native.Nat.{◌-◌}
use Rattle.lengths_build.specs.Filling.{chosen}
use Rattle.lengths_build.proofs.Making.{fill_asks, fill_skip}
use native.Mathlib.Omega.{arith}
use Rattle.candidates.specs.Candidate.{Candidate}
use Rattle.lengths_build.proofs.fill.Goals as goal

pub is_chosen-requires : goal.is_chosen-requires
is_chosen-requires c =
    let a = c.args in
    let l = c.loop-i in
    fill_asks a.marks a.list.bytes.now a.t.m a.t.o a.t.size l.words l.i (l.i - 1) c.bits.result (omega arith) l.invariant.filling
    (c.bits.ensures.0 ∙ ap (λ (x : Candidate). x.len) c.record.ensures)

pub loop-i-preserved : goal.loop-i-preserved
loop-i-preserved c =
    let a = c.args in
    let l = c.loop-i in
    fill_skip a.marks a.list.bytes.now a.t.m a.t.o a.t.size a.words.now l.words l.i (l.i - 1) (omega arith) l.invariant
    c.is_chosen.result
    (c.is_chosen.ensures ∙ ap (chosen a.marks a.t.m) (c.bits.ensures.0 ∙ ap (λ (x : Candidate). x.len) c.record.ensures)) c.if-is_chosen.false
