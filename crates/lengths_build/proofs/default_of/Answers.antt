-- `lengths_build::default_of` meets its contract: the default route is the first of a sorted list. Assumes nothing.
use Rattle.lengths_build.proofs.Whole.{default_empty, default_none, default_held}
use mathlib.Core.Path.{ap, ◌∙◌}
use Rattle.candidates.specs.Candidate.{Candidate}
use Rattle.lengths_build.proofs.default_of.Goals as goal
use Rattle.lengths_build.proofs.default_of.Goals.{then-records-eq0-via-then-records-eq0}
use Rattle.lengths_build.proofs.default_of.Goals.{then-records-eq0-via-else-records-eq0+then-bits-ne0}

pub returns-then-records-eq0 : goal.returns-then-records-eq0
returns-then-records-eq0 c =
    let n = c.records in
    elim c.then-records-eq0.branch [
      | then-records-eq0-via-then-records-eq0 w ↦
          default_empty c.args.list.bytes.now n.result n.ensures.0 w.if-records-eq0.true
      | then-records-eq0-via-else-records-eq0+then-bits-ne0 w ↦
          default_none c.args.list.bytes.now n.result n.ensures.0 c.args.list.list w.if-records-eq0.false w.bits.result
          (w.bits.ensures.0 ∙ ap (λ (x : Candidate). x.len) w.record.ensures) w.if-bits-ne0.true
    ]

pub returns : goal.returns
returns c =
    let n = c.records in
    let bits = c.bits in
    default_held c.args.list.bytes.now n.result n.ensures.0 c.args.list.list c.if-records-eq0.false bits.result
    (bits.ensures.0 ∙ ap (λ (x : Candidate). x.len) c.record.ensures) c.winner.result c.if-bits-ne0.false c.winner.ensures.0
