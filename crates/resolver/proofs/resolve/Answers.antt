-- `resolver::resolve`: what is begun stands for the answer, a turn keeps it, and its end is the answer. Assumes nothing.
use mathlib.Core.Path.{◌≡◌, ap, ◌∙◌}
use borrow.Author.Rules.{rules}
use Rattle.std.proofs.Common.{Ok, Err}
use Rattle.std.specs.declared.ops.ControlFlow.TheVariants.{Continue, Break}
use Rattle.resolver.specs.Entry.{lead_by}
use Rattle.resolver.specs.Steps.{looks}
use Rattle.resolver.specs.Turns.{stands}
use Rattle.resolver.proofs.Turns.{next-stands}
use Rattle.resolver.proofs.Begun.{begun_on}
use Rattle.resolver.proofs.resolve.Goals as goal

pub returns-in_err-way : goal.returns-in_err-way
returns-in_err-way g c =
    let a = c.args in
    let at = g.R.Run.at a.run in
    let q : c.from_residual.result ≡ Err c.in_err-way.field-0.0 = search rules in
    rw q (ap (stands (looks a.words.now) (lead_by at)) (rw c.count.ensures at c.in_err-way.ensures.way)
    ∙ begun_on at (g.R.Run.entries a.run) a.words.now a.address)

pub loop-run-init : goal.loop-run-init
loop-run-init g c =
    let a = c.args in
    let at = g.R.Run.at a.run in (
      c.in_ok-way.ensures.left,
      ap (stands (looks a.words.now) (lead_by at)) (rw c.count.ensures at c.in_ok-way.ensures.way)
          ∙ begun_on at (g.R.Run.entries a.run) a.words.now a.address,
    )

pub returns-in_err-next : goal.returns-in_err-next
returns-in_err-next g c =
    let a = c.args in
    let e = c.in_err-next.field-0.0 in
    let q : c.from_residual-in_err-next.result ≡ Err e = search rules in
    rw q (next-stands (looks a.words.now) (g.R.Run.at a.run) c.loop-run.way (Err e) _
    (rw c.entry.ensures at c.in_err-next.ensures.way) c.loop-run.invariant.0 c.loop-run.invariant.1)

pub loop-run-preserved : goal.loop-run-preserved
loop-run-preserved g c =
    let a = c.args in (
      rw c.in-Continue.is at c.in_ok-next.ensures.left,
      next-stands (looks a.words.now) (g.R.Run.at a.run) c.loop-run.way (Ok (Continue c.in-Continue.next)) _
          (rw (c.entry.ensures, c.in-Continue.is) at c.in_ok-next.ensures.way) c.loop-run.invariant.0 c.loop-run.invariant.1,
    )

pub returns-in-Break : goal.returns-in-Break
returns-in-Break g c =
    let a = c.args in
    next-stands (looks a.words.now) (g.R.Run.at a.run) c.loop-run.way (Ok (Break c.in-Break.reached)) _
    (rw (c.entry.ensures, c.in-Break.is) at c.in_ok-next.ensures.way) c.loop-run.invariant.0 c.loop-run.invariant.1
