-- The invariant: what is left of the run from here is the whole run, and the rest of the reply is as it was. The measure is what is
-- left of the feed. Assumes nothing.
use Rattle.std.proofs.Common.{refl, sym, ◌∙◌, length}
use Rattle.families.specs.Said.{said_family}
use Rattle.feed.specs.Progress.{stop_some, halts_as}
use Rattle.feed.proofs.Loop.{start_any, any_again, any_stopped}
use Rattle.feed.proofs.run_table.Goals as goal

pub loop-stop-init : goal.loop-stop-init
loop-stop-init c = rw c.start-p.ensures (start_any _ _ _ _ _ c.requires.0 refl)

pub loop-stop-preserved : goal.loop-stop-preserved
loop-stop-preserved c =
    let a = c.args in
    let p = c.loop-stop.p in
    let k = c.answer_next-p.auto in
    let e = sym (c.in-None.ensures ∙ halts_as (said_family a.family) a.feed.now (length a.reply.now) p.at p.out _ c.size_at-size.ensures) in
    any_again _ _ _ _ _ _ _ _ c.loop-stop.invariant _ _ _ _ e c.answer_next-p.ensures k.reply k.words refl

pub returns-in-Some : goal.returns-in-Some
returns-in-Some c =
    let a = c.args in
    let p = c.loop-stop.p in
    let e = c.in-Some.ensures ∙ halts_as (said_family a.family) a.feed.now (length a.reply.now) p.at p.out _ c.size_at-size.ensures in
    rw (c.report.ensures, e) (any_stopped _ _ _ _ _ _ _ _ c.loop-stop.invariant _ (λ z. stop_some c.in-Some.stop (e ∙ z)) refl)
