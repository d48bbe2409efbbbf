-- The loop keeps that what is left of the run, from here on, is the whole run, and the rest of the reply is as it was. The measure is
-- what is left of the feed. Assumes nothing.
use Rattle.std.proofs.Common.{refl, sym}
use Rattle.damping_run.specs.Steps.{comes_takes}
use Rattle.damping_run.proofs.Loop.{start, again}
use Rattle.damping_run.proofs.run_with.Goals as goal

pub loop-stop-init : goal.loop-stop-init
loop-stop-init c = start _ _ _ _ _ c.args.known _ c.requires c.start-p.ensures refl

pub answer_next-p-requires : goal.answer_next-p-requires
answer_next-p-requires c = comes_takes _ _ _ _ _ _ _ _ c.loop-stop.invariant.comes (sym c.in-None.ensures)

pub loop-stop-preserved : goal.loop-stop-preserved
loop-stop-preserved c =
    let k = c.answer_next-p.auto in
    again _ _ _ _ _ _ _ _ _ _ c.loop-stop.invariant _ _ _ _ _ (sym c.in-None.ensures) c.answer_next-p.ensures k.reply k.words
    k.front refl
