-- A tick is the tick of both. Assumes nothing.
use Rattle.damping_run.proofs.Answers.{asked_tick}
use Rattle.damping_run.proofs.ask.answer.Goals as goal

pub returns-then-kind-eq-TICK : goal.returns-then-kind-eq-TICK
returns-then-kind-eq-TICK c =
    asked_tick _ _ _ _ c.args.feed.now c.args.at c.if-kind-eq-TICK.true
    c.tick_with.ensures
