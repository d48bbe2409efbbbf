-- The record read from the feed's bytes is the one withdrawn, and the answer is the call's. Assumes nothing.
use mathlib.Core.Path.{refl}
use native.Mathlib.Omega.{arith}
use Rattle.damping_run.proofs.Answers.{asked_withdraw}
use Rattle.damping_run.proofs.ask.withdraw.Goals as goal

pub returns : goal.returns
returns c =
    let on = c.withdraw_with in
    asked_withdraw _ _ _ _ on.result c.args.feed.now c.args.at _ _ _ (omega (arith, c.requires.body))
    c.four_at-address.ensures
    refl on.ensures
