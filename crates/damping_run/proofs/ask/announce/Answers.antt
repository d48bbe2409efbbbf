-- The record read from the feed's bytes is the one announced, and the answer is the call's. Assumes nothing.
use mathlib.Core.Path.{refl}
use native.Mathlib.Omega.{arith}
use Rattle.damping_run.proofs.Answers.{asked_announce}
use Rattle.damping_run.proofs.ask.announce.Goals as goal

pub returns : goal.returns
returns c =
    let on = c.announce_with in
    asked_announce _ _ _ _ on.result c.args.feed.now c.args.at _ _ _ _ _ (omega (arith, c.requires.body))
    c.four_at-address.ensures
    refl c.two_at-hop.ensures.0 on.ensures
