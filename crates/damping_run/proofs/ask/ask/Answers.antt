-- By the role: a whole record has the bytes that its own function asks for. Assumes nothing.
use mathlib.Core.Path.{ap}
use native.Mathlib.Omega.{arith}
use Rattle.routes.specs.Family.{looking}
use Rattle.families.specs.Said.{said_role}
use Rattle.damping_run.proofs.Answers.{asked_lookup, asks_body}
use Rattle.damping_run.proofs.ask.ask.Goals as goal

pub returns-in-Looking : goal.returns-in-Looking
returns-in-Looking c =
    let t = c.in-Looking.is in
    rw t (asked_lookup _ c.args.words.now c.lookup.result c.args.feed.now c.args.at _
    (omega (arith, asks_body _ _ _ _ _ _ c.requires looking (ap said_role t))) c.four_at.ensures c.lookup.ensures.result_value)
