-- The tests of any run, by the bytes of what is next. Assumes nothing.
use Rattle.std.proofs.Common.{◌∙◌}
use Rattle.damping_run.proofs.Answers.{halts_through}
use Rattle.damping_run.proofs.halt.Goals as goal

pub returns : goal.returns
returns c =
    let p = c.args.p in
    c.halt.ensures ∙ halts_through c.args.feed.now c.args.room p.at p.out c.size_at.result c.size_at.ensures
