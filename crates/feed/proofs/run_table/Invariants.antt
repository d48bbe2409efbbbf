-- The invariant: what is left of the run from here is the whole run, and the rest of the reply is as it was. The measure is what is
-- left of the feed. Assumes nothing.
use Rattle.std.proofs.Common.{length, ◌-◌}
use Rattle.families.specs.Said.{said_family}
use Rattle.candidates.specs.Runs.{halts}
use Rattle.feed.proofs.Loop.{GoingAny}
use Rattle.feed.proofs.run_table.Given as goal

abbrev pub invariant-loop-stop : goal.invariant-loop-stop
invariant-loop-stop l =
    let F = said_family l.family in
    GoingAny F l.initial.words l.feed l.initial.reply l.words l.reply l.p (halts F l.feed (length l.initial.reply) l.p.at l.p.out)

abbrev pub decreases-loop-stop : goal.decreases-loop-stop
decreases-loop-stop l = length l.feed - l.p.at
