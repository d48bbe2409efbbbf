-- The loop keeps that what is left of the run, from here on, is the whole run, and the rest of the reply is as it was. The measure is
-- what is left of the feed. Assumes nothing.
use Rattle.std.proofs.Common.{length, ◌-◌}
use Rattle.front.specs.Runs.{halts}
use Rattle.damping_run.proofs.Loop.{Going}
use Rattle.damping_run.proofs.run_with.Given as goal

abbrev pub invariant-loop-stop : goal.invariant-loop-stop
invariant-loop-stop l =
    Going l.initial.front l.initial.words l.feed l.initial.reply l.front l.words l.reply l.p l.known
    (halts l.feed (length l.initial.reply) l.p.at l.p.out)

abbrev pub decreases-loop-stop : goal.decreases-loop-stop
decreases-loop-stop l = length l.feed - l.p.at
