-- The run has come as far as its counters say, on a front and a table. The measure is what is left of the feed. Assumes nothing.
use Rattle.std.proofs.Common.{length, true, ◌-◌}
use Rattle.front.specs.Runs.{halts}
use Rattle.damping_run.specs.Steps.{Comes}
use Rattle.console.proofs.through.run.Given as goal

abbrev pub invariant-loop-stop : goal.invariant-loop-stop
invariant-loop-stop g l =
    let room = length l.initial.reply in
    Comes l.p l.front l.words l.feed l.reply room true (halts l.feed room l.p.at l.p.out)

abbrev pub decreases-loop-stop : goal.decreases-loop-stop
decreases-loop-stop g l = length l.feed - l.p.at
