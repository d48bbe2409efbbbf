-- `console::reads::fill`: what stands in front is what the file gave. The measure is what is left to fill. Assumes nothing.
use Rattle.std.proofs.Common.{◌≤◌, ◌-◌, length, take}
use Rattle.std.specs.Io.KnownBytes.{Consumes}
use Rattle.console.proofs.reads.fill.Given as goal

abbrev pub invariant-loop-n : goal.invariant-loop-n
invariant-loop-n g l = record {
  within : l.n ≤ length l.input;
  bytes : Consumes (g.I.Read.remaining l.fn.file) (g.I.Read.remaining l.file) (take l.n l.input);
}

abbrev pub decreases-loop-n : goal.decreases-loop-n
decreases-loop-n g l = length l.input - l.n
