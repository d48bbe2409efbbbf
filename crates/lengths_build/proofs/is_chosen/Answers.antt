-- `lengths_build::is_chosen` meets its contract: each pass has its test. Assumes nothing.
use mathlib.Core.Path.{sym, ◌∙◌}
use Rattle.lengths_build.specs.Reach.{turns-reach}
use Rattle.lengths_build.proofs.is_chosen.Goals as goal

pub returns-then-marks : goal.returns-then-marks
returns-then-marks c =
    rw c.if-marks.true
    (c.is_between.ensures ∙ rw c.reach.ensures (sym (turns-reach c.args.m c.args.l c.requires.0 c.requires.1 c.requires.2)))
