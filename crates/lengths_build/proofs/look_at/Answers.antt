-- `lengths_build::look_at` meets its contract: by whether the table lies inside the words. Assumes nothing.
use mathlib.Core.Path.{◌∙◌}
use Rattle.lengths_build.proofs.Entry.{look_out, look_there}
use Rattle.lengths_build.proofs.look_at.Goals as goal

pub returns-then-o-size : goal.returns-then-o-size
returns-then-o-size c =
    let a = c.args in
    record { told = look_out a.words.now a.m a.v c.if-o-size.true; inside = tt }

pub returns : goal.returns
returns c =
    let a = c.args in
    let p = c.probe.ensures in
    record { told = p.told ∙ look_there a.words.now a.m a.v c.if-o-size.false; inside = p.inside }
