-- `feed::run_local_of` meets its contract: the size is tested, and the rest is the run's. Assumes nothing.
use mathlib.Core.Path.{sym, ◌∙◌}
use Rattle.families.specs.Said.{said_family}
use Rattle.feed.proofs.Loop.{local_refused}
use Rattle.feed.proofs.run_local_of.Goals as goal

pub returns-then-misfit : goal.returns-then-misfit
returns-then-misfit c =
    local_refused (said_family c.args.family) _ _ _ (sym c.misfit.ensures ∙ c.if-misfit.true)
