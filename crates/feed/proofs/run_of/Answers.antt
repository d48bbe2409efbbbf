-- The test at the start says whether the words are a table, and with what the run refuses. Assumes nothing.
use Rattle.std.proofs.Common.{sym}
use Rattle.std.proofs.lemmas.Result.{err_from_is_err_and}
use Rattle.families.specs.Said.{said_family}
use Rattle.feed.proofs.Loop.{run_refused, run_fits, run_started}
use Rattle.feed.proofs.run_of.Goals as goal

pub returns-in_err-refusal : goal.returns-in_err-refusal
returns-in_err-refusal c =
    let p = err_from_is_err_and c.from_residual.result c.from_residual.ensures.1 in
    rw (p.1, p.2) (run_refused (said_family c.args.family) _ _ (rw c.levels.ensures.0 at c.in_err-refusal.ensures) _ _)

pub run_table-requires : goal.run_table-requires
run_table-requires c =
    let F = said_family c.args.family in
    let e = sym (rw c.levels.ensures.0 at c.in_ok-refusal.ensures) in
    (run_fits F c.args.words.now e, λ _. run_started F c.args.words.now e)

pub returns : goal.returns
returns c =
    c.run_table.ensures.table (run_started (said_family c.args.family) _ (sym (rw c.levels.ensures.0 at c.in_ok-refusal.ensures)))
