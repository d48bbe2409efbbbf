-- The number at the start says whether the words are a front and a table, and with what the run refuses. Assumes nothing.
use Rattle.std.proofs.Common.{sym, arith}
use Rattle.std.proofs.lemmas.Result.{err_from_is_err_and}
use Rattle.damping.specs.Refuse.{passed_all}
use Rattle.damping_run.specs.Tables.{ran_table}
use Rattle.damping_run.specs.Steps.{passed_ready}
use Rattle.damping_run.proofs.Loop.{run_refused}
use Rattle.damping_run.proofs.run.Goals as goal

pub returns-in_err-refusal : goal.returns-in_err-refusal
returns-in_err-refusal c =
    let p = err_from_is_err_and c.from_residual.result c.from_residual.ensures.1 in
    rw (p.1, p.2) (run_refused _ _ _ _ _ c.in_err-refusal.ensures)

pub run_with-requires : goal.run_with-requires
run_with-requires c = passed_ready c.args.front.now c.args.words.now (λ i. search arith) (sym c.in_ok-refusal.ensures)

pub returns : goal.returns
returns c =
    let p = passed_all c.args.front.now c.args.words.now 0 (λ i. search arith) (sym c.in_ok-refusal.ensures) in
    ran_table _ _ _ _ _ _ _ _ (record { front = p.0; table = p.1 }) c.run_with.ensures
