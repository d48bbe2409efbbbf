-- The number at the start says whether the words are a front, and with what the run refuses. Assumes nothing.
use Rattle.std.proofs.Common.{sym, arith}
use Rattle.std.proofs.lemmas.Bool.{false≢true}
use Rattle.std.proofs.lemmas.Result.{err_from_is_err_and}
use Rattle.damping.specs.Locally.{before_passed}
use Rattle.damping_run.proofs.Loop.{local_refused, local_ran}
use Rattle.damping_run.proofs.run_local.Goals as goal

pub returns-in_err-refusal_local : goal.returns-in_err-refusal_local
returns-in_err-refusal_local c =
    let p = err_from_is_err_and c.from_residual.result c.from_residual.ensures.1 in
    rw (p.1, p.2) (local_refused _ _ _ _ _ c.in_err-refusal_local.ensures)

pub run_with-requires : goal.run_with-requires
run_with-requires c =
    let p = before_passed c.args.front.now c.args.words.now 0 (λ i. search arith) (sym c.in_ok-refusal_local.ensures) in
    record { front = p.0; fits = p.1; table = λ k. absurd (false≢true k) }

pub returns : goal.returns
returns c =
    let p = before_passed c.args.front.now c.args.words.now 0 (λ i. search arith) (sym c.in_ok-refusal_local.ensures) in
    local_ran _ _ _ _ _ _ _ _ p.0 p.1 c.run_with.ensures
