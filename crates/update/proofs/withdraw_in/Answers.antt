-- `update::withdraw_in` meets its contract: by the fault of the size or of the withdrawal, or by the work's promise. `find` tells whether
-- the path test passes and the candidate is held; its word cleared, its array may be empty, and pruning releases it then. Assumes nothing.
use Rattle.std.proofs.Common.{refl, sym, length}
use Rattle.std.proofs.lemmas.Result.{err_from_is_err_and}
use Rattle.numbers.specs.Number.{number}
use Rattle.update.specs.Fault.{sound-prefix}
use Rattle.update.specs.Local.{local_two, local_none, local_loose, local_withdrawn}
use Rattle.update.specs.Locally.{size_fits, locally_faulty, locally_tried}
use Rattle.update.proofs.withdraw_in.Goals as goal

pub returns-in_err-withdraw_fault : goal.returns-in_err-withdraw_fault
returns-in_err-withdraw_fault c =
    let p = err_from_is_err_and c.from_residual-in_err-withdraw_fault.result c.from_residual-in_err-withdraw_fault.ensures.1 in
    rw (p.1, p.2) (locally_faulty (sym c.in_ok-size_fault.ensures) _ c.in_err-withdraw_fault.ensures)

pub returns-in_err-found : goal.returns-in_err-found
returns-in_err-found c =
    let a = c.args in
    let p = err_from_is_err_and c.from_residual-in_err-found.result c.from_residual-in_err-found.ensures.1 in
    let s = c.in_err-found.ensures in
    let q = sound-prefix (length a.address.now) (number a.address.now) a.length a.feed (sym c.in_ok-withdraw_fault.ensures) in
    rw (p.1, p.2, s.0)
    (locally_tried (sym c.in_ok-size_fault.ensures) (sym c.in_ok-withdraw_fault.ensures)
    (local_two q.0 q.1 s.1.sought _ refl refl refl))

pub returns-then-found-eq0 : goal.returns-then-found-eq0
returns-then-found-eq0 c =
    let a = c.args in
    let s = c.in_ok-found.ensures in
    let q = sound-prefix (length a.address.now) (number a.address.now) a.length a.feed (sym c.in_ok-withdraw_fault.ensures) in
    locally_tried (sym c.in_ok-size_fault.ensures) (sym c.in_ok-withdraw_fault.ensures)
    (local_none q.0 q.1 s.1 s.0 c.if-found-eq0.true)

pub prune-requires : goal.prune-requires
prune-requires c =
    let a = c.args in
    let s = c.in_ok-found.ensures in
    let q = sound-prefix (length a.address.now) (number a.address.now) a.length a.feed (sym c.in_ok-withdraw_fault.ensures) in
    let y = c.reseat-cells in (
      local_loose q.0 q.1 s.1 s.0 c.if-found-eq0.false y.new.words y.result y.ensures,
      rw (y.ensures.same _ (s.1.walked.some s.0).rises).size (size_fits _ (sym c.in_ok-size_fault.ensures)).high,
    )

pub returns : goal.returns
returns c =
    let a = c.args in
    let s = c.in_ok-found.ensures in
    let q = sound-prefix (length a.address.now) (number a.address.now) a.length a.feed (sym c.in_ok-withdraw_fault.ensures) in
    let y = c.reseat-cells in
    locally_tried (sym c.in_ok-size_fault.ensures) (sym c.in_ok-withdraw_fault.ensures)
    (local_withdrawn q.0 q.1 s.1 s.0 c.if-found-eq0.false y.new.words y.result y.ensures
    c.prune.new.words _ c.prune.ensures c.hop_in.ensures.0)
