-- `update::withdraw_of` meets its contract: by the number that stands before the work, or by the work's promise on a table. Assumes
-- nothing.
use Rattle.std.proofs.Common.{length}
use Rattle.refusals.specs.Number.{fault}
use Rattle.update.specs.Refuse.{refused_named, passed_named}
use Rattle.update.proofs.withdraw_of.Goals as goal

pub returns-in-Err : goal.returns-in-Err
returns-in-Err c =
    let b = c.args.address.now in
    refused_named (length b) c.args.words.now c.requires.some c.requires.levels _ _ c.in-Err.e (fault c.withdraw_fault-own.result)
    c.number.ensures.0 c.in-Err.ensures c.withdraw_fault-own.ensures

-- past the test the words are a table
pub withdraw_with-requires : goal.withdraw_with-requires
withdraw_with-requires c =
    let b = c.args.address.now in
    let i = c.requires in
    (i, λ _. passed_named (length b) c.args.words.now i.some i.levels (fault c.withdraw_fault-own.result) c.in-Ok.ensures)

pub returns-in-Ok : goal.returns-in-Ok
returns-in-Ok c =
    let b = c.args.address.now in
    let i = c.requires in
    c.withdraw_with.ensures.table
    (passed_named (length b) c.args.words.now i.some i.levels (fault c.withdraw_fault-own.result) c.in-Ok.ensures)
