-- `writing::fill_of` meets its contract: where the count gives, the words are a table. Assumes nothing.
use Rattle.families.specs.Said.{said_family}
use Rattle.writing.proofs.Calls.{fill_some, fill_count, ask_dump}
use Rattle.writing.proofs.fill_of.Goals as goal

pub dump-requires : goal.dump-requires
dump-requires c =
    let a = c.args in
    let r = c.in_ok-count_of in
    ask_dump (said_family a.family) a.words.now a.buffer.now r.field-0 r.ensures

pub returns-clause-answer : goal.returns-clause-answer
returns-clause-answer c =
    let a = c.args in
    let r = c.in_ok-count_of in
    fill_count (said_family a.family) a.words.now a.buffer.now r.field-0 r.ensures c.dump.result c.dump.new.buffer c.dump.ensures

pub returns-clause-filled : goal.returns-clause-filled
returns-clause-filled c =
    let a = c.args in
    let r = c.in_ok-count_of in
    fill_some (said_family a.family) a.words.now a.buffer.now r.field-0 r.ensures c.dump.result c.dump.new.buffer c.dump.ensures
