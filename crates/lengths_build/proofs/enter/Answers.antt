-- `lengths_build::enter` meets its contract: the head is there already, or is put with its best match. Assumes nothing.
use Rattle.lengths_build.proofs.Entry.{at_record, enter_again, enter_bests, enter_space, enter_put}
use Rattle.lengths_build.proofs.enter.Goals as goal

pub returns-else-absent : goal.returns-else-absent
returns-else-absent c =
    let a = c.args in
    let p = c.requires in
    let head = c.head-v in
    enter_again a.marks a.list.bytes.now a.words.now a.i a.t.m a.t.o a.t.size p.0 p.1 head.result
    (at_record c.record.result a.list.bytes.now a.i a.t.m head.result c.record.ensures head.ensures) c.absent.result c.absent.ensures c.if-absent.false

pub best_of-best-requires : goal.best_of-best-requires
best_of-best-requires c =
    let a = c.args in
    let p = c.requires in
    let head = c.head-v in
    let absent = c.absent in
    enter_bests a.marks a.list.bytes.now a.words.now a.i a.t.m a.t.o a.t.size p.0 p.1 head.result
    (at_record c.record.result a.list.bytes.now a.i a.t.m head.result c.record.ensures head.ensures) absent.result absent.ensures c.if-absent.true

pub put-requires : goal.put-requires
put-requires c =
    let a = c.args in
    let p = c.requires in
    let head = c.head-v in
    let absent = c.absent in
    let best_of = c.best_of-best in
    enter_space a.marks a.list.bytes.now a.words.now a.i a.t.m a.t.o a.t.size p.0 p.1 head.result
    (at_record c.record.result a.list.bytes.now a.i a.t.m head.result c.record.ensures head.ensures)
    absent.result absent.ensures c.if-absent.true best_of.result best_of.ensures

pub returns-then-absent : goal.returns-then-absent
returns-then-absent c =
    let a = c.args in
    let p = c.requires in
    let head = c.head-v in
    let absent = c.absent in
    let best_of = c.best_of-best in
    let put = c.put in
    enter_put a.marks a.list.bytes.now a.words.now a.i a.t.m a.t.o a.t.size p.0 p.1 head.result
    (at_record c.record.result a.list.bytes.now a.i a.t.m head.result c.record.ensures head.ensures)
    absent.result absent.ensures c.if-absent.true put.new.words best_of.result best_of.ensures put.ensures
