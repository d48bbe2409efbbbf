-- `lengths_build::tables` meets its contract. The loop keeps that the tables of the lengths below m stand, and end where the next
-- begins. Assumes nothing.
use Rattle.lengths_build.proofs.Whole.{going_start, going_makes, going_more, going_end}
use native.Mathlib.Omega.{arith}
use Rattle.lengths_build.proofs.tables.Goals as goal

pub loop-m-init : goal.loop-m-init
loop-m-init c = going_start c.args.list.bytes.now c.args.words.now c.requires

pub make_table-requires : goal.make_table-requires
make_table-requires c =
    let a = c.args in
    let p = c.requires in
    let l = c.loop-m in
    let n = c.entries-count in
    going_makes a.list.bytes.now a.words.now p l.words l.m l.before l.invariant (omega arith) n.result n.ensures.0

pub loop-m-preserved : goal.loop-m-preserved
loop-m-preserved c =
    let a = c.args in
    let p = c.requires in
    let l = c.loop-m in
    let entries = c.entries-count in
    let table = c.make_table in
    going_more a.list.bytes.now a.words.now p l.words l.m l.before l.invariant (omega arith) entries.result entries.ensures.0
    table.new.words table.ensures

pub returns : goal.returns
returns c =
    let a = c.args in
    let p = c.requires in
    let l = c.loop-m in
    going_end a.list.bytes.now a.words.now p l.words l.m l.before l.invariant c.loop-m-test.false
