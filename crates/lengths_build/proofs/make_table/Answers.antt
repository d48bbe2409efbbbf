-- `lengths_build::make_table` meets its contract: the header, the clearing and the two passes make the table. Assumes nothing.
use Rattle.lengths_build.proofs.Making.{make_first, make_second, make_made}
use native.Mathlib.Omega.{arith}
use Rattle.lengths_build.proofs.make_table.Goals as goal

pub fill-requires : goal.fill-requires
fill-requires c =
    let z = c.sized-size in
    let h = c.enter_header in
    let k = c.clear in
    make_first c.args.list.bytes.now c.args.words.now c.args.m c.args.before c.args.count c.requires z.result z.ensures.0
    h.new.words h.ensures k.new.words _ (omega arith) k.ensures

pub fill-requires-2 : goal.fill-requires-2
fill-requires-2 c =
    let z = c.sized-size in
    let h = c.enter_header in
    let k = c.clear in
    let f = c.fill in
    make_second c.args.list.bytes.now c.args.words.now c.args.m c.args.before c.args.count c.requires z.result z.ensures.0
    h.new.words h.ensures k.new.words _ (omega arith) k.ensures f.new.words f.ensures

pub returns : goal.returns
returns c =
    let z = c.sized-size in
    let h = c.enter_header in
    let k = c.clear in
    let f = c.fill in
    let g = c.fill-2 in
    make_made c.args.list.bytes.now c.args.words.now c.args.m c.args.before c.args.count c.requires z.result z.ensures.0
    h.new.words h.ensures k.new.words _ (omega arith) k.ensures f.new.words f.ensures (omega arith) g.new.words g.ensures
