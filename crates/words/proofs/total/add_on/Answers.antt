-- `words::total::add_on` meets its contract. The loop's invariant: what is left to add is the whole. The measure is the level of
-- the array. Assumes nothing.
use Rattle.std.proofs.Common.{◌≡◌, arith}
use Rattle.words.specs.Climbing.{rest_all, rest_fits, rest_more, rest_done}
use Rattle.words.proofs.total.add_on.Goals as goal

pub loop-b-init : goal.loop-b-init
loop-b-init c =
    let a = c.args in
    let p = c.requires in
    rest_all a.words.now a.a a.slot a.by p.0 p.2

pub tag-own-requires : goal.tag-own-requires
tag-own-requires c = omega (arith, rest_fits c.loop-b.invariant)

pub add_in-requires : goal.add_in-requires
add_in-requires c =
    let r = c.loop-b.invariant in
    (rest_fits r, rw r.size c.requires.1, r.small)

pub loop-b-smaller : goal.loop-b-smaller
loop-b-smaller c =
    let a = c.args in
    (rest_more a.words.now a.a a.slot a.by c.loop-b.words c.loop-b.b c.loop-b.s (λ z. omega arith)
    c.add_in.new.words c.tag-own.result c.parent_in-b.result c.cell_in-s.result
    c.add_in.ensures c.tag-own.ensures c.parent_in-b.ensures c.cell_in-s.ensures.0 c.loop-b.invariant
    ).falls

pub loop-b-preserved : goal.loop-b-preserved
loop-b-preserved c =
    let a = c.args in
    (rest_more a.words.now a.a a.slot a.by c.loop-b.words c.loop-b.b c.loop-b.s (λ z. omega arith)
    c.add_in.new.words c.tag-own.result c.parent_in-b.result c.cell_in-s.result
    c.add_in.ensures c.tag-own.ensures c.parent_in-b.ensures c.cell_in-s.ensures.0 c.loop-b.invariant
    ).rest

pub add_in-requires-2 : goal.add_in-requires-2
add_in-requires-2 c =
    let r = c.loop-b.invariant in
    let e : c.loop-b.b ≡ 1 = omega arith in
    (rw e at (rest_fits r), rw r.size c.requires.1, r.small)

pub returns : goal.returns
returns c =
    rest_done c.loop-b.invariant (omega arith) c.add_in-2.new.words c.add_in-2.ensures
