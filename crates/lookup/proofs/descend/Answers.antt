-- `lookup::descend` is the layout's walk. The loop's invariant: what is left of the walk, from this array on and with the best so far,
-- is the whole walk. Assumes nothing.
use Rattle.std.proofs.Common.{◌*◌, length, arith}
use Rattle.std.proofs.lemmas.Grind.{common_steps}
use Rattle.routes.specs.Match.{none}
use Rattle.numbers.specs.Number.{number}
use Rattle.lookup.specs.Walk.{deeper}
use Rattle.lookup.proofs.Laws.{newer_found, walk_none, walk_turn}
use Rattle.lookup.proofs.descend.Goals as goal

pub returns-then-not-has_link : goal.returns-then-not-has_link
returns-then-not-has_link c =
    let l = c.loop-k in
    let s = c.args in
    let bs = s.address.now in
    let t = walk_turn (length bs) s.words.now (number bs) l.k l.a (deeper 0 none l.best) (omega arith) in
    grind (arith, common_steps, t)

pub returns-then-own-ge-BEST_BOUND : goal.returns-then-own-ge-BEST_BOUND
returns-then-own-ge-BEST_BOUND c =
    let l = c.loop-k in
    let s = c.args in
    let bs = s.address.now in
    let t = walk_turn (length bs) s.words.now (number bs) l.k l.a (deeper 0 none l.best) (omega arith) in
    grind (arith, common_steps, t)

pub returns-then-next-arrays : goal.returns-then-next-arrays
returns-then-next-arrays c =
    let l = c.loop-k in
    let s = c.args in
    let bs = s.address.now in
    let t = walk_turn (length bs) s.words.now (number bs) l.k l.a (deeper 0 none l.best) (omega arith) in
    grind (arith, common_steps, t)

pub loop-k-preserved : goal.loop-k-preserved
loop-k-preserved c =
    let l = c.loop-k in
    let s = c.args in
    let bs = s.address.now in
    let t = walk_turn (length bs) s.words.now (number bs) l.k l.a (deeper 0 none l.best) (omega arith) in
    let n = newer_found l.best c.best_linked-own.result (8 * l.k) _ c.newer-best.ensures in
    grind (arith, common_steps, t, n)

pub returns : goal.returns
returns c =
    let l = c.loop-k in
    let s = c.args in
    let bs = s.address.now in
    let t = walk_none (length bs) s.words.now (number bs) l.k l.a (deeper 0 none l.best) (omega arith) in
    grind (arith, common_steps, t)
