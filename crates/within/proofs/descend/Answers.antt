-- `within::descend` is the layout's walk. The loop's invariant: what is left of the walk, from this array on, is the whole walk.
-- Assumes nothing.
use Rattle.std.proofs.Common.{arith, length}
use Rattle.std.proofs.lemmas.Grind.{common_steps}
use Rattle.numbers.specs.Number.{number}
use Rattle.within.proofs.Laws.{walk_end, walk_turn}
use Rattle.within.proofs.descend.Goals as goal

pub returns-in_default : goal.returns-in_default
returns-in_default c =
    let s = c.args in
    let b = s.address.now in
    grind (arith, common_steps, walk_turn (length b) s.words.now (number b) s.s s.k c.loop-j.j c.loop-j.a (omega arith))

pub returns-then-next-arrays : goal.returns-then-next-arrays
returns-then-next-arrays c =
    let s = c.args in
    let b = s.address.now in
    grind (arith, common_steps, walk_turn (length b) s.words.now (number b) s.s s.k c.loop-j.j c.loop-j.a (omega arith))

pub loop-j-preserved : goal.loop-j-preserved
loop-j-preserved c =
    let s = c.args in
    let b = s.address.now in
    grind (arith, common_steps, walk_turn (length b) s.words.now (number b) s.s s.k c.loop-j.j c.loop-j.a (omega arith))

pub returns : goal.returns
returns c =
    let s = c.args in
    let b = s.address.now in
    grind (arith, common_steps, walk_end (length b) s.words.now (number b) s.s s.k c.loop-j.j c.loop-j.a (omega arith))
