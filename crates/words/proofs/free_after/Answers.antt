-- `words::free_after` searches the rest of an array's group, then the groups past it. Assumes nothing.
use Rattle.std.proofs.Common.{◌≢◌, sym, ap, refl, ◌∙◌, arith}
use Rattle.logic.specs.Nonzero.{nonzero, nonzero_some}
use Rattle.words.specs.Offers.{after_all, after_near, after_far}
use Rattle.words.proofs.Laws.{nonzero_not}
use Rattle.words.proofs.free_after.Goals as goal

pub returns-then-n-e : goal.returns-then-n-e
returns-then-n-e c =
    let a = c.args in
    let n = c.arrays_in-n in
    let some : a.f ≢ 0 = λ z. omega arith in
    c.first_free.ensures
    ∙ ap nonzero (after_all a.words.now a.f c.requires.1.2 some _ n.result n.ensures (omega arith) (omega arith) refl)

pub returns-in-Some : goal.returns-in-Some
returns-in-Some c =
    let a = c.args in
    let n = c.arrays_in-n in
    let some : a.f ≢ 0 = λ z. omega arith in
    let k = nonzero_some _ c.in-Some.a (sym c.in-Some.ensures) in
    c.in-Some.ensures
    ∙ ap nonzero (after_near a.words.now a.f c.requires.1.2 some n.result _ _ refl n.ensures (omega arith) refl k.1)

pub returns : goal.returns
returns c =
    let a = c.args in
    let n = c.arrays_in-n in
    let some : a.f ≢ 0 = λ z. omega arith in
    c.free_past.ensures
    ∙ ap nonzero (after_far a.words.now a.f c.requires.1.2 some n.result _ _ refl n.ensures (omega arith) refl
    (nonzero_not _ _ c.first_free-2.ensures c.in_default.not-Some) _ refl)
