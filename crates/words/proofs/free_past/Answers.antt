-- `words::free_past` finds the first free array past some groups: one that is told full offers none, so what is left to search
-- stays the same. Assumes nothing.
use Rattle.std.proofs.Common.{◌≡◌, ◌+◌, ◌*◌, ◌/◌, ◌≤◌, sym, ap, refl, ◌∙◌, arith}
use Rattle.logic.specs.Nonzero.{nonzero, nonzero_some}
use Rattle.sizes.specs.Sizes.{per_group}
use Rattle.words.specs.Words.{array_count}
use Rattle.words.specs.Offers.{told-full, told_less, group_shut, group_past, group-found, group_last}
use Rattle.words.proofs.Laws.{nonzero_not}
use Rattle.words.proofs.free_past.Goals as goal
use Rattle.words.proofs.free_past.Goals.{then-words-g+in_default, else-words-g}

pub returns-in-Some : goal.returns-in-Some
returns-in-Some c =
    let ws = c.args.words.now in
    let g = c.loop-g.g in
    let h : per_group * g + per_group ≤ array_count ws = omega (arith, c.arrays_in-n.ensures) in
    let k = nonzero_some _ c.in-Some.a (sym c.in-Some.ensures) in
    c.in-Some.ensures
    ∙ ap nonzero (group-found ws g _ h (told_less ws g _ refl c.if-words-g.true) refl k.1 ∙ c.loop-g.invariant.1)

pub loop-g-preserved : goal.loop-g-preserved
loop-g-preserved c =
    let ws = c.args.words.now in
    let g = c.loop-g.g in
    let h : per_group * g + per_group ≤ array_count ws = omega (arith, c.arrays_in-n.ensures) in (
      omega arith,
      elim c.if-words-g.branch [
        | then-words-g+in_default w ↦
            group_past ws g _ h (told_less ws g _ refl w.if-words-g.true) refl
            (nonzero_not _ _ w.first_free.ensures w.in_default.not-Some)
        | else-words-g w ↦ group_shut ws g (told-full ws g _ refl w.if-words-g.false h) h
      ]
          ∙ c.loop-g.invariant.1,
    )

pub returns : goal.returns
returns c =
    let n = c.arrays_in-n in
    let e : c.loop-g.g ≡ n.result / per_group = omega arith in
    c.first_free-2.ensures
    ∙ ap nonzero (group_last c.args.words.now (n.result / per_group) _ n.result n.ensures (omega arith) (omega arith) refl
    ∙ (rw e at c.loop-g.invariant.1))
