-- `array::check::right` meets its contract. The tests in order, each on what the one before has left. Assumes nothing.
use Rattle.std.proofs.Common.{sym, ◌∙◌, arith, eqb-true, lt-ltb}
use Rattle.std.proofs.lemmas.Bool.{eqb-false}
use Rattle.array.specs.Cover.{covers_won}
use Rattle.array.proofs.Laws.{right_first, right_low, right_none}
use Rattle.array.proofs.check.right.Goals as goal
use Rattle.array.proofs.check.right.Goals.{then-k-lt2, else-k-lt2}

pub bests_are-requires : goal.bests_are-requires
bests_are-requires c = covers_won _ _ _ c.requires c.covers.ensures

pub returns-then-won-eq0 : goal.returns-then-won-eq0
returns-then-won-eq0 c =
    let a = c.args in
    let first = c.requires.hop 1 (omega arith) (omega arith) in
    c.bests_are.ensures
    ∙ elim c.if-k-lt2.branch [
      | then-k-lt2 w ↦ right_low a.k a.page.now w.if-k-lt2.true
      | else-k-lt2 w ↦ right_none a.k a.page.now (sym first ∙ eqb-true _ 0 (sym w.value-is ∙ c.if-won-eq0.true))
    ]

pub returns-else-won-eq0 : goal.returns-else-won-eq0
returns-else-won-eq0 c =
    let a = c.args in
    let first = c.requires.hop 1 (omega arith) (omega arith) in
    elim c.if-k-lt2.branch [
      | then-k-lt2 w ↦ let e = lt-ltb a.k 2 w.if-k-lt2.true in cc
      | else-k-lt2 w ↦
          c.if-won-eq0.false
          ∙ right_first a.k a.page.now w.if-k-lt2.false
          (λ z. eqb-false _ 0 (sym w.value-is ∙ c.if-won-eq0.false) (first ∙ z))
    ]
