-- `array::change::rewrite` meets its contract. The page is the one at the start with the cells passed rewritten, and the number
-- is that of those that gave way. Assumes nothing.
use Rattle.std.proofs.Common.{ℕ, ◌+◌, sym, ap, ◌∙◌, arith, set}
use Rattle.sizes.specs.Sizes.{cells_at}
use Rattle.array.specs.Rewrite.{yields_b, map_none, map_more, count_none, count_given, count_kept}
use Rattle.array.proofs.change.rewrite.Goals as goal
use Rattle.array.proofs.change.rewrite.Goals.{then-yields, else-yields}

pub loop-i-init : goal.loop-i-init
loop-i-init c = record { few = omega arith; list = map_none _ _ _ _; count = count_none _ _ _ }

pub loop-i-preserved : goal.loop-i-preserved
loop-i-preserved c =
    let a = c.args in
    let l = c.loop-i in
    let p = a.page.now in
    let was = l.invariant.list in
    let more = ap (set l.page (cells_at + l.i)) c.given.ensures ∙ map_more a.d a.best p l.page a.from l.i (omega arith) was in
    let yields = c.yields.ensures ∙ ap (λ (z : ℕ). yields_b z a.d) c.best_in.ensures.0 in
    elim c.if-yields.branch [
      | then-yields w ↦
          let given = count_given a.d a.best p l.page a.from l.i (omega arith) was (sym yields ∙ w.if-yields.true) in
          rw w.cells-is (record { few = omega arith; list = more; count = omega arith })
      | else-yields w ↦
          let kept = count_kept a.d a.best p l.page a.from l.i (omega arith) was (sym yields ∙ w.if-yields.false) in
          rw w.cells-is (record { few = omega arith; list = more; count = omega arith })
    ]
