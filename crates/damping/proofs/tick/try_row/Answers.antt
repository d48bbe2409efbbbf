-- Not due, refused by the table, or installed. Assumes nothing.
use Rattle.std.proofs.Common.{◌/◌, ◌%◌, refl, sym, ap, subst, ◌∙◌, arith}
use Rattle.candidates.specs.Answers.{announce}
use Rattle.update.specs.Locally.{HasUpdatedLocally}
use Rattle.rows.specs.Row.{Row, row, row_at}
use Rattle.shelf.specs.Shift.{Holds, replaced}
use Rattle.damping.specs.Tick.{row_high, row_empty, row_out, row_in}
use Rattle.damping.proofs.tick.try_row.Goals as goal
use Rattle.damping.proofs.tick.try_row.Goals.{then-row-ge750-via-then-row-ge750, then-row-ge750-via-else-row-ge750+then-row-eq0}

pub returns-then-row-ge750 : goal.returns-then-row-ge750
returns-then-row-ge750 c =
    let fs = c.args.front.now in
    let e = c.row_at-row.ensures in
    let x = ap (λ (r : Row). r.x) e in
    let k = ap (λ (r : Row). r.k) e in
    elim c.then-row-ge750.branch [
      | then-row-ge750-via-then-row-ge750 w ↦ row_high fs c.args.words.now c.args.i c.requires.size (omega arith)
      | then-row-ge750-via-else-row-ge750+then-row-eq0 w ↦
          row_empty fs c.args.words.now c.args.i c.requires.size (omega arith) (omega arith)
    ]

pub returns-then-is_done : goal.returns-then-is_done
returns-then-is_done c =
    let fs = c.args.front.now in
    let ws = c.args.words.now in
    let i = c.args.i in
    let on = c.pass_on-r in
    let us = on.new.words in
    let gs = c.store.new.words in
    let e = c.row_at-row.ensures in
    let x = ap (λ (r : Row). r.x) e in
    let k = ap (λ (r : Row). r.k) e in
    let P : Row → Type 0 = λ r.
    HasUpdatedLocally 4 ws us (announce r.a (r.w / 8) (r.k % 65536) (r.w % 8) (r.k / 65536)) on.result in
    let Q : Row → Type 0 = λ r. Holds gs (replaced (row_at fs) i (row r.a r.w r.x 0)) in
    row_in fs ws i c.requires.size (omega arith) (omega arith) us ((row_at fs i).k / 65536) on.result refl
    (subst P e on.ensures) gs c.requires.low (sym c.is_done.ensures ∙ c.if-is_done.true) (subst Q e c.store.ensures)

pub returns-else-is_done : goal.returns-else-is_done
returns-else-is_done c =
    let fs = c.args.front.now in
    let ws = c.args.words.now in
    let i = c.args.i in
    let on = c.pass_on-r in
    let us = on.new.words in
    let e = c.row_at-row.ensures in
    let x = ap (λ (r : Row). r.x) e in
    let k = ap (λ (r : Row). r.k) e in
    let P : Row → Type 0 = λ r.
    HasUpdatedLocally 4 ws us (announce r.a (r.w / 8) (r.k % 65536) (r.w % 8) (r.k / 65536)) on.result in
    row_out fs ws i c.requires.size (omega arith) (omega arith) us ((row_at fs i).k / 65536) on.result refl
    (subst P e on.ensures) (sym c.is_done.ensures ∙ c.if-is_done.false)
