-- What the table accepts of a withdrawal is charged. Assumes nothing.
use Rattle.std.proofs.Common.{sym, ◌∙◌}
use Rattle.charge.specs.Code.{mark_in, kept_in}
use Rattle.damping.specs.Work.{charges}
use Rattle.damping.proofs.update_in.Goals as goal

pub returns-then-is_done : goal.returns-then-is_done
returns-then-is_done c =
    let a = c.args.candidate in
    let s = c.find-spot in
    let on = c.pass_on-r in
    let arm = c.in-None-Withdraw in
    rw arm.is-1
    (charges c.args.front.now c.args.words.now c.requires.front a.address a.length a.feed s.result.at (mark_in s.result.row)
    (kept_in s.result.row) s.ensures on.new.words on.result (rw arm.is-0 at c.held_back.ensures) (rw arm.is-1 at on.ensures)
    c.charge-then-is_done.new.words (sym c.is_done.ensures ∙ c.if-is_done.true) c.charge-then-is_done.ensures)
