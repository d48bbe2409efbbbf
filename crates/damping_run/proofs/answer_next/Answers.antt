-- The counters after a record or a tick stand for how far the run has come. Assumes nothing.
use Rattle.std.proofs.Common.{◌<◌, length, get_or, refl, sym, ◌∙◌, arith}
use Rattle.logic.specs.Nonzero.{nonzero_some}
use Rattle.replies.specs.Said.{said_reply}
use Rattle.restraint.specs.Turns.{size_pos}
use Rattle.damping_run.specs.Turns.{bytes_of}
use Rattle.damping_run.proofs.Answers.{size-told}
use Rattle.damping_run.proofs.Loop.{took_counted}
use Rattle.damping_run.proofs.answer_next.Goals as goal

pub returns : goal.returns
returns c =
    let p = c.args.p in
    let feed = c.args.feed.now in
    let l : p.at < length feed = omega (arith, c.requires.clear.body, size_pos feed p.at) in
    let n = c.unwrap-size.result in
    let b = nonzero_some (bytes_of (get_or feed p.at 0)) n (sym (c.size_at.ensures l) ∙ c.unwrap-size.ensures) in
    let e = size-told feed (length c.args.reply.now) p.at p.out n (sym b.0) c.requires.clear in
    took_counted p _ _ _ _ c.args.known c.requires _ _ (said_reply c.answer-answer.result) n _ _ _ e c.answer-answer.ensures
    refl c.after.ensures
