-- The counters after a record stand for the state that the definition hands on. A count stays below the bytes consumed, so no sum wraps.
-- Assumes nothing.
use Rattle.std.proofs.Common.{sym, ap, ◌∙◌}
use Rattle.candidates.specs.Runs.{size}
use Rattle.families.specs.Said.{said_family, said_kind}
use Rattle.replies.specs.Said.{said_reply}
use Rattle.feed.proofs.Loop.{took_counted}
use Rattle.feed.proofs.Progress.answer_next.Goals as goal

pub returns : goal.returns
returns c =
    let F = said_family c.args.family in
    let e = ap said_kind (sym c.unwrap-role.ensures) ∙ c.role_of.ensures in
    took_counted F _ _ _ _ c.requires.0 _ _ (said_reply c.answer-answer.result) _ _ (c.size.ensures.0 ∙ ap (size F) e)
    (rw (c.read.ensures.0, c.read.ensures.1, e) at c.answer-answer.ensures) c.after.ensures
