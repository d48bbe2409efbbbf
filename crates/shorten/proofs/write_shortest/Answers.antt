-- `shorten::write_shortest` meets its contract: the bytes written are the front of the buffer. Assumes nothing.
use Rattle.shorten.specs.Answer.{short_in}
use Rattle.std.proofs.Common.{length}
use Rattle.shorten.proofs.Outcomes.{front_is}
use Rattle.shorten.proofs.write_shortest.Goals as goal

pub returns-clause-bytes : goal.returns-clause-bytes
returns-clause-bytes c =
    let a = c.args in
    rw c.unwrap_or-n.ensures (
    front_is (short_in a.words.now a.scratch.now (length a.buffer.now)) c.shorten.result a.buffer.now c.shorten.new.buffer
    c.shorten.ensures.answer c.shorten.ensures.buffer)
