-- `writing::put_feeds` meets its contract: what is left to be written, and the whole, write the same. Assumes nothing.
use native.Mathlib.Omega.{arith}
use Rattle.writing.proofs.Own.{left_done, ask-word, left-turn}
use Rattle.writing.proofs.put_feeds.Goals as goal

pub put-p-requires : goal.put-p-requires
put-p-requires c =
    ask-word c.requires c.loop-feed.invariant c.loop-feed-test.true c.word_at.result c.word_at.ensures

pub loop-feed-preserved : goal.loop-feed-preserved
loop-feed-preserved c =
    let p = c.put-p in
    left-turn c.requires c.loop-feed.invariant c.loop-feed-test.true c.word_at.result c.word_at.ensures
    p.result p.new.buffer p.auto.buffer p.ensures

pub returns : goal.returns
returns c =
    left_done c.requires c.loop-feed.invariant (omega (arith, c.loop-feed-test.false))
