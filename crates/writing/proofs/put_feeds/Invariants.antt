-- `writing::put_feeds` meets its contract: what is left to be written, and the whole, write the same. Assumes nothing.
use Rattle.writing.proofs.Own.{Left}
use Rattle.writing.proofs.put_feeds.Given as goal

abbrev pub invariant-loop-feed : goal.invariant-loop-feed
invariant-loop-feed l = Left l.words l.slot l.address l.bits l.initial.buffer l.at l.buffer l.p l.feed
