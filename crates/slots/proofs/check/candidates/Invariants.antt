-- `slots::check::candidates` meets its contract. The number so far is that of the words passed which are not 0. Assumes nothing.
use Rattle.std.proofs.Common.{◌≡◌, ◌+◌, ◌*◌, ◌≤◌}
use Rattle.sizes.specs.Sizes.{slot_words}
use Rattle.slots.specs.Taken.{taken}
use Rattle.slots.specs.Count.{slot_word}
use Rattle.slots.proofs.check.candidates.Given as goal

abbrev pub invariant-loop-k : goal.invariant-loop-k
invariant-loop-k l = record {
  few : l.m ≤ l.k;
  count : taken (slot_word l.page) (slot_words * l.from) + l.m ≡ taken (slot_word l.page) (slot_words * l.from + l.k);
}
