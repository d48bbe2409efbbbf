-- `slots::check::bare` meets its contract. The words of the slots passed are 0: one that is not stops the loop, and none did where
-- it ends. Assumes nothing.
use Rattle.std.proofs.Common.{◌≡◌, true, ◌*◌}
use Rattle.logic.specs.Every.{all_b}
use Rattle.sizes.specs.Sizes.{slot_at}
use Rattle.slots.specs.Zeros.{zero_at}
use Rattle.slots.proofs.Laws.{stride_words}
use Rattle.slots.proofs.check.bare.Given as goal

abbrev pub invariant-loop-g : goal.invariant-loop-g
invariant-loop-g l = all_b (zero_at l.page (slot_at 2)) (stride_words * l.g) ≡ true
