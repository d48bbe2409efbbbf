-- `slots::slot::is_free` tells whether all four words are 0: the or of them is. Assumes nothing.
use Rattle.slots.proofs.Laws.{free_told}
use Rattle.slots.proofs.slot.is_free.Goals as goal

pub returns : goal.returns
returns c = let a = c.args in free_told a.page.now a.i
