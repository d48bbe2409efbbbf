-- `settle::check::blocks_of` meets its contract. The blocks of the slots of the levels that the loop passed are written. Assumes
-- nothing.
use Rattle.std.proofs.Common.{refl}
use lib.ListN.{replicate}
use Rattle.sizes.specs.Sizes.{slot_end}
use Rattle.settle.specs.Blocks.{blocks_first}
use Rattle.settle.proofs.check.blocks_of.Goals as goal

pub loop-d-init : goal.loop-d-init
loop-d-init c = blocks_first _ (replicate slot_end 0) refl
