-- `array::check::covers` meets its contract. The covers of the slots of the levels that the loop passed are written. Assumes nothing.
use Rattle.std.proofs.Common.{refl, arith}
use lib.ListN.{replicate}
use Rattle.sizes.specs.Sizes.{slot_end}
use Rattle.array.specs.Cover.{covers_first}
use Rattle.array.proofs.check.covers.Goals as goal

pub loop-d-init : goal.loop-d-init
loop-d-init c = record { first = refl; covers = covers_first _ (replicate slot_end 0) _ (omega arith) refl refl }
