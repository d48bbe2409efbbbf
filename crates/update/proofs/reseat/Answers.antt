-- `update::reseat` meets its contract: the slot is set in its page, then the totals on the path follow. Assumes nothing.
use Rattle.update.specs.Local.{sits_spot, seated_climbs, reseated_any}
use Rattle.update.proofs.reseat.Goals as goal

pub reslot-changed-requires : goal.reslot-changed-requires
reslot-changed-requires c =
    (sits_spot _ _ _ _ c.requires.0, c.requires.2)

pub retotal-requires : goal.retotal-requires
retotal-requires c =
    (seated_climbs c.requires.0 c.reslot-changed.ensures, rw c.reslot-changed.ensures.size c.requires.1, c.slot_of-slot.ensures.1)

pub returns : goal.returns
returns c =
    reseated_any c.requires.0 c.reslot-changed.ensures c.retotal.new.words
    (rw c.slot_of-slot.ensures.0 at c.slot_of-slot.ensures.1) (rw c.slot_of-slot.ensures.0 at c.retotal.ensures)
