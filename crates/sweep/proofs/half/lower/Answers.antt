-- `sweep::half::lower` meets its contract: an address has no halves, and any other prefix those of its slot. Assumes nothing.
use Rattle.sweep.proofs.Seats.{seat_within, seat_some}
use Rattle.sweep.proofs.Steps.{lower_half}
use Rattle.sweep.proofs.half.lower.Goals as goal

pub half-requires : goal.half-requires
half-requires c = seat_within c.requires.stands

pub returns : goal.returns
returns c =
    lower_half c.args.words.now c.args.bits c.args.slot c.half.result c.if-bits-eq0.false
    (c.half.ensures.low (seat_some c.requires.stands))
