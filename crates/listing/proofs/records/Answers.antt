-- `listing::records` meets its contract: a record has at least eight bytes. Assumes nothing.
use Rattle.std.proofs.Common.{◌≡◌, true, false, refl, arith}
use Rattle.listing.specs.Listed.{fours}
use Rattle.listing.proofs.Tests.{records_of_fact}
use Rattle.listing.proofs.records.Goals as goal

pub returns-then-is_fours : goal.returns-then-is_fours
returns-then-is_fours c =
    let t : fours c.args.bytes.now ≡ true = grind arith in
    records_of_fact c.args.bytes.now 10 (rw t refl)

pub returns-else-is_fours : goal.returns-else-is_fours
returns-else-is_fours c =
    let t : fours c.args.bytes.now ≡ false = grind arith in
    records_of_fact c.args.bytes.now 8 (rw t refl)
