-- `listing::Record::is_last` meets its contract: by the record after it. Assumes nothing.
use Rattle.listing.specs.Records.{records_few}
use native.Mathlib.Omega.{arith}
use Rattle.listing.proofs.Record.is_last.Goals as goal

pub overflow_add-i : goal.overflow_add-i
overflow_add-i c = omega (arith, c.args.self.inside, records_few c.args.self.bytes.now)
