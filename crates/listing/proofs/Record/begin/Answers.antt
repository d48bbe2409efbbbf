-- `listing::Record::begin` meets its contract: a record lies inside the bytes. Assumes nothing.
use Rattle.listing.proofs.Tests.{begin_of_fact}
use native.Mathlib.Omega.{arith}
use Rattle.listing.proofs.Record.begin.Goals as goal

pub overflow_mul-result : goal.overflow_mul-result
overflow_mul-result c =
    omega (
      arith,
      (begin_of_fact c.args.self.bytes.now c.size.result c.size.ensures.0 c.args.self.i c.size.ensures.1 c.args.self.inside).most,
    )

pub returns : goal.returns
returns c =
    begin_of_fact c.args.self.bytes.now c.size.result c.size.ensures.0 c.args.self.i c.size.ensures.1 c.args.self.inside
