-- `audit::clear` is `clear_any` at 4 levels. Assumes nothing.
use native.Mathlib.Omega.{arith}
use Rattle.audit.proofs.clear.Goals as goal

pub returns : goal.returns
returns c = c.clear_any.ensures 4 (omega arith) (omega arith)
