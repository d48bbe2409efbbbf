-- `audit::sums::total_below` reads what an array has in all, where there is one of that number. Assumes nothing.
use mathlib.Core.Path.{sym}
use native.Mathlib.Omega.{arith}
use Rattle.logic.specs.Nonzero.{nonzero_some, nonzero_none}
use Rattle.audit.proofs.Totals.{below_none, below_far, below_there}
use Rattle.audit.proofs.sums.total_below.Goals as goal

pub returns-in-Some : goal.returns-in-Some
returns-in-Some c =
    let a = c.args.a.now in
    let k = nonzero_some _ c.in-Some.b (sym c.in-Some.ensures) in
    (below_there a.lent.words.now a.lent.arrays _ c.total.result k.1 (rw k.0 c.total.ensures.0), c.total.ensures.1)

pub returns-in_default : goal.returns-in_default
returns-in_default c =
    let a = c.args.a.now in
    let k = nonzero_some _ c.in-Some.b (sym c.in-Some.ensures) in
    (below_far a.lent.words.now a.lent.arrays _ a.lent.sized (omega (arith, k.0)), omega arith)

pub returns-in_default-2 : goal.returns-in_default-2
returns-in_default-2 c =
    let a = c.args.a.now in
    (below_none a.lent.words.now a.lent.arrays _ (nonzero_none _ (sym c.in_default.ensures)), omega arith)
