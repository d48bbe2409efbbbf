-- `listing::Listed::arrays` meets its contract: the loop keeps the arrays of the levels 0 to k. Assumes nothing.
use mathlib.Core.Path.{◌≡◌}
use Prim.Native.Nat.{◌+◌, ◌*◌, ◌-◌}
use native.Mathlib.Omega.{arith}
use Rattle.rivals.specs.Won.{winners_list}
use Rattle.listing.specs.Listed.{candidates_in, list_of}
use Rattle.listing.specs.Heads.{between}
use Rattle.listing.proofs.Counting.{picks_few, arrays_none, arrays_more}
use Rattle.listing.proofs.Listed.arrays.Goals as goal

pub loop-k-init : goal.loop-k-init
loop-k-init c = (omega arith, arrays_none (list_of c.args.self.bytes.now), omega arith)

pub overflow_add-sum : goal.overflow_add-sum
overflow_add-sum c =
    let l = c.loop-k in
    omega (arith, l.invariant.2, c.count-sum.ensures, picks_few (between (8 * l.k + 1) 32) (8 * l.k) (candidates_in c.args.self.bytes.now) c.args.self.list)

pub loop-k-preserved : goal.loop-k-preserved
loop-k-preserved c =
    let l = c.loop-k in
    let e : l.k + 1 - 1 ≡ l.k = omega arith in
    let n = c.count-sum in (
      omega arith,
      rw e (arrays_more (list_of c.args.self.bytes.now) l.sum (l.k - 1) l.k n.result (winners_list 32 (candidates_in c.args.self.bytes.now) c.args.self.list)
          l.invariant.1 (omega arith) n.ensures),
      omega (arith, l.invariant.2, n.ensures, picks_few (between (8 * l.k + 1) 32) (8 * l.k) (candidates_in c.args.self.bytes.now) c.args.self.list),
    )
