-- `listing::Listed::count` meets its contract. The loop keeps the count over the records from i on, and the address met last. Assumes
-- nothing.
use mathlib.Core.Path.{◌≡◌, ◌∙◌}
use Prim.Native.Nat.{◌-◌}
use Rattle.listing.specs.Listed.{records_in, candidate_at}
use Rattle.listing.specs.Heads.{between}
use Rattle.listing.specs.Records.{records_few}
use Rattle.listing.proofs.Counting.{counts_none, counts_past, counts_more, counts_low, counts_end}
use native.Mathlib.Omega.{arith}
use Rattle.listing.proofs.Listed.count.Goals as goal

pub loop-i-init : goal.loop-i-init
loop-i-init c =
    let a = c.args in
    rw c.records-i.ensures.0 (omega arith, counts_none (between a.from a.to) a.m (records_in a.self.bytes.now) a.self.bytes.now)

pub counted-seen-requires : goal.counted-seen-requires
counted-seen-requires c =
    let a = c.args in
    let l = c.loop-i in (
      omega (
        arith,
        counts_low (between a.from a.to) a.m (records_in a.self.bytes.now) l.i a.self.bytes.now l.seen l.last l.invariant.1,
        records_few a.self.bytes.now,
      ),
      c.requires,
    )

pub loop-i-preserved-then-is_between : goal.loop-i-preserved-then-is_between
loop-i-preserved-then-is_between c =
    let a = c.args in
    let l = c.loop-i in
    let bits = c.bits in
    let test = c.is_between in
    let if1 = c.if-is_between in
    let e : test.result ≡ between a.from a.to (candidate_at a.self.bytes.now (l.i - 1)).len =
    test.ensures ∙ rw bits.ensures.0 in (
      omega arith,
      counts_more (between a.from a.to) a.m (records_in a.self.bytes.now) l.i (l.i - 1) a.self.bytes.now (omega arith)
          (omega arith) c.args.self.list l.seen l.last l.invariant.1 test.result c.address-address.result
          c.counted-seen.result e if1.true c.address-address.ensures
          c.counted-seen.ensures,
    )

pub loop-i-preserved : goal.loop-i-preserved
loop-i-preserved c =
    let a = c.args in
    let l = c.loop-i in
    let bits = c.bits in
    let test = c.is_between in
    let e : test.result ≡ between a.from a.to (candidate_at a.self.bytes.now (l.i - 1)).len =
    test.ensures ∙ rw bits.ensures.0 in (
      omega arith,
      counts_past (between a.from a.to) a.m (records_in a.self.bytes.now) l.i (l.i - 1) a.self.bytes.now (omega arith)
          (omega arith) c.args.self.list l.seen l.last l.invariant.1 test.result e c.if-is_between.false,
    )

pub returns : goal.returns
returns c =
    let a = c.args in
    let l = c.loop-i in
    counts_end (between a.from a.to) a.m (records_in a.self.bytes.now) l.i a.self.bytes.now l.seen l.last
    c.loop-i-test.false c.args.self.list l.invariant.1
