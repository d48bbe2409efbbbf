-- `listing::is_listed` meets its contract. The loop keeps that every record passed is one. Assumes nothing.
use mathlib.Core.Path.{sym, ap, ◌∙◌}
use mathlib.Core.Bool.{not}
use Rattle.logic.specs.Reflects.{all_none, all_more}
use Rattle.listing.specs.Listed.{record_b}
use Rattle.listing.proofs.Tests.{records_of_fact, whole_odd, whole_unended, whole_broken, whole_right}
use native.Mathlib.Omega.{arith}
use Rattle.listing.proofs.is_listed.Goals as goal
use Rattle.listing.proofs.is_listed.Goals.{then-bytes-size-ne1-via-then-bytes-size-ne1}
use Rattle.listing.proofs.is_listed.Goals.{then-bytes-size-ne1-via-else-bytes-size-ne1+then-bytes-size-ne0}

pub returns-then-bytes-size-ne1 : goal.returns-then-bytes-size-ne1
returns-then-bytes-size-ne1 c =
    let a = c.args in
    let size = c.size-size in
    elim c.then-bytes-size-ne1.branch [
      | then-bytes-size-ne1-via-then-bytes-size-ne1 w ↦ whole_odd a.bytes.now size.result size.ensures.0 w.if-bytes-size-ne1.true
      | then-bytes-size-ne1-via-else-bytes-size-ne1+then-bytes-size-ne0 w ↦
          whole_unended a.bytes.now size.result size.ensures.0 w.if-bytes-size-ne1.false w.if-bytes-size-ne0.true
    ]

pub loop-i-init : goal.loop-i-init
loop-i-init c = (omega arith, all_none (record_b c.args.bytes.now))

pub invariant_of-is_right : goal.invariant_of-is_right
invariant_of-is_right c =
    let a = c.args in
    let size = c.size-size in
    omega (arith, (records_of_fact a.bytes.now size.result size.ensures.0).0)

pub returns-then-not-is_right : goal.returns-then-not-is_right
returns-then-not-is_right c =
    let a = c.args in
    let size = c.size-size in
    let l = c.loop-i in
    let test = c.is_right in
    whole_broken a.bytes.now l.i test.result (omega (arith, (records_of_fact a.bytes.now size.result size.ensures.0).0))
    test.ensures (ap not c.if-not-is_right.true)

pub loop-i-preserved : goal.loop-i-preserved
loop-i-preserved c =
    let a = c.args in
    let size = c.size-size in
    let l = c.loop-i in
    let test = c.is_right in (
      omega (arith, (records_of_fact a.bytes.now size.result size.ensures.0).0),
      all_more (record_b a.bytes.now) l.i l.invariant.1 (sym test.ensures ∙ c.if-not-is_right.false),
    )

pub returns : goal.returns
returns c =
    let a = c.args in
    let size = c.size-size in
    let if1 = c.if-bytes-size-ne1 in
    let if2 = c.if-bytes-size-ne0 in
    let l = c.loop-i in
    whole_right a.bytes.now size.result size.ensures.0 if1.false (λ i. omega (arith, c.type_inv.bytes i)) if2.false l.i
    c.loop-i-test.false l.invariant.0 l.invariant.1
