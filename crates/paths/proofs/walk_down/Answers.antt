-- `paths::walk_down` meets its contract. At each turn a is the array of the first j bytes, its tags lead up, and what is left of the
-- path test is the whole. Assumes nothing.
use mathlib.Core.Path.{◌≡◌, sym, ◌∙◌}
use native.Mathlib.Omega.{arith}
use lib.ListN.{length}
use borrow.Author.Tests.{not-true, not-false}
use Rattle.logic.specs.Nonzero.{nonzero_some}
use Rattle.numbers.specs.Number.{number}
use Rattle.words.proofs.Laws.{nonzero_not}
use Rattle.paths.specs.Way.{way_root, going_first, way_whole, way_short, way_fails, going_more, rung_table}
use Rattle.paths.proofs.walk_down.Goals as goal

pub returns-then-tag-ne1 : goal.returns-then-tag-ne1
returns-then-tag-ne1 c =
    let a = c.args in
    way_root (length a.address.now) a.words.now (number a.address.now) a.k c.requires.0.0
    (λ z. c.if-tag-ne1.true (c.tag.ensures ∙ z))

pub loop-j-init : goal.loop-j-init
loop-j-init c =
    let a = c.args in (
      omega arith,
      going_first (length a.address.now) a.words.now (number a.address.now) a.k c.requires.0.0
          (sym c.tag.ensures ∙ c.if-tag-ne1.false),
    )

pub returns-in_default : goal.returns-in_default
returns-in_default c =
    let a = c.args in
    let g = c.loop-j.invariant.1 in (
      λ z. omega (arith, g.on.some),
      way_short (length a.address.now) a.words.now (number a.address.now) a.k c.requires.0.0 c.loop-j.j c.loop-j.a
          g (omega arith) c.byte_at-y.result c.byte_at-y.ensures.0
          (nonzero_not _ _ c.below.ensures.link c.in_default.not-Some),
    )

pub hangs-requires : goal.hangs-requires
hangs-requires c =
    let a = c.args in
    let o = c.loop-j.invariant.1.on in
    let yb = c.byte_at-y.ensures.1 in
    let k = nonzero_some _ c.in-Some.b (sym c.in-Some.ensures.link) in (
      c.requires.0,
      omega (arith, o.within),
      yb,
      omega arith,
      k.0,
      λ e. (rung_table (length a.address.now) a.words.now (number a.address.now) (c.requires.3 e) c.loop-j.j c.loop-j.a
          c.byte_at-y.result o yb k.1).0,
    )

pub returns-then-not-hangs : goal.returns-then-not-hangs
returns-then-not-hangs c =
    let a = c.args in
    let k = nonzero_some _ c.in-Some.b (sym c.in-Some.ensures.link) in
    way_fails (length a.address.now) a.words.now (number a.address.now) a.k c.requires.0.0 c.loop-j.j c.loop-j.a
    c.loop-j.invariant.1 (omega arith) c.byte_at-y.result c.byte_at-y.ensures.0 k.1
    (sym c.hangs.ensures ∙ not-true _ c.if-not-hangs.true-raw)

pub loop-j-preserved : goal.loop-j-preserved
loop-j-preserved c =
    let a = c.args in
    let k = nonzero_some _ c.in-Some.b (sym c.in-Some.ensures.link) in
    let g = going_more (length a.address.now) a.words.now (number a.address.now) a.k c.requires.0.0 c.loop-j.j c.loop-j.a
    c.loop-j.invariant.1 (omega arith) c.byte_at-y.result c.byte_at-y.ensures.0 k.1
    c.requires.1 c.requires.2 (sym c.hangs.ensures ∙ not-false _ c.if-not-hangs.false-raw) in
    (omega (arith, k.0, c.in-Some.ensures.small), rw k.0 at g)

pub returns : goal.returns
returns c =
    let a = c.args in
    let g = c.loop-j.invariant.1 in
    let e : c.loop-j.j ≡ a.k = omega (arith, g.low) in (
      λ z. omega (arith, g.on.some),
      rw e at (way_whole (length a.address.now) a.words.now (number a.address.now) a.k c.requires.0.0 c.loop-j.j c.loop-j.a
          g (omega arith)),
    )
