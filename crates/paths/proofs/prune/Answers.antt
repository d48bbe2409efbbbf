-- `paths::prune` meets its contract. What is left may have b empty; an empty b is released, and its parent, one level up, may then be empty.
-- Assumes nothing.
use native.Mathlib.Omega.{arith}
use Rattle.paths.specs.Shed.{shed_none, shed_inside, shed_root, shed_some, shed_releases, shed_more, shed_falls}
use Rattle.paths.proofs.prune.Goals as goal

pub loop-b-init : goal.loop-b-init
loop-b-init c = shed_none c.args.words.now c.args.a c.requires.0

pub empty-requires : goal.empty-requires
empty-requires c =
    let i = c.loop-b.invariant in
    (shed_inside i, rw i.size c.requires.1)

pub returns-else-empty : goal.returns-else-empty
returns-else-empty c =
    let e = c.empty.ensures in
    shed_some c.loop-b.invariant _ (λ z. omega arith) e.0 e.1 (rw c.if-empty.false)

pub tag-requires : goal.tag-requires
tag-requires c =
    omega (arith, shed_inside c.loop-b.invariant)

pub release-requires : goal.release-requires
release-requires c =
    shed_releases c.loop-b.invariant (rw c.loop-b.invariant.size c.requires.1) (λ z. omega arith)

pub loop-b-smaller : goal.loop-b-smaller
loop-b-smaller c =
    rw (c.parent_in-p.ensures, c.tag.ensures)
    (shed_falls c.loop-b.invariant (rw c.loop-b.invariant.size c.requires.1) (λ z. omega arith)
    c.release.new.words c.release.ensures)

pub loop-b-preserved : goal.loop-b-preserved
loop-b-preserved c =
    rw (c.parent_in-p.ensures, c.tag.ensures)
    (shed_more c.loop-b.invariant (rw c.loop-b.invariant.size c.requires.1) (λ z. omega arith)
    c.release.new.words c.release.ensures _ c.empty.ensures.0 c.empty.ensures.1 c.if-empty.true)

pub returns-after-loop-b : goal.returns-after-loop-b
returns-after-loop-b c = shed_root c.loop-b.invariant (omega arith)
