-- Charged in its place, in a new one, or not at all. Assumes nothing.
use Rattle.std.proofs.Common.{refl, sym, ap, ◌∙◌, arith}
use Rattle.rows.specs.Row.{Row}
use Rattle.charge.specs.Steps.{place-low, new_low, charge_here, charge_new, charge-full}
use Rattle.charge.proofs.charge.Goals as goal

pub raised-mark-requires : goal.raised-mark-requires
raised-mark-requires c =
    let ws = c.args.words.now in
    let a = c.args.candidate in
    let row = c.in-Some.row in
    place-low ws ws a.address a.length a.feed c.args.spot.at row.mark row.kept (rw c.in-Some.is at c.requires) (omega arith)

pub insert-requires : goal.insert-requires
insert-requires c =
    let ws = c.args.words.now in
    let a = c.args.candidate in
    let z = ap (λ (x : Row). x.x) (sym c.row_at.ensures) ∙ c.if-row_at-eq0.true in (
      c.requires.words.size,
      new_low ws ws a.address a.length a.feed c.args.spot.at 0 0 (rw c.in-None.is at c.requires) (omega arith) z,
    )

pub returns-in-Some : goal.returns-in-Some
returns-in-Some c =
    let a = c.args.candidate in
    let row = c.in-Some.row in
    let r = c.raised-mark in
    charge_here c.args.words.now c.store.new.words a.address a.length a.feed c.args.spot.at row.mark row.kept
    (rw c.in-Some.is at c.requires) (omega arith) r.result r.ensures.0 r.ensures.1 (c.args.spot.used row c.in-Some.is)
    (rw c.row.ensures at c.store.ensures)

pub returns-then-row_at-eq0 : goal.returns-then-row_at-eq0
returns-then-row_at-eq0 c =
    let a = c.args.candidate in
    let r = c.raised in
    let z = ap (λ (x : Row). x.x) (sym c.row_at.ensures) ∙ c.if-row_at-eq0.true in
    charge_new c.args.words.now c.insert.new.words a.address a.length a.feed c.args.spot.at 0 0
    (rw c.in-None.is at c.requires) (omega arith) r.result r.ensures.0 r.ensures.1 refl z
    (rw c.row-then-row_at-eq0.ensures at c.insert.ensures)

pub returns-else-row_at-eq0 : goal.returns-else-row_at-eq0
returns-else-row_at-eq0 c =
    let ws = c.args.words.now in
    let a = c.args.candidate in
    charge-full ws ws a.address a.length a.feed c.args.spot.at 0 0 (rw c.in-None.is at c.requires) (omega arith) refl
    (λ z. c.if-row_at-eq0.false (ap (λ (x : Row). x.x) c.row_at.ensures ∙ z))
