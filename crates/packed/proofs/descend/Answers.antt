-- `packed::descend` takes a turn of the walk a level: the two turns that take a best. Assumes nothing.
use mathlib.Core.Path.{sym, ap, ◌∙◌}
use Prim.Native.Nat.{ℕ, ◌+◌, ◌-◌, ◌*◌}
use native.Mathlib.Omega.{arith}
use lib.ListN.{get_or}
use Rattle.routes.specs.Match.{none}
use Rattle.routes.specs.Seen.{gives}
use Rattle.lookup.specs.Walk.{deeper}
use Rattle.packed.proofs.Turns.{newer_found, newer_low, turn_last, turn_on}
use Rattle.packed.proofs.descend.Goals as goal

pub returns-then-o-eq0-clause-end : goal.returns-then-o-eq0-clause-end
returns-then-o-eq0-clause-end c =
    let l = c.loop-left in
    let a = c.args in
    let ws = a.words.now in
    let w = l.o + 4 * c.index.result in
    let n = c.newer-best in
    ap gives (newer_found l.best (get_or ws (w + 1) 0) (24 - 8 * (l.left - 1)) n.result n.ensures)
    ∙ turn_last ws a.address l.left l.o l.m (deeper 0 none l.best) (omega arith) l.auto.left c.if-m-gt-FULL_MASK.false w
    (ap (λ (n : ℕ). l.o + 4 * n) c.index.ensures.0)
    c.if-n-at.false c.if-s-gt-LAST_SLOT.false
    (sym c.gets.ensures ∙ c.if-not-gets.false)
    c.if-own-ge-BEST_BOUND.false c.if-o-eq0.true
    ∙ l.invariant.2

pub loop-left-preserved : goal.loop-left-preserved
loop-left-preserved c =
    let l = c.loop-left in
    let a = c.args in
    let ws = a.words.now in
    let w = l.o + 4 * c.index.result in
    let own = get_or ws (w + 1) 0 in
    let base = 24 - 8 * (l.left - 1) in
    let n = c.newer-best in
    let on = turn_on ws a.address l.left l.o l.m (deeper 0 none l.best) (omega arith) l.auto.left c.if-m-gt-FULL_MASK.false w
    (ap (λ (n : ℕ). l.o + 4 * n) c.index.ensures.0)
    c.if-n-at.false c.if-s-gt-LAST_SLOT.false
    (sym c.gets.ensures ∙ c.if-not-gets.false)
    c.if-own-ge-BEST_BOUND.false c.if-o-eq0.false in (
      omega (arith, c.type_inv.words (w + 2)),
      newer_low l.best own base n.result n.ensures l.invariant.1 c.if-own-ge-BEST_BOUND.false (omega arith),
      rw (newer_found l.best own base n.result n.ensures) (on ∙ l.invariant.2),
    )
