-- `words::frees` finds free arrays one after the other, each without slots and cells. Assumes nothing.
use Rattle.std.proofs.Common.{◌-◌, sym, refl, ◌∙◌, arith}
use borrow.Author.Tests.{not-true, not-false}
use Rattle.logic.specs.Nonzero.{nonzero_some, nonzero_none}
use Rattle.words.specs.Frees.{found_last, frees_none, frees_unset, frees_stop, frees_dirty, frees_fits, frees_known, frees_more}
use Rattle.words.proofs.frees.Goals as goal

pub loop-i-init : goal.loop-i-init
loop-i-init c = (tt, frees_none _)

pub returns-in_err-f : goal.returns-in_err-f
returns-in_err-f c =
    let a = c.args in
    let l = c.loop-i in
    let s = l.invariant.1 in
    let z = nonzero_none _ (sym c.in_err-f.ensures) in
    rw c.from_residual.ensures
    (frees_unset a.words.now a.m l.all c.requires.1 c.requires.2 (s.unset (a.m - 1) (omega arith) (omega arith))
    (frees_stop a.words.now a.m l.i (found_last l.last) l.all s (omega arith) c.requires.2 0 (sym z) refl))

pub clean-requires : goal.clean-requires
clean-requires c =
    let a = c.args in
    let ws = a.words.now in
    let l = c.loop-i in
    let k = nonzero_some _ c.in_ok-f.f (sym c.in_ok-f.ensures) in
    let w = frees_fits ws a.m l.i (found_last l.last) l.all l.invariant.1 (omega arith) c.requires.2 _ refl k.1 in (
      omega (arith, w.1, k.0),
      c.requires.0.1,
      λ y. rw k.0 at (frees_known ws a.m l.i (found_last l.last) l.all l.invariant.1 (omega arith) c.requires.2 _ refl k.1
          (c.requires.3 y)),
    )

pub returns-then-not-clean : goal.returns-then-not-clean
returns-then-not-clean c =
    let a = c.args in
    let ws = a.words.now in
    let l = c.loop-i in
    let s = l.invariant.1 in
    let k = nonzero_some _ c.in_ok-f.f (sym c.in_ok-f.ensures) in
    frees_unset ws a.m l.all c.requires.1 c.requires.2 (s.unset (a.m - 1) (omega arith) (omega arith))
    (frees_dirty ws a.m l.i (found_last l.last) l.all s (omega arith) c.requires.2 c.in_ok-f.f (sym k.0)
    (λ z. k.1 (k.0 ∙ z)) _ c.clean.ensures (not-true _ c.if-not-clean.true-raw))

pub overflow_cast-all : goal.overflow_cast-all
overflow_cast-all c =
    let a = c.args in
    let l = c.loop-i in
    let k = nonzero_some _ c.in_ok-f.f (sym c.in_ok-f.ensures) in
    omega (
      arith,
      (frees_fits a.words.now a.m l.i (found_last l.last) l.all l.invariant.1 (omega arith) c.requires.2 c.in_ok-f.f (sym k.0)
          (λ z. k.1 (k.0 ∙ z))).1,
    )

pub loop-i-preserved : goal.loop-i-preserved
loop-i-preserved c =
    let a = c.args in
    let l = c.loop-i in
    let k = nonzero_some _ c.in_ok-f.f (sym c.in_ok-f.ensures) in
    let m = frees_more a.words.now a.m l.i (found_last l.last) l.all l.invariant.1 (omega arith) c.requires.2 c.in_ok-f.f
    (sym k.0) (λ z. k.1 (k.0 ∙ z)) _ c.clean.ensures (not-false _ c.if-not-clean.false-raw) in
    ((omega (arith, k), m.fits, m.offered (λ z. k.1 (k.0 ∙ z))), m)
