-- `paths::extend` meets its contract: nothing is missing, the cell is not fit, there is no room, free arrays are missing, or those
-- found are hung. Assumes nothing.
use mathlib.Core.Path.{sym, ◌∙◌}
use native.Mathlib.Omega.{arith}
use lib.ListN.{length}
use borrow.Author.Tests.{not-true, not-false}
use Rattle.std.specs.Prelude.{◌≡◌, refl, ◌-◌, ◌<◌, Some, None, replicate}
use Rattle.std.proofs.Common.{inr}
use Rattle.std.proofs.lemmas.List.{get_or-replicate}
use Rattle.std.proofs.lemmas.Result.{err_from_is_err_and}
use Rattle.numbers.specs.Number.{number}
use Rattle.words.specs.Rises.{rises_some}
use Rattle.words.specs.Frees.{table_blanks}
use Rattle.paths.specs.Hung.{any_there, fit_table, any_unfit, any_few, any_ready, any_grown}
use Rattle.paths.proofs.extend.Goals as goal

pub returns-then-j-k : goal.returns-then-j-k
returns-then-j-k c =
    let a = c.args in
    let w = c.requires.3 in (
      λ z. omega (arith, w.stops.on.some),
      λ z. omega (arith, w.stops.on.within),
      any_there (length a.address.now) a.words.now (number a.address.now) a.k a.s.level a.s.array w c.requires.0.1 c.if-j-k.true,
    )

pub fits-requires : goal.fits-requires
fits-requires c =
    let a = c.args in (
      omega (arith, c.requires.3.stops.on.within, c.requires.0.0),
      c.requires.0.1,
      c.byte_at-y.ensures.1,
      λ e. fit_table (length a.address.now) a.words.now (number a.address.now) a.k a.s.level a.s.array c.requires.3
          c.requires.0.0 c.requires.0.1 c.requires.2 c.requires.1.levels c.if-j-k.false c.byte_at-y.result c.byte_at-y.ensures.0
          (c.requires.4 e),
    )

pub returns-then-not-fits : goal.returns-then-not-fits
returns-then-not-fits c =
    let a = c.args in
    inr (
      refl,
      any_unfit (length a.address.now) a.words.now (number a.address.now) a.k a.s.level a.s.array c.requires.3
          c.requires.0.0 c.requires.0.1 c.requires.2 c.requires.1.levels c.if-j-k.false c.byte_at-y.result c.byte_at-y.ensures.0
          (sym c.fits.ensures ∙ not-true _ c.if-not-fits.true-raw),
    )

pub frees-requires : goal.frees-requires
frees-requires c =
    let a = c.args in (
      c.requires.0,
      omega (arith, c.requires.3.stops.low, c.if-j-k.false),
      omega (arith, c.requires.2, c.requires.1.levels),
      λ e. table_blanks (length a.address.now) 0 a.words.now (c.requires.4 e),
    )

pub returns-in_err-fresh : goal.returns-in_err-fresh
returns-in_err-fresh c =
    let p = err_from_is_err_and c.from_residual.result c.from_residual.ensures.1 in
    let z : c.frees.result ≡ None = grind arith in
    let a = c.args in
    let n = a.k - a.s.level in
    let short : n - 1 < 32 = omega (arith, c.requires.2, c.requires.1.levels) in
    rw (p.1, p.2)
    (inr (
      grind arith,
      any_few (length a.address.now) a.words.now (number a.address.now) a.k a.s.level a.s.array c.requires.3
          c.requires.0.0 c.requires.0.1 c.requires.2 c.requires.1.levels c.if-j-k.false c.byte_at-y.result c.byte_at-y.ensures.0
          (sym c.fits.ensures ∙ not-false _ c.if-not-fits.false-raw) (replicate 32 0) (rw z at c.frees.ensures)
          (omega (arith, c.arrays_in-n.ensures)) (get_or-replicate 32 (n - 1) 0 0 short),
    ))

pub hang_path-requires : goal.hang_path-requires
hang_path-requires c =
    let z : c.frees.result ≡ Some c.in_ok-fresh.fresh = grind arith in
    let x = rw z at c.frees.ensures in
    let a = c.args in
    any_ready (length a.address.now) a.words.now (number a.address.now) a.k a.s.level a.s.array c.requires.3
    c.requires.0.0 c.requires.0.1 c.requires.2 c.requires.1.levels c.if-j-k.false c.byte_at-y.result c.byte_at-y.ensures.0
    (sym c.fits.ensures ∙ not-false _ c.if-not-fits.false-raw) c.in_ok-fresh.fresh x.0 (omega (arith, c.arrays_in-n.ensures))
    (omega (arith, c.requires.2, c.requires.1.levels)) x.1

pub returns : goal.returns
returns c =
    let h = c.hang_path in
    let z : c.frees.result ≡ Some c.in_ok-fresh.fresh = grind arith in
    let x = rw z at c.frees.ensures in
    let a = c.args in
    let g = any_grown (length a.address.now) a.words.now (number a.address.now) a.k a.s.level a.s.array c.requires.3
    c.requires.0.0 c.requires.0.1 c.requires.2 c.requires.1.levels c.if-j-k.false c.byte_at-y.result c.byte_at-y.ensures.0
    (sym c.fits.ensures ∙ not-false _ c.if-not-fits.false-raw) c.in_ok-fresh.fresh x.0
    (omega (arith, c.arrays_in-n.ensures, c.if-n-m.false)) x.1 h.new.words h.result h.ensures.0 h.ensures.1 in
    (λ q. omega (arith, rises_some _ _ _ h.ensures.0.rises), λ q. omega (arith, h.ensures.1), g)
