-- `lengths::probe_on` meets its contract. The loop keeps that what is left of the probe is the whole of it. Assumes nothing.
use mathlib.Core.Path.{ap, ◌∙◌}
use Prim.Native.Nat.{ℕ, ◌+◌}
use Rattle.lengths.specs.Layout.{places_of, place}
use Rattle.lengths.proofs.Probing.{key-own, key_other, probe_none, probe_free, probe-own, probe_on}
use native.Mathlib.Omega.{arith}
use Rattle.lengths.proofs.probe_on.Goals as goal

pub returns-then-is_free : goal.returns-then-is_free
returns-then-is_free c =
    let a = c.args in
    let l = c.loop-e in
    let at = c.place in
    let here = at.ensures.0 ∙ ap (λ (x : ℕ). place x a.p l.e) c.requires.1 in
    let f = c.is_free in
    record {
      told = probe_free (places_of a.words.now a.m a.o a.p) a.p a.v l.e (omega arith) at.result here
          f.result f.ensures c.if-is_free.true ∙ l.invariant.1;
      inside = tt;
    }

pub returns-then-words-at : goal.returns-then-words-at
returns-then-words-at c =
    let a = c.args in
    let l = c.loop-e in
    let at = c.place in
    let here = at.ensures.0 ∙ ap (λ (x : ℕ). place x a.p l.e) c.requires.1 in
    let f = c.is_free in
    let own = key-own _ a.v (omega arith) c.if-words-at.true in
    record {
      told = probe-own (places_of a.words.now a.m a.o a.p) a.p a.v l.e (omega arith) at.result here
          f.result f.ensures c.if-is_free.false own ∙ l.invariant.1;
      inside = omega (arith, at.ensures.1);
    }

pub loop-e-preserved : goal.loop-e-preserved
loop-e-preserved c =
    let a = c.args in
    let l = c.loop-e in
    let at = c.place in
    let here = at.ensures.0 ∙ ap (λ (x : ℕ). place x a.p l.e) c.requires.1 in
    let f = c.is_free in
    let other = key_other _ a.v (omega (arith, c.type_inv.words (a.o + at.result))) c.if-words-at.false in (
      omega arith,
      probe_on (places_of a.words.now a.m a.o a.p) a.p a.v l.e (omega arith) at.result here
          f.result f.ensures c.if-is_free.false other ∙ l.invariant.1,
    )

pub returns : goal.returns
returns c =
    let a = c.args in
    let l = c.loop-e in
    record { told = probe_none (places_of a.words.now a.m a.o a.p) a.p a.v l.e c.loop-e-test.false ∙ l.invariant.1; inside = tt }
