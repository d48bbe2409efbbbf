-- `lengths::look_in` meets its contract: the table lies outside the words, or the first place of the probe tells, or those after
-- it. Assumes nothing.
use mathlib.Core.Path.{ap, ◌∙◌}
use Prim.Native.Nat.{ℕ, ◌+◌, ◌*◌}
use lib.ListN.{get_or}
use Rattle.lengths.specs.Layout.{begin_of, places_of, place}
use Rattle.lengths.proofs.Probing.{key-own, key_other, place_first, probe_free, probe-own, probe_on, find_none, find_all}
use Rattle.lengths.proofs.Probing.{look_out, look_there}
use native.Mathlib.Omega.{arith}
use Rattle.lengths.proofs.look_in.Goals as goal

pub returns-then-o-size : goal.returns-then-o-size
returns-then-o-size c =
    let a = c.args in
    record { told = look_out a.words.now a.m a.v c.if-o-size.true; inside = tt }

pub returns-then-size-eq0 : goal.returns-then-size-eq0
returns-then-size-eq0 c =
    let a = c.args in
    let ws = a.words.now in
    let p = 4 * get_or ws (2 * a.m + 1) 0 in
    let T = places_of ws a.m (begin_of ws a.m) p in
    record { told = find_none T p a.v (omega arith) ∙ look_there ws a.m a.v c.if-o-size.false; inside = tt }

pub returns-then-is_free : goal.returns-then-is_free
returns-then-is_free c =
    let a = c.args in
    let ws = a.words.now in
    let p = 4 * get_or ws (2 * a.m + 1) 0 in
    let T = places_of ws a.m (begin_of ws a.m) p in
    let s = c.start-s in
    let here = place_first s.result p s.ensures.1 ∙ ap (λ (x : ℕ). place x p 0) s.ensures.0 in
    let f = c.is_free in
    record {
      told = probe_free T p a.v 0 (omega arith) s.result here f.result f.ensures c.if-is_free.true ∙ find_all T p a.v
          ∙ look_there ws a.m a.v c.if-o-size.false;
      inside = tt;
    }

pub returns-then-words-at : goal.returns-then-words-at
returns-then-words-at c =
    let a = c.args in
    let ws = a.words.now in
    let p = 4 * get_or ws (2 * a.m + 1) 0 in
    let T = places_of ws a.m (begin_of ws a.m) p in
    let s = c.start-s in
    let here = place_first s.result p s.ensures.1 ∙ ap (λ (x : ℕ). place x p 0) s.ensures.0 in
    let f = c.is_free in
    let own = key-own _ a.v (omega arith) c.if-words-at.true in
    record {
      told = probe-own T p a.v 0 (omega arith) s.result here f.result f.ensures c.if-is_free.false own
          ∙ find_all T p a.v ∙ look_there ws a.m a.v c.if-o-size.false;
      inside = omega (arith, s.ensures.1, c.if-o-size.false);
    }

pub returns : goal.returns
returns c =
    let a = c.args in
    let ws = a.words.now in
    let p = 4 * get_or ws (2 * a.m + 1) 0 in
    let T = places_of ws a.m (begin_of ws a.m) p in
    let s = c.start-s in
    let here = place_first s.result p s.ensures.1 ∙ ap (λ (x : ℕ). place x p 0) s.ensures.0 in
    let f = c.is_free in
    let word = c.type_inv.words (begin_of ws a.m + s.result) in
    let other = key_other _ a.v (omega (arith, word)) c.if-words-at.false in
    record {
      told = c.probe_on.ensures.told ∙ probe_on T p a.v 0 (omega arith) s.result here f.result f.ensures
          c.if-is_free.false other ∙ find_all T p a.v
          ∙ look_there ws a.m a.v c.if-o-size.false;
      inside = c.probe_on.ensures.inside;
    }
