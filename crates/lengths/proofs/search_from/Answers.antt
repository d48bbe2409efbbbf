-- `lengths::search_from` meets its contract. The loop keeps that what is left of the search is the whole of it. Assumes nothing.
use mathlib.Core.Path.{◌≡◌, ◌∙◌}
use Rattle.numbers.specs.Powers.{half}
use lib.ListN.{get_or}
use Rattle.lengths.specs.declared.Look.TheVariants.{Miss, Hit, Outside}
use Rattle.lengths.proofs.Searching.{looks, saw, within, end_miss, end_hit, end_longer, any_outside}
use Rattle.lengths.proofs.Searching.{turn_shorter, turn-longer}
use native.Mathlib.Omega.{arith}
use Rattle.lengths.proofs.search_from.Goals as goal

pub returns-then-n-eq0 : goal.returns-then-n-eq0
returns-then-n-eq0 c =
    let a = c.args in
    let l = c.loop-n in
    let before = get_or a.words.now l.best 0 in
    let k = c.look_in in
    let e : l.n ≡ 0 = c.if-n-eq0.true in
    let x = saw a.words.now k.result _ k.ensures Miss c.in-Miss.is in
    record { told = end_miss (looks a.words.now a.address) l.m before x ∙ rw e at l.invariant.4; inside = l.invariant.5 }

pub overflow_sub-m-in-Miss : goal.overflow_sub-m-in-Miss
overflow_sub-m-in-Miss c = let l = c.loop-n in omega (arith, c.power-m.ensures, half l.n (omega arith), l.invariant.1)

pub loop-n-preserved-in-Miss : goal.loop-n-preserved-in-Miss
loop-n-preserved-in-Miss c =
    let a = c.args in
    let l = c.loop-n in
    let before = get_or a.words.now l.best 0 in
    let k = c.look_in in
    let h = half l.n (omega arith) in
    let top = l.invariant.3 (omega arith) in
    let x = saw a.words.now k.result _ k.ensures Miss c.in-Miss.is in (
      omega (arith, l.invariant.0),
      omega (arith, c.power-m.ensures, l.invariant.1),
      omega (arith, l.invariant.2),
      λ _. omega (arith, c.power-m.ensures),
      turn_shorter (looks a.words.now a.address) l.m before l.n c.power-m.result (omega arith) c.power-m.ensures x ∙ l.invariant.4,
      l.invariant.5,
    )

pub loop-n-preserved-then-n-gt0 : goal.loop-n-preserved-then-n-gt0
loop-n-preserved-then-n-gt0 c =
    let a = c.args in
    let l = c.loop-n in
    let before = get_or a.words.now l.best 0 in
    let k = c.look_in in
    let h = half l.n (omega arith) in
    let top = l.invariant.3 (omega arith) in
    let x = saw a.words.now k.result _ k.ensures (Hit c.in-Hit.b) c.in-Hit.is in (
      omega (arith, l.invariant.0),
      omega (arith, c.power-m-then-n-gt0.ensures, l.invariant.1),
      omega (arith, c.power-m-then-n-gt0.ensures),
      λ _. omega (arith, c.power-m-then-n-gt0.ensures),
      turn-longer (looks a.words.now a.address) l.m before l.n c.power-m-then-n-gt0.result _ (omega arith) c.power-m-then-n-gt0.ensures x ∙ l.invariant.4,
      within a.words.now k.result _ k.ensures _ c.in-Hit.is,
    )

pub loop-n-preserved : goal.loop-n-preserved
loop-n-preserved c =
    let a = c.args in
    let l = c.loop-n in
    let before = get_or a.words.now l.best 0 in
    let k = c.look_in in
    let e : l.n ≡ 0 = omega arith in
    let x = saw a.words.now k.result _ k.ensures (Hit c.in-Hit.b) c.in-Hit.is in (
      omega arith,
      rw e (omega arith),
      omega arith,
      λ h. absurd (omega arith),
      rw e (end_longer (looks a.words.now a.address) l.m before _ x c.if-m-eq31.true) ∙ l.invariant.4,
      within a.words.now k.result _ k.ensures _ c.in-Hit.is,
    )

pub returns-else-m-eq31 : goal.returns-else-m-eq31
returns-else-m-eq31 c =
    let a = c.args in
    let l = c.loop-n in
    let before = get_or a.words.now l.best 0 in
    let k = c.look_in in
    let e : l.n ≡ 0 = omega arith in
    let x = saw a.words.now k.result _ k.ensures (Hit c.in-Hit.b) c.in-Hit.is in
    record {
      told = end_hit (looks a.words.now a.address) l.m before _ x c.if-m-eq31.false ∙ rw e at l.invariant.4;
      inside = within a.words.now k.result _ k.ensures _ c.in-Hit.is;
    }

pub returns-in-Outside : goal.returns-in-Outside
returns-in-Outside c =
    let a = c.args in
    let l = c.loop-n in
    let before = get_or a.words.now l.best 0 in
    let k = c.look_in in
    let x = saw a.words.now k.result _ k.ensures Outside c.in-Outside.is in
    record { told = any_outside (looks a.words.now a.address) l.m before l.n x ∙ l.invariant.4; inside = tt }
