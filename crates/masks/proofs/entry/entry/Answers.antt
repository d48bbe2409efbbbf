-- `masks::entry::entry` seeks from the highest slot down. Assumes nothing.
use Rattle.std.proofs.Common.{◌≡◌, ◌≢◌, false, sym, ◌∙◌, ◌-◌, arith, ne_eqb}
use Rattle.masks.specs.Sieve.{held_in}
use Rattle.masks.specs.Top.{seek_found, seek_on, seek_end}
use Rattle.masks.specs.Entry.{mapped, entry, entry_lt}
use Rattle.masks.proofs.Pairs.{held_some, held_none}
use Rattle.masks.proofs.Choosing.{seek_start, mapped_none, not_held, not_fitting, is_mapped}
use Rattle.masks.proofs.entry.entry.Goals as goal
use Rattle.masks.proofs.entry.entry.Goals.{else-held-slot-ne0-via-then-held-slot-ne0+else-fits, else-held-slot-ne0-via-else-held-slot-ne0}

pub loop-slot-init : goal.loop-slot-init
loop-slot-init c = record { low = omega arith; left = seek_start _ _ _ }

pub returns-then-fits : goal.returns-then-fits
returns-then-fits c =
    let a = c.args in
    let h = held_in a.held.now in
    let s = c.loop-slot.slot - 1 in
    let yes = held_some a.held.now s (omega arith) c.if-held-slot-ne0.true in
    let e = seek_found (mapped h a.m a.y) c.loop-slot.slot (entry h a.m a.y) (omega arith) c.loop-slot.invariant.left
    (is_mapped h a.m a.y s yes (sym c.fits.ensures ∙ c.if-fits.true)) in
    let n : s ≢ 0 = λ z. omega arith in
    record { slot = rw (← e, ne_eqb s 0 n); small = entry_lt h a.m a.y }

pub loop-slot-preserved : goal.loop-slot-preserved
loop-slot-preserved c =
    let a = c.args in
    let h = held_in a.held.now in
    let s = c.loop-slot.slot - 1 in
    let no : mapped h a.m a.y s ≡ false = elim c.else-held-slot-ne0.branch [
      | else-held-slot-ne0-via-then-held-slot-ne0+else-fits w ↦
          not_fitting h a.m a.y s (held_some a.held.now s (omega arith) w.if-held-slot-ne0.true) (sym w.fits.ensures ∙ w.if-fits.false)
      | else-held-slot-ne0-via-else-held-slot-ne0 w ↦
          not_held h a.m a.y s (held_none a.held.now s (omega arith) w.if-held-slot-ne0.false)
    ] in
    record { low = omega arith; left = seek_on (mapped h a.m a.y) c.loop-slot.slot (entry h a.m a.y) (omega arith) c.loop-slot.invariant.left no }

pub returns : goal.returns
returns c =
    let a = c.args in
    let h = held_in a.held.now in
    let e = seek_end (mapped h a.m a.y) c.loop-slot.slot (entry h a.m a.y) (omega arith) (omega arith)
    (mapped_none a.held.now a.m a.y) c.loop-slot.invariant.left in
    record { slot = rw (← e); small = entry_lt h a.m a.y }
