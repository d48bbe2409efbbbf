-- `sweep::small::small_hops`, which calls itself, meets its contract: nothing where the total is 0, else its own hop, then those of
-- the halves. Assumes nothing.
use mathlib.Core.Path.{sym, ◌∙◌}
use native.Mathlib.Omega.{arith}
use Rattle.sweep.proofs.Seats.{seat_within, seat_room, bits_some}
use Rattle.sweep.proofs.Looked.{look_empty, look-over, look_leaf, look-low, look_high, high_room, look_not, look-both}
use Rattle.sweep.proofs.small.+small_hops.Goals as goal

pub total_in-requires : goal.total_in-requires
total_in-requires t c = seat_within c.requires.stands

pub returns-then-total_in-eq0 : goal.returns-then-total_in-eq0
returns-then-total_in-eq0 t c =
    look_empty c.args.words.now c.args.bits c.args.slot (sym c.total_in.ensures ∙ c.if-total_in-eq0.true)

pub hop_at-own-requires : goal.hop_at-own-requires
hop_at-own-requires t c = seat_room c.requires.stands

pub returns-then-own-gt-MOST_HOP : goal.returns-then-own-gt-MOST_HOP
returns-then-own-gt-MOST_HOP t c =
    look-over c.args.words.now c.args.bits c.args.slot (λ z. c.if-total_in-eq0.false (c.total_in.ensures ∙ z))
    c.hop_at-own.result c.hop_at-own.ensures.0 c.if-own-gt-MOST_HOP.true

pub returns-in_default : goal.returns-in_default
returns-in_default t c =
    look_leaf c.args.words.now c.args.bits c.args.slot (λ z. c.if-total_in-eq0.false (c.total_in.ensures ∙ z))
    c.hop_at-own.result c.hop_at-own.ensures.0 c.if-own-gt-MOST_HOP.false c.in_default.ensures

pub overflow_add-high : goal.overflow_add-high
overflow_add-high t c =
    omega (arith, high_room c.requires c.in-Some.low c.in-Some.ensures.0 c.in-Some.ensures.1, c.well_formed)

pub small_hops-requires : goal.small_hops-requires
small_hops-requires t c =
    let l = c.in-Some in (
      omega (arith, c.decreases, bits_some c.args.words.now c.args.bits c.args.slot l.low l.ensures.0 l.ensures.1),
      look-low c.requires l.low l.ensures.0 l.ensures.1,
    )

pub small_hops-requires-then-small_hops : goal.small_hops-requires-then-small_hops
small_hops-requires-then-small_hops t c =
    let l = c.in-Some in (
      omega (arith, c.decreases, bits_some c.args.words.now c.args.bits c.args.slot l.low l.ensures.0 l.ensures.1),
      look_high c.requires l.low l.ensures.0 l.ensures.1,
    )

pub returns-then-small_hops : goal.returns-then-small_hops
returns-then-small_hops t c =
    let x = c.small_hops in
    let y = c.small_hops-then-small_hops in
    look-both c.args.words.now c.args.bits c.args.slot (λ z. c.if-total_in-eq0.false (c.total_in.ensures ∙ z))
    c.hop_at-own.result c.hop_at-own.ensures.0 c.in-Some.low
    c.if-own-gt-MOST_HOP.false c.in-Some.ensures.0 c.in-Some.ensures.1 x.result y.result x.ensures c.if-small_hops.true y.ensures

pub returns-else-small_hops : goal.returns-else-small_hops
returns-else-small_hops t c =
    c.if-small_hops.false
    ∙ look_not c.args.words.now c.args.bits c.args.slot (λ z. c.if-total_in-eq0.false (c.total_in.ensures ∙ z))
    c.hop_at-own.result c.hop_at-own.ensures.0 c.in-Some.low
    c.if-own-gt-MOST_HOP.false c.in-Some.ensures.0 c.in-Some.ensures.1 c.small_hops.result
    c.small_hops.ensures c.if-small_hops.false
