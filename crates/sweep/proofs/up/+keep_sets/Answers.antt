-- `sweep::up::keep_sets`, which calls itself, meets its contract: one set for all where the total is 0, else the sets of the halves
-- are kept first, then the prefix's own. Assumes nothing.
use mathlib.Core.Path.{refl, sym, ◌∙◌}
use native.Mathlib.Omega.{arith}
use Rattle.sweep.proofs.Seats.{seat_within, seat_room}
use Rattle.sweep.proofs.Kept.{kept-inside, kept_room, ask-single, leaf_done, parted, rest_some, high_inside, ask-low, ask_high}
use Rattle.sweep.proofs.Kept.{sum-small, node_done}
use Rattle.sweep.proofs.Spreads.{spread_hop, spread_kept}
use Rattle.sweep.proofs.up.+keep_sets.Goals as goal

pub total_in-requires : goal.total_in-requires
total_in-requires t c = seat_within c.requires.stands

pub single-same-requires : goal.single-same-requires
single-same-requires t c = spread_hop c.requires (sym c.total_in.ensures ∙ c.if-total_in-eq0.true)

pub returns-then-total_in-eq0 : goal.returns-then-total_in-eq0
returns-then-total_in-eq0 t c =
    spread_kept c.requires (sym c.total_in.ensures ∙ c.if-total_in-eq0.true)
    c.single-same.result c.single-same.ensures c.spread.new.scratch c.spread.ensures

pub hop_at-requires : goal.hop_at-requires
hop_at-requires t c = seat_room c.requires.stands

pub single-set-requires : goal.single-set-requires
single-set-requires t c =
    ask-single c.requires c.hop_at.result c.under-hop.result c.hop_at.ensures.0 c.under-hop.ensures

pub offset_bounds-scratch-slot : goal.offset_bounds-scratch-slot
offset_bounds-scratch-slot t c = omega (arith, kept-inside c.requires, c.well_formed)

pub bounds-scratch-slot : goal.bounds-scratch-slot
bounds-scratch-slot t c = kept_room c.requires

pub returns-in_default : goal.returns-in_default
returns-in_default t c =
    leaf_done c.requires c.hop_at.result c.under-hop.result c.hop_at.ensures.0 c.under-hop.ensures
    c.single-set.result c.in_default.ensures c.single-set.ensures

pub overflow_add-high : goal.overflow_add-high
overflow_add-high t c =
    let r = parted c.requires c.hop_at.ensures.0 c.under-hop.ensures c.in-Some.ensures.0 c.in-Some.ensures.1 in
    omega (arith, high_inside r, c.well_formed)

pub keep_sets-x-requires : goal.keep_sets-x-requires
keep_sets-x-requires t c =
    let r = parted c.requires c.hop_at.ensures.0 c.under-hop.ensures c.in-Some.ensures.0 c.in-Some.ensures.1 in
    (omega (arith, c.decreases, rest_some r), ask-low r c.args.scratch.now refl)

pub keep_sets-y-requires : goal.keep_sets-y-requires
keep_sets-y-requires t c =
    let r = parted c.requires c.hop_at.ensures.0 c.under-hop.ensures c.in-Some.ensures.0 c.in-Some.ensures.1 in
    (omega (arith, c.decreases, rest_some r), ask_high r c.keep_sets-x.new.scratch c.keep_sets-x.auto.scratch)

pub overflow_add-cost : goal.overflow_add-cost
overflow_add-cost t c =
    let r = parted c.requires c.hop_at.ensures.0 c.under-hop.ensures c.in-Some.ensures.0 c.in-Some.ensures.1 in
    omega (arith, sum-small r c.keep_sets-x.ensures c.keep_sets-y.ensures)

pub overflow_add-cost-2 : goal.overflow_add-cost-2
overflow_add-cost-2 t c =
    let r = parted c.requires c.hop_at.ensures.0 c.under-hop.ensures c.in-Some.ensures.0 c.in-Some.ensures.1 in
    omega (arith, sum-small r c.keep_sets-x.ensures c.keep_sets-y.ensures, c.price.ensures.1)

pub offset_bounds-scratch-slot-2 : goal.offset_bounds-scratch-slot-2
offset_bounds-scratch-slot-2 t c = omega (arith, kept-inside c.requires, c.well_formed)

pub bounds-scratch-slot-2 : goal.bounds-scratch-slot-2
bounds-scratch-slot-2 t c = omega (arith, kept_room c.requires, c.keep_sets-y.auto.scratch ∙ c.keep_sets-x.auto.scratch)

pub returns : goal.returns
returns t c =
    let r = parted c.requires c.hop_at.ensures.0 c.under-hop.ensures c.in-Some.ensures.0 c.in-Some.ensures.1 in
    node_done r c.keep_sets-x.ensures c.keep_sets-y.ensures
    c.join-set.result c.price.result c.join-set.ensures c.price.ensures.0
