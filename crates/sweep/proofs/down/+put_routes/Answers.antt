-- `sweep::down::put_routes`, which calls itself, meets its contract: the prefix's own record, then, unless the total is 0, those of
-- its halves. Assumes nothing.
use mathlib.Core.Path.{sym, ◌∙◌}
use native.Mathlib.Omega.{arith}
use Rattle.sweep.proofs.Seats.{seat_within}
use Rattle.sweep.proofs.Records.{part-inside, part-value, ask-put, part_empty, part_leaf, halved, part_rest}
use Rattle.sweep.proofs.Records.{part_high, part_low, part_upper, part-node}
use Rattle.sweep.proofs.down.+put_routes.Goals as goal

pub offset_bounds-scratch-slot : goal.offset_bounds-scratch-slot
offset_bounds-scratch-slot t c = omega (arith, part-inside c.requires, c.well_formed)

pub bounds-scratch-slot : goal.bounds-scratch-slot
bounds-scratch-slot t c = part-inside c.requires

pub put-p-requires : goal.put-p-requires
put-p-requires t c = ask-put c.requires c.choose-hop.result c.choose-hop.ensures.0

pub total_in-requires : goal.total_in-requires
total_in-requires t c = seat_within c.requires.stands

pub returns-then-total_in-eq0 : goal.returns-then-total_in-eq0
returns-then-total_in-eq0 t c =
    part_empty c.requires c.choose-hop.result c.choose-hop.ensures.0 (sym c.total_in.ensures ∙ c.if-total_in-eq0.true)
    c.put-p.ensures

pub returns-in_default : goal.returns-in_default
returns-in_default t c =
    part_leaf c.requires c.choose-hop.result c.choose-hop.ensures.0
    (λ z. c.if-total_in-eq0.false (c.total_in.ensures ∙ z)) c.in_default.ensures c.put-p.ensures

pub overflow_add-high : goal.overflow_add-high
overflow_add-high t c =
    let h = halved c.requires c.choose-hop.ensures (λ z. c.if-total_in-eq0.false (c.total_in.ensures ∙ z)) c.in-Some.ensures.0
    c.in-Some.ensures.1 c.under-next.ensures in
    omega (arith, part_high h, c.well_formed)

pub overflow_mul-x : goal.overflow_mul-x
overflow_mul-x t c = omega (arith, part-value c.requires)

pub overflow_mul-y : goal.overflow_mul-y
overflow_mul-y t c = omega (arith, part-value c.requires)

pub overflow_add-y : goal.overflow_add-y
overflow_add-y t c = omega (arith, part-value c.requires)

pub put_routes-q-requires : goal.put_routes-q-requires
put_routes-q-requires t c =
    let h = halved c.requires c.choose-hop.ensures (λ z. c.if-total_in-eq0.false (c.total_in.ensures ∙ z)) c.in-Some.ensures.0
    c.in-Some.ensures.1 c.under-next.ensures in (
      omega (arith, c.decreases, part_rest h),
      part_low h c.put-p.new.buffer c.put-p.result c.put-p.auto.buffer c.put-p.ensures,
    )

pub put_routes-requires : goal.put_routes-requires
put_routes-requires t c =
    let h = halved c.requires c.choose-hop.ensures (λ z. c.if-total_in-eq0.false (c.total_in.ensures ∙ z)) c.in-Some.ensures.0
    c.in-Some.ensures.1 c.under-next.ensures in
    let x = c.put_routes-q in (
      omega (arith, c.decreases, part_rest h),
      part_upper h c.put-p.new.buffer x.new.buffer c.put-p.result x.result (x.auto.buffer ∙ c.put-p.auto.buffer)
          c.put-p.ensures x.ensures,
    )

pub returns : goal.returns
returns t c =
    let h = halved c.requires c.choose-hop.ensures (λ z. c.if-total_in-eq0.false (c.total_in.ensures ∙ z)) c.in-Some.ensures.0
    c.in-Some.ensures.1 c.under-next.ensures in
    part-node h c.put-p.ensures c.put_routes-q.ensures c.put_routes.ensures
