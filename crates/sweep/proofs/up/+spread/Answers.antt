-- `sweep::up::spread`, which calls itself, meets its contract: the set is kept for the halves first, then for the prefix itself.
-- Assumes nothing.
use native.Mathlib.Omega.{arith}
use Rattle.sweep.proofs.Spreads.{spread_inside, spread_room, spread_leaf, spread_rest, spread_low, spread_high}
use Rattle.sweep.proofs.Spreads.{spread_above, spread_node}
use Rattle.sweep.proofs.up.+spread.Goals as goal
use Rattle.sweep.proofs.up.+spread.Goals.{in-Some, in_default}

pub offset_bounds-scratch-slot : goal.offset_bounds-scratch-slot
offset_bounds-scratch-slot t c = omega (arith, spread_inside c.requires, c.well_formed)

pub overflow_add-high : goal.overflow_add-high
overflow_add-high t c =
    omega (arith, spread_above c.requires c.in-Some.low c.args.set c.in-Some.ensures.0 c.in-Some.ensures.1, c.well_formed)

pub spread-requires : goal.spread-requires
spread-requires t c =
    let l = c.in-Some in (
      omega (arith, c.decreases, spread_rest c.requires l.low c.args.set l.ensures.0 l.ensures.1),
      spread_low c.requires l.low c.args.set l.ensures.0 l.ensures.1,
    )

pub spread-requires-in-Some : goal.spread-requires-in-Some
spread-requires-in-Some t c =
    let l = c.in-Some in (
      omega (arith, c.decreases, spread_rest c.requires l.low c.args.set l.ensures.0 l.ensures.1),
      spread_high c.requires l.low c.args.set l.ensures.0 l.ensures.1 c.spread.new.scratch c.spread.auto.scratch,
    )

pub bounds-scratch-slot : goal.bounds-scratch-slot
bounds-scratch-slot t c = omega (arith, spread_room c.requires)

pub returns : goal.returns
returns t c =
    elim c.match-lower.branch [
      | in-Some w ↦
          let l = w.in-Some in
          rw w.scratch-is (
          spread_node c.requires l.low c.args.set l.ensures.0 l.ensures.1 w.spread.new.scratch w.spread-in-Some.new.scratch
          w.spread.ensures w.spread-in-Some.ensures)
      | in_default w ↦ rw w.scratch-is (spread_leaf c.requires c.args.set w.in_default.ensures)
    ]
