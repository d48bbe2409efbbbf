-- `array::check::bests_are` meets its contract. What the loop carries tells of the cells that it passed. Assumes nothing.
use Rattle.std.proofs.Common.{◌≡◌, ◌+◌, eqb}
use Rattle.logic.specs.Every.{all_b}
use Rattle.sizes.specs.Sizes.{cell_slots}
use Rattle.array.specs.Page.{slots, bests, best_of}
use Rattle.array.proofs.check.bests_are.Given as goal

abbrev pub invariant-loop-i : goal.invariant-loop-i
invariant-loop-i l = l.ok ≡ all_b (λ j. eqb (bests l.page j) (best_of (slots l.page) (cell_slots + j) 8)) l.i
