-- `audit::sums::inners_ok` makes the test of each such slot: what the loop carries tells of those passed. Assumes nothing.
use mathlib.Core.Path.{◌≡◌}
use Prim.Native.Nat.{◌≤◌}
use Rattle.logic.specs.Every.{all_b}
use Rattle.sizes.specs.Sizes.{inner_slots}
use Rattle.words.specs.Words.{arrays_of, totals_of}
use Rattle.totals.specs.Check.{inner_b}
use Rattle.audit.proofs.sums.inners_ok.Given as goal

abbrev pub invariant-loop-s : goal.invariant-loop-s
invariant-loop-s l = (l.s ≤ inner_slots) × (l.ok ≡ all_b (inner_b (arrays_of l.a.lent.words.now) (totals_of l.a.lent.words.now) l.a.number) l.s)
