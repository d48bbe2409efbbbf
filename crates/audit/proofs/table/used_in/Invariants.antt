-- `audit::table::used_in` counts the used arrays: those passed are counted. Assumes nothing.
use mathlib.Core.Path.{◌≡◌}
use Prim.Native.Nat.{◌≤◌}
use Rattle.words.specs.Words.{arrays_of}
use Rattle.tree.specs.Arrays.{used_in}
use Rattle.audit.proofs.table.used_in.Given as goal

abbrev pub invariant-loop-i : goal.invariant-loop-i
invariant-loop-i l = (l.m ≤ l.i) × (l.m ≡ used_in (arrays_of l.lent.words.now) l.lo l.i)
