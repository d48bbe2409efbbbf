-- `audit::table::groups_ok` tells whether each group's count is right: those passed are. Assumes nothing.
use mathlib.Core.Path.{◌≡◌}
use mathlib.Core.Bool.{true}
use Rattle.logic.specs.Every.{all_b}
use Rattle.words.specs.Table.{group_b}
use Rattle.audit.proofs.table.groups_ok.Given as goal

abbrev pub invariant-loop-g : goal.invariant-loop-g
invariant-loop-g l = all_b (group_b l.lent.words.now) l.g ≡ true
