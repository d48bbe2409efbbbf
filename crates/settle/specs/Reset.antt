-- What setting a slot's word promises of the page, its blocks included. Assumes nothing.
use Rattle.std.specs.Prelude.{◌≡◌, List, ℕ, ◌+◌, ◌^◌, ◌≤◌}
use Rattle.sizes.specs.Sizes.{cell_count}
use Rattle.array.specs.Page.{slots}
use Rattle.array.specs.Put.{won_with, PageWordSet, PageSlotSet}
use Rattle.array.specs.Reslot.{rewritten}
use Rattle.array.specs.declared.change.Changed.{Changed}
use Rattle.settle.specs.Settled.{SettledPage}

-- the page m is l with feed f's word w in the slot of in-array length d and value x; r has the hops that won there before and
-- after, and the cells that were rewritten
pub record Resets (l m : List ℕ) (d x f w : ℕ) (r : Changed) : Type 0 where
  pub before : r.before ≡ slots l (2 ^ d + x)
  pub after : r.after ≡ won_with l (2 ^ d + x) f w
  pub word : PageWordSet l m (2 ^ d + x) f w
  pub slot : PageSlotSet l m (2 ^ d + x) (won_with l (2 ^ d + x) f w)
  pub settled : SettledPage m
  pub cells : r.cells ≡ rewritten l d x f w
  pub small : r.cells ≤ cell_count
