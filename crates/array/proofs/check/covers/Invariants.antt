-- `array::check::covers` meets its contract. The covers of the slots of the levels that the loop passed are written. Assumes nothing.
use Rattle.std.proofs.Common.{◌≡◌, ◌*◌, ◌^◌, get_or}
use Rattle.array.specs.Cover.{Covers, hops_in}
use Rattle.array.proofs.check.covers.Given as goal

abbrev pub invariant-loop-d : goal.invariant-loop-d
invariant-loop-d l = record {
  first : get_or l.all 0 0 ≡ 0;
  covers : Covers (hops_in l.won) l.all (2 * 2 ^ l.d);
}
