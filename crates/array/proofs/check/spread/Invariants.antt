-- `array::check::spread` meets its contract. Whatever slot the loop stands at, the covers of all slots before its two are written.
-- Assumes nothing.
use Rattle.std.proofs.Common.{◌≡◌, ◌*◌, get_or}
use Rattle.array.specs.Cover.{Covers, hops_in}
use Rattle.array.proofs.check.spread.Given as goal

abbrev pub invariant-loop-s : goal.invariant-loop-s
invariant-loop-s l = record {
  first : get_or l.all 0 0 ≡ 0;
  covers : Covers (hops_in l.won) l.all (2 * l.s);
}
