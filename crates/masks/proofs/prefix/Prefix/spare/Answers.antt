-- `masks::prefix::Prefix::spare` is the leading zeros of a slot, less those that every slot has. Assumes nothing.
use Rattle.std.proofs.Common.{arith}
use Rattle.masks.proofs.Prefixes.{spare_least, spare_is}
use Rattle.masks.proofs.prefix.Prefix.spare.Goals as goal

pub overflow_sub-result : goal.overflow_sub-result
overflow_sub-result c = spare_least c.args.self.slot (omega arith) (omega arith)

pub returns : goal.returns
returns c = spare_is c.args.self.slot (omega arith) (omega arith)
