-- `masks::prefix::Prefix::value` moves a slot up to 9 bits and drops the first. Assumes nothing.
use Rattle.std.proofs.Common.{arith}
use Rattle.masks.proofs.Prefixes.{value_least, value_is}
use Rattle.masks.proofs.prefix.Prefix.value.Goals as goal

pub overflow_sub-result : goal.overflow_sub-result
overflow_sub-result c = value_least c.args.self.slot (omega arith) (omega arith) c.spare-e.result c.spare-e.ensures.0

pub returns : goal.returns
returns c = value_is c.args.self.slot (omega arith) (omega arith) c.spare-e.result c.spare-e.ensures.0
