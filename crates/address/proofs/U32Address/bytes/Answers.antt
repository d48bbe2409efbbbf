-- The four bytes of an IPv4 address stand for it. Assumes nothing.
use Rattle.std.proofs.Common.{ap, ◌∙◌, arith}
use Rattle.numbers.specs.Four.{four-number}
use Rattle.numbers.specs.Number.{number}
use Rattle.address.proofs.U32Address.bytes.Goals as goal

pub returns-clause-valued : goal.returns-clause-valued
returns-clause-valued c = ap number c.four_of.ensures ∙ four-number c.args.self (omega arith)
