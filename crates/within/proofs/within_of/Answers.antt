-- `within::within_of` refuses a prefix that has a fault by the fault's number. Assumes nothing.
use Rattle.std.proofs.Common.{◌≡◌, sym, ◌∙◌, length, rules, arith}
use Rattle.numbers.specs.Number.{number}
use Rattle.within.specs.Answer.{within_answer}
use Rattle.within.specs.Walk.{walked}
use Rattle.within.proofs.Laws.{walk_seen}
use Rattle.within.proofs.within_of.Goals as goal

pub returns-in_err-prefix_fault-clause-result_value : goal.returns-in_err-prefix_fault-clause-result_value
returns-in_err-prefix_fault-clause-result_value c =
    let ws = c.args.words.now in
    let bs = c.args.address.now in
    let w : within_answer c.from_residual.result ≡ walked (length bs) ws (number bs) c.args.length = search rules in
    w ∙ sym (walk_seen ws bs c.args.length (λ i. omega (arith, c.type_inv.address i)) c.requires.0 c.requires.1)
