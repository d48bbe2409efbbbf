-- `toggleash::six::toggleash_v6_clear` meets its contract: words of any family are cleared alike. Assumes nothing.
use Rattle.std.proofs.Common.{ap, arith, ◌∙◌}
use Rattle.answers.specs.Numbers.{refusal}
use Rattle.toggleash.proofs.six.toggleash_v6_clear.Goals as goal

pub returns : goal.returns
returns c =
    let b = c.clear_any.ensures 16 (omega arith) (omega arith) in
    record { answer = c.number.ensures ∙ ap refusal b.answer; left = b.left; kept = λ n q. b.kept n (b.answer ∙ q) }
