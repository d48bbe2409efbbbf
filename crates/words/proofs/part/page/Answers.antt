-- `words::part::page` meets its contract: the part lent has an array's length. Assumes nothing.
use Rattle.std.proofs.Common.{◌≡◌, ◌+◌, ◌-◌, ◌*◌, ◌∙◌, arith}
use Rattle.words.proofs.part.page.Goals as goal

pub returns : goal.returns
returns c =
    let part = rw c.unwrap.ensures at c.try_into.ensures in
    let size : 3072 * c.args.a + 3072 - 3072 * c.args.a ≡ 3072 = omega arith in
    part.1.same ∙ rw size
