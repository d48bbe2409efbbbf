-- `words::empty` lends the page of one array. Assumes nothing.
use Rattle.std.proofs.Common.{◌∙◌}
use Rattle.words.specs.Lent.{page_slots, lent_empty}
use Rattle.words.proofs.empty.Goals as goal

pub returns : goal.returns
returns c =
    let s = c.args in (
      rw c.page.ensures at c.empty.ensures.0,
      λ right.
          c.empty.ensures.1 (rw c.page.ensures (page_slots s.words.now s.a right)) ∙ rw c.page.ensures
          (lent_empty s.words.now s.a),
    )
