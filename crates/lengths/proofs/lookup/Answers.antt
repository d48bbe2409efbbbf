-- `lengths::lookup` meets its contract: each return is one law of the walk. Assumes nothing.
use mathlib.Core.Path.{◌≡◌, ap, ◌∙◌}
use Rattle.routes.specs.Seen.{refuses}
use Rattle.lengths.specs.Layout.{answered, walk}
use Rattle.replies.specs.Said.{said_match}
use Rattle.lengths.proofs.Searching.{walk_short, walk-search, of_list}
use native.Mathlib.Omega.{arith}
use Rattle.lengths.proofs.lookup.Goals as goal

pub returns-then-words-lt-HEADER_WORDS : goal.returns-then-words-lt-HEADER_WORDS
returns-then-words-lt-HEADER_WORDS c =
    let a = c.args in
    let w : refuses 2 ≡ walk a.words.now a.address = walk_short a.words.now a.address c.if-words-lt-HEADER_WORDS.true in
    record { result_value = w; of_a_list = of_list a.words.now a.address (refuses 2) (omega arith) w }

pub returns : goal.returns
returns c =
    let a = c.args in
    let found = c.search_from in
    let y = said_match c.answer.result in
    let w : y ≡ walk a.words.now a.address =
    walk-search a.words.now a.address y c.if-words-lt-HEADER_WORDS.false (c.answer.ensures ∙ ap answered found.ensures.told) in
    record { result_value = w; of_a_list = of_list a.words.now a.address y (omega arith) w }
