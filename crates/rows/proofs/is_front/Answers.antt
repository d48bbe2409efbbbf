-- Each row passes, or one does not. Assumes nothing.
use Rattle.std.proofs.Common.{◌≡◌, true, false, arith, rules}
use Rattle.std.proofs.lemmas.Iterator.{cases_from_all, YieldsList-from_range}
use Rattle.rows.proofs.Laws.{front_rows}
use Rattle.rows.specs.Row.{row_at, row_b}
use Rattle.rows.proofs.is_front.Goals as goal

pub returns-then-words-eq-FRONT_WORDS : goal.returns-then-words-eq-FRONT_WORDS
returns-then-words-eq-FRONT_WORDS c =
    front_rows c.args.words.now c.all.result (λ j. omega (arith, c.type_inv.words j)) c.if-words-eq-FRONT_WORDS.true
    (cases_from_all _ _ _ (λ i. row_b (row_at c.args.words.now) i ≡ true) (λ i. row_b (row_at c.args.words.now) i ≡ false)
    c.all.ensures.ran (YieldsList-from_range 0 256 256 (search rules) (omega arith))
    (λ x q k. search rules) (λ x q k. search rules))
