-- What the call tells: document 02's number and value for each case of its answer. Assumes nothing.
use Rattle.std.specs.Prelude.{◌≡◌, ℕ, Result}
use Rattle.routes.specs.Seen.{Answer}
use Rattle.refusals.specs.declared.Refusal.{Refusal}
use Rattle.refusals.specs.Number.{said, said_one}

abbrev pub within_answer : Result ℕ Refusal → Answer ℕ
within_answer r = said r

-- it leaves no choice
pub within_one : (r s : Result ℕ Refusal) → within_answer r ≡ within_answer s → r ≡ s
within_one r s e = said_one r s e
