-- What the need and the build answer, by the list that the bytes are, and what the code's answers say of that. Assumes nothing.
use Rattle.std.specs.Prelude.{cond, ℕ, length, ltb, Result, Ok, Err}
use Rattle.routes.specs.Seen.{Answer, gives, refuses}
use Rattle.listing.specs.Listed.{Listed, unlisted, listed}
use Rattle.lengths.specs.Marks.{markers, words_for}
use Rattle.refusals.specs.declared.Refusal.{Refusal}
use Rattle.refusals.specs.Number.{number, said}
use Rattle.lengths_build.specs.declared.Counts as code

-- the words that the list needs
abbrev pub need_on : Listed → Answer ℕ
need_on unlisted = refuses 2
need_on (listed rs) = gives (words_for rs)

pub record Counts : Type 0 where
  pub routes : ℕ
  pub markers : ℕ

-- into a number of words
abbrev pub build_on : Listed → ℕ → Answer Counts
build_on unlisted room = refuses 2
build_on (listed rs) room =
    cond (ltb room (words_for rs)) (refuses 9) (gives (record { routes = length rs; markers = markers rs }))

-- ---- of the code

abbrev pub need_answer : Result ℕ Refusal → Answer ℕ
need_answer r = said r

abbrev pub build_answer : Result code.Counts Refusal → Answer Counts
build_answer (Ok c) = gives (record { routes = c.routes; markers = c.markers })
build_answer (Err e) = refuses (number e)
