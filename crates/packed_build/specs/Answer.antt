-- What the need and the build answer, by what the words are seen to be, what a build leaves, and what the code's answers say.
-- All is over the list that a table stands for, and by nothing of its arrays, but where the words built stand (`HasLaid`).
-- Assumes nothing.
use Rattle.std.specs.Prelude.{◌≡◌, cond, List, ℕ, ◌^◌, ◌≤◌, ◌<◌, ltb, length, get_or, Result, Ok, Err}
use Rattle.routes.specs.Route.{Route}
use Rattle.routes.specs.Match.{longest}
use Rattle.routes.specs.Room.{need}
use Rattle.routes.specs.Seen.{Answer, gives, refuses}
use Rattle.candidates.specs.Winners.{winners}
use Rattle.candidates.specs.Seen.{Seen, misfit, foreign, table}
use Rattle.words.specs.Words.{arrays_of, array_count}
use Rattle.words.specs.Table.{seen}
use Rattle.packed.specs.Layout.{header_words, walk}
use Rattle.packed.specs.Laid.{Laid}
use Rattle.packed_build.specs.Need.{words_for}
use Rattle.refusals.specs.declared.Refusal.{Refusal}
use Rattle.refusals.specs.Number.{number, said}
use Rattle.packed_build.specs.declared.Counts.{Counts as Coded}

abbrev pub need_on : Seen → Answer ℕ
need_on misfit = refuses 1
need_on foreign = refuses 2
need_on (table A cs) = gives (words_for 32 (winners cs))

pub record Counts : Type 0 where
  pub arrays : ℕ
  pub words : ℕ

-- into a number of words
abbrev pub build_on : Seen → ℕ → Answer Counts
build_on misfit room = refuses 1
build_on foreign room = refuses 2
build_on (table A cs) room =
    cond (ltb room (words_for 32 (winners cs))) (refuses 9)
    (gives (record { arrays = need 32 (winners cs); words = words_for 32 (winners cs) }))

-- ---- what is left in the words

-- words that begin with the first n of others, as those brought to the card do
pub record Carries (n : ℕ) (us vs : List ℕ) : Type 0 where
  pub long : n ≤ length vs
  pub same : (i : ℕ) → i < n → get_or vs i 0 ≡ get_or us i 0

-- a compressed table of a list: by its first words, as many as the list needs, every address gets the longest match of the list
abbrev pub Compressed : List Route → List ℕ → Type 0
Compressed rs us =
    (vs : List ℕ) → Carries (words_for 32 rs) us vs → (a : ℕ) → a < 2 ^ 32 → walk 4 vs a ≡ gives (longest 32 a rs)

-- one, where there are words enough; the header and the words past those needed stay
pub record Leaves (rs : List Route) (ws us : List ℕ) : Type 0 where
  pub refused : length ws < words_for 32 rs → us ≡ ws
  pub built : words_for 32 rs ≤ length ws → Compressed rs us
  pub long : length us ≡ length ws
  pub header : (i : ℕ) → i < header_words → get_or us i 0 ≡ get_or ws i 0
  pub past : (i : ℕ) → words_for 32 rs ≤ i → get_or us i 0 ≡ get_or ws i 0

-- a refusal changes no word
abbrev pub LeavesOn : Seen → List ℕ → List ℕ → Type 0
LeavesOn misfit ws us = us ≡ ws
LeavesOn foreign ws us = us ≡ ws
LeavesOn (table A cs) ws us = Leaves (winners cs) ws us

-- from the table's words ts into the words ws: a build that is not refused lays the table's arrays out, each by its mask. So the
-- words from the header's end to the need are a function of ts
pub record HasLaid (ts ws us : List ℕ) : Type 0 where
  pub left : LeavesOn (seen 4 ts) ws us
  pub laid : (c : Counts) → build_on (seen 4 ts) (length ws) ≡ gives c → Laid (arrays_of ts) (array_count ts) us

-- ---- of the code

abbrev pub need_answer : Result ℕ Refusal → Answer ℕ
need_answer = said

abbrev pub build_answer : Result Coded Refusal → Answer Counts
build_answer (Ok c) = gives (record { arrays = c.arrays; words = c.words })
build_answer (Err e) = refuses (number e)
