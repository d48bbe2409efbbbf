-- Document 01's small cases, of IPv4, said of the C face: whatever numbers toggleash_clear, the updates, the call and
-- toggleash_check of a row may answer by their contracts, they say what the row says. Assumes nothing.
--
--     toggleash_clear ──▶ the row's updates ──▶ the row's call ──▶ toggleash_check
--            0                                  what it gives      0, the routes, the arrays
use Rattle.std.specs.Prelude.{◌≡◌, List, ℕ, length}
use Rattle.routes.specs.Family.{v4}
use Rattle.routes.specs.Answers.{Reply}
use Rattle.candidates.specs.Answers.{records}
use Rattle.candidates.specs.Seen.{check_on}
use Rattle.candidates.specs.Small.{Case, list_after}
use Rattle.words.specs.Table.{seen}
use Rattle.answers.specs.Numbers.{counted}
use Rattle.answers.specs.declared.Counted.{Counted}
use Rattle.calls.specs.Exported.{Cleared, Asked, Series}

-- the calls of a row on cleared words of its arrays, each as its contract allows
pub record Played (c : Case) : Type 0 where
  pub words : List ℕ
  pub cleared : Cleared v4 c.room words
  pub ready : List ℕ
  pub earlier : List Reply
  pub took : Series v4 words (records c.before) earlier ready
  pub left : List ℕ
  pub told : Reply
  pub asked : Asked v4 ready c.call told left
  pub counts : Counted
  pub checks : counts ≡ counted (check_on 32 (seen 4 left))

-- it goes as the row says
pub record AsSaid (c : Case) (p : Played c) : Type 0 where
  pub answer : p.told ≡ c.gives
  pub counts : p.counts ≡ record { refusal = 0; routes = length (list_after c); arrays = c.arrays }
