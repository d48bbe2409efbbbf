-- Document 01's small cases, of IPv4, said of the calls: whatever clear, the updates, the call and the check of a row may answer
-- by their contracts, it is what the row says. Each update is of feed 1 with preference 0. Assumes nothing.
--
--     clear ──▶ the row's updates ──▶ the row's call ──▶ check
--     Ok                              what it gives      the arrays
use Rattle.std.specs.Prelude.{◌≡◌, List, [], ◌∷◌, ℕ, ◌+◌, ◌*◌, length, Result, Ok}
use Rattle.std.proofs.Common.{ap, ◌∙◌}
use Rattle.sizes.specs.Sizes.{array_words}
use Rattle.routes.specs.Family.{v4}
use Rattle.routes.specs.Answers.{Reply}
use Rattle.routes.specs.Seen.{gives}
use Rattle.candidates.specs.Answers.{records}
use Rattle.candidates.specs.Seen.{check_on}
use Rattle.candidates.specs.Small.{Case, list_before, list_after, got}
use Rattle.words.specs.Table.{seen}
use Rattle.audit.specs.Answer.{HasCleared, check_answer}
use Rattle.audit.specs.declared.Counts.{Counts}
use Rattle.refusals.specs.declared.Refusal.{Refusal}
use Rattle.calls.specs.Held.{cleared_done}
use Rattle.feed.specs.Series.{Asked, Series, answered, all_answered}

-- ---- a row, by the calls

-- clear on words of that many arrays, the updates, the call and the check, each as its contract allows
pub record Played (c : Case) : Type 0 where
  pub lent : List ℕ
  pub size : length lent ≡ array_words * (c.room + 1)
  pub cleared : List ℕ
  pub clears : HasCleared 4 lent cleared (Ok tt)
  pub ready : List ℕ
  pub earlier : List Reply
  pub took : Series 4 cleared (records c.before) earlier ready
  pub left : List ℕ
  pub told : Reply
  pub asked : Asked 4 ready c.call told left
  pub counts : Result Counts Refusal
  pub checks : check_answer counts ≡ check_on 32 (seen 4 left)

-- it goes as the row says
pub record AsSaid (c : Case) (p : Played c) : Type 0 where
  pub answer : p.told ≡ c.gives
  pub arrays : check_answer p.counts ≡ gives (record { routes = length (list_after c); arrays = c.arrays })

pub as_said : (c : Case) → got c ≡ c → (p : Played c) → AsSaid c p
as_said c e p =
    let t = cleared_done v4 c.room p.lent p.cleared p.size p.clears in
    let b = all_answered 4 c.room [] t p.took in
    let a = answered 4 c.room (list_before c) b.list p.asked in
    record {
      answer = a.answer ∙ ap (λ (d : Case). d.gives) e;
      arrays =
          p.checks
          ∙ rw a.list (ap (λ (d : Case). gives (record { routes = length (list_after c); arrays = d.arrays })) e);
    }

-- ---- all rows

abbrev pub Each : (Case → Type 0) → List Case → Type 0
Each P [] = Unit {0}
Each P (c ∷ cs) = P c × Each P cs
