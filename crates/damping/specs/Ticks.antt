-- What tick_local promises, on any words: it tests the front's words, and of the table's only what each announcement touches.
-- Assumes nothing.
--
--     the first of 1 and 2 (no front)    both memories stay
--     else                               a tick, by the table's local calls, and the answer of the check after it
use Rattle.std.specs.Prelude.{◌≡◌, refl, ◌≢◌, List, ℕ, length, Err}
use Rattle.std.proofs.Common.{sym, ap, ◌∙◌}
use Rattle.logic.specs.Cases.{bool}
use Rattle.routes.specs.Seen.{gives, misfits}
use Rattle.words.specs.TableBut.{Table}
use Rattle.front.specs.Seen.{held_in}
use Rattle.rows.specs.Row.{places_of, IsWords, front_b}
use Rattle.damping.specs.Locally.{refusal_before, before_table}
use Rattle.damping.specs.Tick.{TickedLocally}
use Rattle.damping.specs.Held.{Checked, check_answer, HasTicked, tick_refused}
use Rattle.refusals.specs.Number.{number, refusal_of, number_back}
use Rattle.refusals.specs.declared.Refusal.{Refusal}
use Rattle.update.specs.Fault.{number_some}

-- any words fs and ws became gs and vs, and the tick was answered r
pub record HasTickedLocally (fs ws gs vs : List ℕ) (r : Checked) : Type 0 where
  pub first : refusal_before fs ws 0 ≢ 0 → r ≡ Err (refusal_of (refusal_before fs ws 0))
  pub work : refusal_before fs ws 0 ≡ 0 → TickedLocally fs ws gs vs
  pub answer : refusal_before fs ws 0 ≡ 0 → check_answer r ≡ gives (held_in (places_of gs))
  pub kept : (e : Refusal) → r ≡ Err e → (gs ≡ fs) × (vs ≡ ws)
  pub front : IsWords fs → IsWords gs
  -- on a table it is the tick that tests all of it
  pub table : Table 4 ws → HasTicked fs ws gs vs r

-- 1, then 2
pub tick_locally_refused : (fs ws : List ℕ) (r : Refusal) → number r ≡ refusal_before fs ws 0
    → HasTickedLocally fs ws fs ws (Err r)
tick_locally_refused fs ws r e = record {
  first = λ _. ap Err (sym (number_back r) ∙ ap refusal_of e);
  work = λ y. absurd (number_some r (e ∙ y));
  answer = λ y. absurd (number_some r (e ∙ y));
  kept = λ _ _. (refl, refl);
  front = λ w. w;
  table = λ t. tick_refused fs ws r (e ∙ sym (before_table fs ws 0 t));
}

-- which refusal it is: the one of that number
pub before_named : (fs ws : List ℕ) → refusal_before fs ws 0 ≢ 0
    → number (refusal_of (refusal_before fs ws 0)) ≡ refusal_before fs ws 0
before_named fs ws n =
    bool (misfits (length ws))
    (λ e. rw e refl)
    (λ e. bool (front_b fs) (λ d. absurd (n (rw (e, d) refl))) (λ d. rw (e, d) refl))
