-- The local tick meets its promise, on a table too: by the tick, and by the check after it. Assumes nothing.
use Rattle.std.specs.Prelude.{◌≡◌, refl, false, List, ℕ, length}
use Rattle.std.proofs.Common.{sym, ap, ◌∙◌}
use Rattle.routes.specs.Seen.{gives}
use Rattle.candidates.specs.Seen.{misfits}
use Rattle.front.specs.Seen.{held_in}
use Rattle.rows.specs.Row.{places_of, IsWords}
use Rattle.rows.specs.Told.{words_from}
use Rattle.damping.specs.Locally.{before_none}
use Rattle.damping.specs.Tick.{TickedLocally}
use Rattle.damping.proofs.Behind.{ticked_table}
use Rattle.refusals.specs.Number.{number}
use Rattle.damping.specs.Held.{Checked, check_answer, given_not, ticks}
use Rattle.damping.specs.Ticks.{HasTickedLocally}

pub ticks_locally : (fs ws gs vs : List ℕ) (r : Checked) → IsWords fs → misfits (length ws) ≡ false
    → TickedLocally fs ws gs vs → check_answer r ≡ gives (held_in (places_of gs)) → HasTickedLocally fs ws gs vs r
ticks_locally fs ws gs vs r w m k e = record {
  first = λ n. absurd (n (sym (before_none fs ws 0 m refl (words_from fs w))));
  work = λ _. k;
  answer = λ _. e;
  kept = λ f z. absurd (given_not (held_in (places_of gs)) (number f) (sym e ∙ ap check_answer z));
  front = λ _. k.places.words;
  table = λ t. ticks fs ws gs vs r w t (ticked_table fs ws gs vs t k) e;
}
