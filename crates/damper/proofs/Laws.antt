-- The promises of the front's C face from those of the calls below it. Assumes nothing.
use mathlib.Core.Path.{◌≡◌, refl, ap, ◌∙◌}
use mathlib.Core.List.{List}
use Prim.Native.Nat.{ℕ}
use Rattle.routes.specs.Answers.{is_refused}
use Rattle.routes.specs.Seen.{refuses}
use Rattle.candidates.specs.Answers.{Update}
use Rattle.replies.specs.Said.{said_reply}
use Rattle.replies.specs.declared.Reply.{Reply}
use Rattle.std.specs.Prelude.{Ok, Err}
use Rattle.refusals.specs.declared.Refusal.{Refusal}
use Rattle.damping.specs.Update.{HasDamped}
use Rattle.damping.specs.Frame.{still, frame, words}
use Rattle.damping.proofs.Frame.{tick_still}
use Rattle.damping.specs.Locally.{HasDampedLocally}
use Rattle.damping.specs.Held.{Checked, check_answer, HasTicked as Ticked}
use Rattle.damping.specs.Ticks.{HasTickedLocally as TickedLocally}
use Rattle.answers.specs.Numbers.{updated}
use Rattle.damper.specs.Face.{held, HasUpdated, HasTicked}
use Rattle.damper.specs.Face.{HasUpdatedLocally, HasTickedLocally}
use Rattle.damper.specs.declared.Front.{Front}
use Rattle.answers.specs.declared.Updated.{Updated}

pub made : (fs ws gs vs : List ℕ) (u : Update) (y : Reply) (r : Updated) → HasDamped fs ws gs vs u y → r ≡ updated (said_reply y)
    → HasUpdated fs ws gs vs u r
made fs ws gs vs u y r p e =
    record {
      answer = e ∙ ap updated p.answer;
      list = p.list;
      places = p.places;
      kept = λ n z. p.kept (ap is_refused (p.answer ∙ z));
      front = p.front;
      still = still p;
      frame = frame p;
      words = words p;
    }

pub made_locally : (fs ws gs vs : List ℕ) (u : Update) (y : Reply) (r : Updated) → HasDampedLocally fs ws gs vs u y
    → r ≡ updated (said_reply y) → HasUpdatedLocally fs ws gs vs u r
made_locally fs ws gs vs u y r p e =
    record { reply = y; call = p; answer = e; table = λ t. made fs ws gs vs u y r (p.table t) e }

-- a tick that is answered by a refusal leaves both memories
kept_by : (fs ws gs vs : List ℕ) (y : Checked) → ((e : Refusal) → y ≡ Err e → (gs ≡ fs) × (vs ≡ ws))
    → (n : ℕ) → check_answer y ≡ refuses n → (gs ≡ fs) × (vs ≡ ws)
kept_by fs ws gs vs (Ok h) k n e = cc
kept_by fs ws gs vs (Err f) k n e = k f refl

pub ticked : (fs ws gs vs : List ℕ) (y : Checked) (r : Front) → Ticked fs ws gs vs y → r ≡ held (check_answer y)
    → HasTicked fs ws gs vs r
ticked fs ws gs vs y r p e =
    record {
      answer = e ∙ ap held p.answer;
      list = p.list;
      places = p.places;
      kept = λ n z. kept_by fs ws gs vs y p.kept n (p.answer ∙ z);
      front = p.front;
      still = tick_still p;
      behind = p.behind;
    }

pub ticked_locally : (fs ws gs vs : List ℕ) (y : Checked) (r : Front) → TickedLocally fs ws gs vs y
    → r ≡ held (check_answer y) → HasTickedLocally fs ws gs vs r
ticked_locally fs ws gs vs y r p e =
    record { count = y; call = p; answer = e; table = λ t. ticked fs ws gs vs y r (p.table t) e }
