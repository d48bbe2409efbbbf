-- Calls one after the other on the lent words of a front and of a table, each known by its promise alone. A lookup and a record
-- that is refused leave every word of both. Assumes nothing.
--
--     words    fs, ws ──▶ . ──▶ . ──▶ gs, vs
--     calls          e₁    e₂    e₃               announce, withdraw, lookup or a tick
--     answers        y₁    y₂    y₃
use Rattle.std.specs.Prelude.{◌≡◌, List, [], ◌∷◌, ℕ}
use Rattle.routes.specs.Answers.{Reply, done}
use Rattle.candidates.specs.Answers.{Update, update, lookup}
use Rattle.candidates.specs.Seen.{lookup_on}
use Rattle.words.specs.Table.{seen}
use Rattle.replies.specs.Said.{said_reply}
use Rattle.replies.specs.declared.Reply as code
use Rattle.lookup.specs.Walk.{walk}
use Rattle.front.specs.Front.{Event, asks, tick}
use Rattle.damping.specs.Update.{HasDamped}
use Rattle.damping.specs.Behind.{Ticked}

-- the call of a record or a tick on the words fs and ws was answered y and left gs and vs, as its contract allows
pub data Asked (fs ws : List ℕ) : Event → Reply → List ℕ → List ℕ → Type 0 where
  updated : {u : Update} {gs vs : List ℕ} (r : code.Reply) → HasDamped fs ws gs vs u r
      → Asked fs ws (asks (update u)) (said_reply r) gs vs
  looked : {a : ℕ} (r : code.Reply) → said_reply r ≡ lookup_on 32 (seen 4 ws) (walk 4 ws a) a
      → Asked fs ws (asks (lookup a)) (said_reply r) fs ws
  ticked : {gs vs : List ℕ} → Ticked fs ws gs vs → Asked fs ws tick (done 0 0) gs vs

-- and so were several, in order
pub data Series : List ℕ → List ℕ → List Event → List Reply → List ℕ → List ℕ → Type 0 where
  nothing : {fs ws : List ℕ} → Series fs ws [] [] fs ws
  more : {fs ws gs vs hs us : List ℕ} {e : Event} {es : List Event} {y : Reply} {ys : List Reply}
      → Asked fs ws e y gs vs → Series gs vs es ys hs us → Series fs ws (e ∷ es) (y ∷ ys) hs us
