-- Calls one after the other on lent words, each known by its promise alone: on a table they are answered as its list answers
-- them. A lookup leaves every word, an update those that its own promise says. Assumes nothing.
--
--     words    ws ──▶ . ──▶ . ──▶ vs         seen as table A cs first, and as table A of what the records leave last
--     calls       x₁    x₂    x₃             announce, withdraw or lookup
--     answers     y₁    y₂    y₃
use Rattle.std.specs.Prelude.{◌≡◌, refl, List, [], ◌∷◌, ℕ, ◌*◌}
use Rattle.std.proofs.Common.{ap₂}
use Rattle.routes.specs.Answers.{Reply}
use Rattle.candidates.specs.Candidate.{Candidate}
use Rattle.candidates.specs.Answers.{Update, Record, update, lookup, reply, next, replies, leaves}
use Rattle.candidates.specs.Seen.{table, lookup_on}
use Rattle.words.specs.Table.{seen}
use Rattle.replies.specs.Said.{said_reply}
use Rattle.replies.specs.declared.Reply as code
use Rattle.update.specs.Update.{HasUpdated}
use Rattle.lookup.specs.Walk.{walk}

-- the call of a record on the words ws, seen as a table of L levels, was answered y and left vs, as its contract allows
pub data Asked (L : ℕ) (ws : List ℕ) : Record → Reply → List ℕ → Type 0 where
  updated : {u : Update} {vs : List ℕ} (r : code.Reply) → HasUpdated L ws vs u r → Asked L ws (update u) (said_reply r) vs
  looked : {a : ℕ} (r : code.Reply) → said_reply r ≡ lookup_on (8 * L) (seen L ws) (walk L ws a) a
      → Asked L ws (lookup a) (said_reply r) ws

-- and so were several, in order
pub data Series (L : ℕ) : List ℕ → List Record → List Reply → List ℕ → Type 0 where
  nothing : {ws : List ℕ} → Series L ws [] [] ws
  more : {ws vs us : List ℕ} {x : Record} {xs : List Record} {y : Reply} {ys : List Reply}
      → Asked L ws x y vs → Series L vs xs ys us → Series L ws (x ∷ xs) (y ∷ ys) us

module _ (L A : ℕ) where
  pub record Answered (cs : List Candidate) (x : Record) (y : Reply) (vs : List ℕ) : Type 0 where
    pub answer : y ≡ reply (8 * L) A cs x
    pub list : seen L vs ≡ table A (next (8 * L) A cs x)

  pub answered : (cs : List Candidate) {ws vs : List ℕ} {x : Record} {y : Reply} → seen L ws ≡ table A cs → Asked L ws x y vs
      → Answered cs x y vs
  answered cs t (updated r p) = record { answer = rw t at p.answer; list = rw t at p.list }
  answered cs t (looked r p) = record { answer = rw t at p; list = t }

  pub record AllAnswered (cs : List Candidate) (xs : List Record) (ys : List Reply) (vs : List ℕ) : Type 0 where
    pub answers : ys ≡ replies (8 * L) A cs xs
    pub list : seen L vs ≡ table A (leaves (8 * L) A cs xs)

  pub all_answered : (cs : List Candidate) {ws vs : List ℕ} {xs : List Record} {ys : List Reply} → seen L ws ≡ table A cs
      → Series L ws xs ys vs → AllAnswered cs xs ys vs
  all_answered cs t nothing = record { answers = refl; list = t }
  all_answered cs t (more {x = x} a s) =
      let h = answered cs t a in
      let n = all_answered (next (8 * L) A cs x) h.list s in
      record { answers = ap₂ ◌∷◌ h.answer n.answers; list = n.list }
