-- Records answered by their calls. Assumes nothing.
use Rattle.std.specs.Prelude.{◌≡◌, refl, List, ℕ, ◌*◌, ◌≤◌, length}
use Rattle.std.proofs.Common.{arith}
use Rattle.address.specs.Address.{IsAddress}
use Rattle.candidates.specs.Answers.{Update, update, lookup}
use Rattle.candidates.specs.Seen.{Seen, misfit, foreign, table, lookup_on}
use Rattle.words.specs.Table.{seen}
use Rattle.words.specs.TableBut.{Table}
use Rattle.words.specs.View.{seen-cases}
use Rattle.replies.specs.Said.{said_reply}
use Rattle.replies.specs.declared.Reply.{Reply}
use Rattle.update.specs.Locally.{HasUpdatedLocally}
use Rattle.lookup.specs.Walk.{walk}
use Rattle.feed.specs.Series.{updated, looked}
use Rattle.feed.specs.Local.{more}
use Rattle.feed.specs.Turns.{IsTable, room_in, list_in, AskedAny}

-- ---- words that are a table

pub table_eq : (s : Seen) → IsTable s → s ≡ table (room_in s) (list_in s)
table_eq misfit t = absurd t
table_eq foreign t = absurd t
table_eq (table A cs) t = refl

-- ---- the calls: each answer is its promise's

pub is_address : (b : List ℕ) → 1 ≤ length b → length b ≤ 16 → IsAddress b
is_address b s f = record { some = s; levels = omega arith }

module _ {b : List ℕ} {ws : List ℕ} (i : IsAddress b) where
  -- words seen as a table are one
  pub is_table : IsTable (seen (length b) ws) → Table (length b) ws
  is_table t =
      seen-cases (length b) ws i.some i.levels (λ _ e. absurd (rw e at t)) (λ _ _ e. absurd (rw e at t)) (λ _ _ k _. k)

  pub any_update : {vs : List ℕ} {u : Update} {r : Reply} → HasUpdatedLocally (length b) ws vs u r
      → AskedAny (length b) ws (update u) (said_reply r) vs
  any_update {r = r} x = record {
    answer = x.answer;
    words = x.words;
    called = λ us c. more r c x;
    size = x.size;
    table = λ t. updated r (x.table (is_table t));
  }

pub any_lookup : {L : ℕ} {ws : List ℕ} {a : ℕ} (r : Reply) → said_reply r ≡ lookup_on (8 * L) (seen L ws) (walk L ws a) a
    → AskedAny L ws (lookup a) (said_reply r) ws
any_lookup r p = record { answer = p; words = refl; called = λ us d. d; size = refl; table = λ _. looked r p }
