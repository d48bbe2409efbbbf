-- The run of a feed on any words of a right size, each record as its local call: a function of the words. Assumes nothing.
--
--     words    ws ──▶ . ──▶ . ──▶ vs         whatever they are
--     records     x₁    x₂    x₃             announce, withdraw or lookup
use Rattle.std.specs.Prelude.{◌≡◌, refl, ◌≢◌, cond, List, [], ◌++◌, ℕ, zero, suc, ◌+◌, ◌*◌, ◌≤◌, eqb, length}
use Rattle.std.proofs.Common.{sym, ap, arith}
use borrow.Author.Tests.{ne_eqb}
use Rattle.routes.specs.Family.{Family, levels}
use Rattle.routes.specs.Answers.{Reply, is_done, is_refused}
use Rattle.routes.specs.Bytes.{reply_bytes}
use Rattle.candidates.specs.Answers.{Update, Record, update, lookup}
use Rattle.candidates.specs.Bytes.{means}
use Rattle.candidates.specs.Runs.{size, sent_at, role_at, tally, halts}
use Rattle.candidates.specs.Seen.{lookup_on}
use Rattle.encoded.specs.Turns.{size_pos, halts_1}
use Rattle.words.specs.Table.{seen}
use Rattle.lookup.specs.Walk.{walk}
use Rattle.replies.specs.declared.Reply as code
use Rattle.update.specs.Anywhere.{local_answer, local_words}
use Rattle.update.specs.Locally.{HasUpdatedLocally}

-- ---- one record

-- what is answered on the words ws, and what they are then
abbrev pub answer_at : ℕ → List ℕ → Record → Reply
answer_at L ws (update u) = local_answer L ws u
answer_at L ws (lookup a) = lookup_on (8 * L) (seen L ws) (walk L ws a) a

abbrev pub words_after : ℕ → List ℕ → Record → List ℕ
words_after L ws (update u) = local_words L ws u
words_after L ws (lookup a) = ws

-- ---- records in order

-- how far a run has come: the words, the feed bytes consumed, the reply bytes written, accepted updates, refused records
pub record State : Type 0 where
  pub words : List ℕ
  pub consumed : ℕ
  pub replies : List ℕ
  pub accepted : ℕ
  pub refused : ℕ

abbrev pub fresh : List ℕ → State
fresh ws = record { words = ws; consumed = 0; replies = []; accepted = 0; refused = 0 }

-- the record that is next
abbrev pub ahead : Family → List ℕ → State → Record
ahead F feed s = means (sent_at F feed s.consumed (role_at F feed s.consumed))

-- it is answered
abbrev pub taken : Family → List ℕ → State → State
taken F feed s =
    record {
      words = words_after (levels F) s.words (ahead F feed s);
      consumed = s.consumed + size F (role_at F feed s.consumed);
      replies = s.replies ++ reply_bytes (answer_at (levels F) s.words (ahead F feed s));
      accepted = tally (is_done (answer_at (levels F) s.words (ahead F feed s))) s.accepted;
      refused = tally (is_refused (answer_at (levels F) s.words (ahead F feed s))) s.refused;
    }

-- the end is consumed
abbrev pub finish : State → State
finish s =
    record { words = s.words; consumed = s.consumed + 1; replies = s.replies; accepted = s.accepted; refused = s.refused }

pub record Ran : Type 0 where
  pub stop : ℕ
  pub end : State

abbrev decide : ℕ → State → Ran → Ran
decide h s on = cond (eqb h 5) on (record { stop = h; end = cond (eqb h 0) (finish s) s })

-- at most n records more, the tests before each as the run's
unfoldable pub runs : Family → ℕ → List ℕ → ℕ → State → Ran
runs F zero feed room s = record { stop = 1; end = s }
runs F (suc n) feed room s =
    decide (halts F feed room s.consumed (length s.replies)) s (runs F n feed room (taken F feed s))

-- the words ws run a feed with `room` reply bytes
abbrev pub local_run : Family → List ℕ → List ℕ → ℕ → Ran
local_run F ws feed room = runs F (length feed) feed room (fresh ws)

-- the words that it leaves
abbrev pub ran_words : Family → List ℕ → List ℕ → ℕ → List ℕ
ran_words F ws feed room = (local_run F ws feed room).end.words

-- vs come of ws by local calls, one after the other
pub data Called (L : ℕ) (ws : List ℕ) : List ℕ → Type 0 where
  none : Called L ws ws
  more : {vs us : List ℕ} {u : Update} (r : code.Reply) → Called L ws vs → HasUpdatedLocally L vs us u r → Called L ws us

-- ---- laws of the turns

module _ (F : Family) (n : ℕ) (feed : List ℕ) (room : ℕ) (s : State) where
  pub runs_on : halts F feed room s.consumed (length s.replies) ≡ 5
      → runs F (suc n) feed room s ≡ runs F n feed room (taken F feed s)
  unfolding runs
  runs_on e = rw e

  pub runs_stop : (k : ℕ) → halts F feed room s.consumed (length s.replies) ≡ k → k ≢ 5
      → runs F (suc n) feed room s ≡ record { stop = k; end = cond (eqb k 0) (finish s) s }
  unfolding runs
  runs_stop k e m = rw (e, ne_eqb k 5 m)

runs_end : (F : Family) (n : ℕ) (feed : List ℕ) (room : ℕ) (s : State) → length feed ≤ s.consumed
    → runs F n feed room s ≡ record { stop = 1; end = s }
unfolding runs
runs_end F zero feed room s h = refl
runs_end F (suc n) feed room s h = rw (halts_1 F feed room s.consumed (length s.replies) h)

-- more than the bytes left is as good as the bytes left
pub runs_enough : (F : Family) (n m : ℕ) (feed : List ℕ) (room : ℕ) (s : State) → length feed ≤ s.consumed + n
    → length feed ≤ s.consumed + m → runs F n feed room s ≡ runs F m feed room s
unfolding runs
runs_enough F zero zero feed room s h k = refl
runs_enough F zero (suc m) feed room s h k = sym (runs_end F (suc m) feed room s (omega arith))
runs_enough F (suc n) zero feed room s h k = runs_end F (suc n) feed room s (omega arith)
runs_enough F (suc n) (suc m) feed room s h k =
    let p = size_pos F (role_at F feed s.consumed) in
    ap (decide (halts F feed room s.consumed (length s.replies)) s)
    (runs_enough F n m feed room (taken F feed s) (omega arith) (omega arith))
