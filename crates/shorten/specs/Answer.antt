-- What the two calls for the shortest list answer and leave: by what the words are seen to be, but for the scratch.
-- Assumes nothing.
use Rattle.std.specs.Prelude.{◌≡◌, Bool, true, false, cond, List, [], ℕ, eqb, ltb, length, Result}
use Rattle.sizes.specs.Sizes.{root_slot}
use Rattle.routes.specs.Route.{Route, held}
use Rattle.routes.specs.Seen.{Answer, gives, refuses}
use Rattle.candidates.specs.Winners.{winners}
use Rattle.candidates.specs.Bytes.{written_plainly}
use Rattle.candidates.specs.Seen.{Seen, misfit, foreign, table}
use Rattle.words.specs.Table.{seen}
use Rattle.refusals.specs.declared.Refusal.{Refusal}
use Rattle.writing.specs.Answer.{count_answer}
use Rattle.shortest.specs.Shortest.{upto}
use Rattle.shortest.specs.Seen.{short_on, bytes_in, left_in, used}
use Rattle.sweep.specs.Walk.{store_at}

-- the refusals that come before the buffer's, 0 for none; `less` for a scratch of fewer words than the table's
abbrev pub unfit_on : Seen → Bool → ℕ
unfit_on s true = 1
unfit_on misfit false = 1
unfit_on foreign false = 2
unfit_on (table A cs) false = cond (eqb (held (winners cs) 0 0) 0) 23 (cond (upto 32 (winners cs)) 0 24)

-- the words ws, with the scratch ms and a buffer of `room` bytes
abbrev pub short_in : List ℕ → List ℕ → ℕ → Answer (List Route)
short_in ws ms room = short_on (seen 4 ws) (ltb (length ms) (length ws)) room

-- the scratch after it. It is the one part that the layout tells: after success and after 9, the first word of each slot that the
-- walk from length 0 down comes to is the set of the prefix there, bit h - 1 for hop h; all other words are as they were
abbrev pub scratch_in : Answer (List Route) → List ℕ → List ℕ → List ℕ
scratch_in x ws ms = cond (used x) (store_at ws 32 root_slot 0 ms) ms

-- the count answers r and leaves the scratch ns
pub record HasCounted (ws ms : List ℕ) (room : ℕ) (r : Result ℕ Refusal) (ns : List ℕ) : Type 0 where
  pub answer : count_answer r ≡ bytes_in (short_in ws ms room)
  pub scratch : ns ≡ scratch_in (short_in ws ms room) ws ms

-- the list written into the buffer b answers r and leaves the scratch ns and the buffer c
pub record HasShortened (ws ms b : List ℕ) (r : Result ℕ Refusal) (ns c : List ℕ) : Type 0 where
  pub answer : count_answer r ≡ bytes_in (short_in ws ms (length b))
  pub scratch : ns ≡ scratch_in (short_in ws ms (length b)) ws ms
  pub buffer : c ≡ left_in (short_in ws ms (length b)) b

-- ---- the front of the buffer

-- the bytes written, none on a refusal
abbrev pub front_in : Answer (List Route) → List ℕ
front_in (gives rs) = written_plainly rs
front_in (refuses n) = []

-- their number
abbrev pub count_in : Answer ℕ → ℕ
count_in (gives n) = n
count_in (refuses n) = 0
