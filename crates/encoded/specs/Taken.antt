-- The records that a run takes, and what the run comes to by them: the list, the replies and the counts are those of its records,
-- one after the other. Assumes nothing.
use Rattle.std.specs.Prelude.{◌≡◌, ◌≢◌, Bool, true, false, cond, List, [], ◌∷◌, ◌++◌, length, get_or, eqb}
use Rattle.std.proofs.Math.Path.{refl}
use Rattle.std.proofs.Common.{sym, ap, ◌∙◌, append_assoc, append-nil, add-zero, arith, ne_eqb}
use Prim.Native.Nat.{ℕ, zero, suc, ◌+◌, ◌-◌, ◌≤◌}
use Rattle.routes.specs.Family.{Family, width}
use Rattle.routes.specs.Answers.{is_done, is_refused, count}
use Rattle.routes.specs.Bytes.{reply_bytes, replies_bytes}
use Rattle.logic.specs.Cases.{same}
use Rattle.candidates.specs.Candidate.{Candidate}
use Rattle.candidates.specs.Answers.{Record, reply, replies, next, leaves}
use Rattle.candidates.specs.Runs.{State, role_at, ahead, finish, halts, taken, runs, fresh, run, records_from, records_of}
use Rattle.encoded.specs.Turns.{size_pos, tally-count, halts_1, halts_clear}

-- ---- by what the tests find

module _ (F : Family) (A : ℕ) (feed : List ℕ) (room : ℕ) (s : State) where
  pub records_stop : (n : ℕ) → halts F feed room s.consumed (length s.replies) ≢ 5 → records_from F n A feed room s ≡ []
  unfolding records_from
  records_stop zero h = refl
  records_stop (suc n) h = rw (ne_eqb _ 5 h)

-- more than the bytes left is as good as the bytes left
pub records_enough : (F : Family) (n m A : ℕ) (feed : List ℕ) (room : ℕ) (s : State)
    → length feed ≤ s.consumed + n → length feed ≤ s.consumed + m
    → records_from F n A feed room s ≡ records_from F m A feed room s
unfolding records_from
records_enough F zero zero A feed room s h k = refl
records_enough F zero (suc m) A feed room s h k = rw (halts_1 F feed room s.consumed (length s.replies) (omega arith))
records_enough F (suc n) zero A feed room s h k = rw (halts_1 F feed room s.consumed (length s.replies) (omega arith))
records_enough F (suc n) (suc m) A feed room s h k =
    let p = size_pos F (role_at F feed s.consumed) in
    ap (λ (xs : List Record). cond (eqb (halts F feed room s.consumed (length s.replies)) 5) (ahead F feed s ∷ xs) [])
    (records_enough F n m A feed room (taken F A feed s) (omega arith) (omega arith))

-- ---- what a run comes to, by its records

-- from the state s on, the records xs were answered
pub record Came (F : Family) (A : ℕ) (s : State) (xs : List Record) (t : State) : Type 0 where
  pub list : t.list ≡ leaves (width F) A s.list xs
  pub written : t.replies ≡ s.replies ++ replies_bytes (replies (width F) A s.list xs)
  pub accepted : t.accepted ≡ s.accepted + count is_done (replies (width F) A s.list xs)
  pub refused : t.refused ≡ s.refused + count is_refused (replies (width F) A s.list xs)

came_none : (F : Family) (A : ℕ) (s : State) → Came F A s [] s
came_none F A s =
    record {
      list = refl;
      written = sym (append-nil s.replies);
      accepted = sym (add-zero s.accepted);
      refused = sym (add-zero s.refused);
    }

came_more : (F : Family) (A : ℕ) (feed : List ℕ) (s : State) (xs : List Record) (t : State) → Came F A (taken F A feed s) xs t
    → Came F A s (ahead F feed s ∷ xs) t
came_more F A feed s xs t c =
    let y = reply (width F) A s.list (ahead F feed s) in
    let ys = replies (width F) A (next (width F) A s.list (ahead F feed s)) xs in
    record {
      list = c.list;
      written = c.written ∙ append_assoc s.replies (reply_bytes y) (replies_bytes ys);
      accepted = c.accepted ∙ tally-count (is_done y) s.accepted (count is_done ys);
      refused = c.refused ∙ tally-count (is_refused y) s.refused (count is_refused ys);
    }

finished : (F : Family) (A : ℕ) (s : State) (b : Bool) → Came F A s [] (cond b (finish s) s)
finished F A s true =
    let c = came_none F A s in
    record { list = c.list; written = c.written; accepted = c.accepted; refused = c.refused }
finished F A s false = came_none F A s

runs_came : (F : Family) (n A : ℕ) (feed : List ℕ) (room : ℕ) (s : State)
    → Came F A s (records_from F n A feed room s) (runs F n A feed room s).end
unfolding runs records_from
runs_came F zero A feed room s = came_none F A s
runs_came F (suc n) A feed room s =
    let t = taken F A feed s in
    same (halts F feed room s.consumed (length s.replies)) 5
    (λ _ e. rw e
    (came_more F A feed s (records_from F n A feed room t) (runs F n A feed room t).end (runs_came F n A feed room t)))
    (λ _ e. rw e (finished F A s (eqb (halts F feed room s.consumed (length s.replies)) 0)))

pub run_came : (F : Family) (A : ℕ) (cs : List Candidate) (feed : List ℕ) (room : ℕ)
    → Came F A (fresh cs) (records_of F A cs feed room) (run F A cs feed room).end
run_came F A cs feed room = runs_came F (length feed) A feed room (fresh cs)
