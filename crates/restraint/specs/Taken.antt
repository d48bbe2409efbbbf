-- What a run through a front takes, and what it comes to by that: the list and the places, the replies and the counts are those
-- of its records and ticks, one after the other. Assumes nothing.
use Rattle.std.specs.Prelude.{◌≡◌, refl, ◌≢◌, Bool, true, false, cond, List, [], ◌∷◌, ◌++◌, ℕ, zero, suc, ◌+◌, ◌-◌, ◌≤◌, length}
use Rattle.std.specs.Prelude.{eqb}
use Rattle.std.proofs.Common.{sym, ap, ◌∙◌, append_assoc, append-nil, add-zero, arith, ne_eqb}
use Rattle.logic.specs.Cases.{same}
use Rattle.routes.specs.Answers.{Reply, is_refused, count}
use Rattle.routes.specs.Bytes.{reply_bytes, replies_bytes}
use Rattle.encoded.specs.Turns.{tally-count}
use Rattle.front.specs.Front.{Event, Both, taken, replies, leaves, accepts}
use Rattle.front.specs.Runs.{State, halts, ahead, turn, finish, runs, fresh, run, events_from, events_of}
use Rattle.restraint.specs.Turns.{size_pos, halts_none, halts_clear}

-- ---- by what the tests find

pub events_stop : (A : ℕ) (feed : List ℕ) (room : ℕ) (s : State) (n : ℕ)
    → halts feed room s.consumed (length s.replies) ≢ 5 → events_from n A feed room s ≡ []
unfolding events_from
events_stop A feed room s zero h = refl
events_stop A feed room s (suc n) h = rw (ne_eqb _ 5 h)

-- more than the bytes left is as good as the bytes left
events_enough : (n m A : ℕ) (feed : List ℕ) (room : ℕ) (s : State)
    → length feed ≤ s.consumed + n → length feed ≤ s.consumed + m → events_from n A feed room s ≡ events_from m A feed room s
unfolding events_from
events_enough zero zero A feed room s h k = refl
events_enough zero (suc m) A feed room s h k = rw (halts_none feed room s.consumed (length s.replies) (omega arith))
events_enough (suc n) zero A feed room s h k = rw (halts_none feed room s.consumed (length s.replies) (omega arith))
events_enough (suc n) (suc m) A feed room s h k =
    let p = size_pos feed s.consumed in
    ap (λ (es : List Event). cond (eqb (halts feed room s.consumed (length s.replies)) 5) (ahead feed s ∷ es) [])
    (events_enough n m A feed room (turn A feed s) (omega arith) (omega arith))

-- as many as there are bytes are enough, before a record and after it
pub events_on_lem : (A : ℕ) (feed : List ℕ) (room : ℕ) (s : State)
    → halts feed room s.consumed (length s.replies) ≡ 5
    → events_from (length feed) A feed room s ≡ ahead feed s ∷ events_from (length feed) A feed room (turn A feed s)
unfolding events_from
events_on_lem A feed room s e =
    let c = halts_clear feed room s.consumed (length s.replies) e in
    let p = size_pos feed s.consumed in
    let l : length feed ≡ suc (length feed - 1) = omega (arith, c.body) in
    ap (λ (n : ℕ). events_from n A feed room s) l
    ∙ rw e
    (ap (λ (es : List Event). ahead feed s ∷ es)
    (events_enough (length feed - 1) (length feed) A feed room (turn A feed s) (omega arith) (omega arith)))

-- ---- what a run comes to, by what it takes

-- of the events, how many count as an update that was accepted
abbrev pub accepted_in : List Event → List Reply → ℕ
accepted_in [] ys = 0
accepted_in (e ∷ es) [] = 0
accepted_in (e ∷ es) (y ∷ ys) = cond (accepts e y) 1 0 + accepted_in es ys

-- from the state s on, the events es were answered
pub record Came (A : ℕ) (s : State) (es : List Event) (t : State) : Type 0 where
  pub both : t.both ≡ leaves 32 A s.both es
  pub written : t.replies ≡ s.replies ++ replies_bytes (replies 32 A s.both es)
  pub accepted : t.accepted ≡ s.accepted + accepted_in es (replies 32 A s.both es)
  pub refused : t.refused ≡ s.refused + count is_refused (replies 32 A s.both es)

came_none : (A : ℕ) (s : State) → Came A s [] s
came_none A s =
    record {
      both = refl;
      written = sym (append-nil s.replies);
      accepted = sym (add-zero s.accepted);
      refused = sym (add-zero s.refused);
    }

came_more : (A : ℕ) (feed : List ℕ) (s : State) (es : List Event) (t : State) → Came A (turn A feed s) es t
    → Came A s (ahead feed s ∷ es) t
came_more A feed s es t c =
    let e = ahead feed s in
    let y = (taken 32 A s.both e).reply in
    let ys = replies 32 A (taken 32 A s.both e).left es in
    record {
      both = c.both;
      written = c.written ∙ append_assoc s.replies (reply_bytes y) (replies_bytes ys);
      accepted = c.accepted ∙ tally-count (accepts e y) s.accepted (accepted_in es ys);
      refused = c.refused ∙ tally-count (is_refused y) s.refused (count is_refused ys);
    }

finished : (A : ℕ) (s : State) (b : Bool) → Came A s [] (cond b (finish s) s)
finished A s true =
    let c = came_none A s in
    record { both = c.both; written = c.written; accepted = c.accepted; refused = c.refused }
finished A s false = came_none A s

runs_came : (n A : ℕ) (feed : List ℕ) (room : ℕ) (s : State)
    → Came A s (events_from n A feed room s) (runs n A feed room s).end
unfolding runs events_from
runs_came zero A feed room s = came_none A s
runs_came (suc n) A feed room s =
    let t = turn A feed s in
    same (halts feed room s.consumed (length s.replies)) 5
    (λ _ e. rw e (came_more A feed s (events_from n A feed room t) (runs n A feed room t).end (runs_came n A feed room t)))
    (λ _ e. rw e (finished A s (eqb (halts feed room s.consumed (length s.replies)) 0)))

pub run_came : (A : ℕ) (b : Both) (feed : List ℕ) (room : ℕ) → Came A (fresh b) (events_of A b feed room) (run A b feed room).end
run_came A b feed room = runs_came (length feed) A feed room (fresh b)
