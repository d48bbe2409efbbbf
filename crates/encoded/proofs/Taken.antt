-- The records that a run takes, and what the run comes to by them: the list, the replies and the counts are those of its records,
-- one after the other. Assumes nothing.
use Rattle.std.specs.Prelude.{◌≡◌, ◌≢◌, Bool, true, false, cond, List, [], ◌∷◌, ◌++◌, length, get_or, eqb}
use Rattle.std.proofs.Math.Path.{refl}
use Rattle.std.proofs.Common.{sym, ap, ◌∙◌, append_assoc, append-nil, add-zero, arith, ne_eqb}
use Prim.Native.Nat.{ℕ, zero, suc, ◌+◌, ◌-◌, ◌≤◌}
use Rattle.routes.specs.Family.{Family, width}
use Rattle.routes.specs.Answers.{is_done, is_refused, count}
use Rattle.routes.specs.Bytes.{reply_bytes, replies_bytes}
use Rattle.logic.specs.Cases.{same}
use Rattle.candidates.specs.Candidate.{Candidate}
use Rattle.candidates.specs.Answers.{Record, reply, replies, next, leaves}
use Rattle.candidates.specs.Runs.{State, role_at, ahead, finish, halts, taken, runs, fresh, run, records_from, records_of}
use Rattle.encoded.specs.Turns.{size_pos, tally-count, halts_1, halts_clear}
use Rattle.encoded.specs.Taken.{records_enough}

-- as many as there are bytes are enough, before a record and after it
pub records_on_lem : (F : Family) (A : ℕ) (feed : List ℕ) (room : ℕ) (s : State)
    → halts F feed room s.consumed (length s.replies) ≡ 5
    → records_from F (length feed) A feed room s ≡ ahead F feed s ∷ records_from F (length feed) A feed room (taken F A feed s)
unfolding records_from
records_on_lem F A feed room s e =
    let c = halts_clear F feed room s.consumed (length s.replies) e in
    let p = size_pos F (role_at F feed s.consumed) in
    let l : length feed ≡ suc (length feed - 1) = omega (arith, c.body) in
    ap (λ (n : ℕ). records_from F n A feed room s) l
    ∙ rw e
    (ap (λ (xs : List Record). ahead F feed s ∷ xs)
    (records_enough F (length feed - 1) (length feed) A feed room (taken F A feed s) (omega arith) (omega arith)))
