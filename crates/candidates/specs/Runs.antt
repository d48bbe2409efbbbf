-- The run of a feed of a family on a table of A arrays that holds candidates: records in order, one reply for each but end, until
-- a test stops it. Assumes nothing.
--
--     before each record:  no byte left ─ 1   no kind of the family ─ 2   body short ─ 3   kind 0, end ─ 0
--                          under 5 reply bytes ─ 4
use Rattle.std.specs.Prelude.{Bool, cond, List, [], ◌∷◌, ◌++◌, ℕ, zero, suc, ◌+◌, length, get_or, ltb, leb, eqb}
use Rattle.numbers.specs.Digits.{two_at}
use Rattle.numbers.specs.Number.{number_at}
use Rattle.routes.specs.Family.{Family, levels, width, Role, ending, announcing, withdrawing, looking, announcing_for}
use Rattle.routes.specs.Family.{withdrawing_for, unknown, role_of, is_unknown}
use Rattle.routes.specs.Answers.{is_done, is_refused}
use Rattle.routes.specs.Bytes.{reply_bytes}
use Rattle.candidates.specs.Candidate.{Candidate}
use Rattle.candidates.specs.Answers.{Record, reply, next}
use Rattle.candidates.specs.Bytes.{Sent, announces, withdraws, looks, announces_for, withdraws_for, means}

-- how far a run has come: the list held, the feed bytes consumed, the reply bytes written, accepted updates, refused records
pub record State : Type 0 where
  pub list : List Candidate
  pub consumed : ℕ
  pub replies : List ℕ
  pub accepted : ℕ
  pub refused : ℕ

abbrev pub fresh : List Candidate → State
fresh cs = record { list = cs; consumed = 0; replies = []; accepted = 0; refused = 0 }

-- ---- a record of the feed

-- the bytes of a record of a role, the kind's own included
abbrev pub size : Family → Role → ℕ
size F ending = 1
size F announcing = levels F + 4
size F withdrawing = levels F + 2
size F looking = levels F + 1
size F announcing_for = levels F + 6
size F withdrawing_for = levels F + 3
size F unknown = 1

-- the record of a role whose address stands at i and ends at j. Of an end and of an unknown kind there is none
abbrev pub sent_of : Family → List ℕ → ℕ → ℕ → Role → Sent
sent_of F feed i j ending = looks 0
sent_of F feed i j announcing = announces (number_at (levels F) feed i) (get_or feed j 0) (two_at feed (j + 1))
sent_of F feed i j withdrawing = withdraws (number_at (levels F) feed i) (get_or feed j 0)
sent_of F feed i j looking = looks (number_at (levels F) feed i)
sent_of F feed i j announcing_for =
    announces_for (number_at (levels F) feed i) (get_or feed j 0) (two_at feed (j + 1)) (get_or feed (j + 3) 0)
    (get_or feed (j + 4) 0)
sent_of F feed i j withdrawing_for = withdraws_for (number_at (levels F) feed i) (get_or feed j 0) (get_or feed (j + 1) 0)
sent_of F feed i j unknown = looks 0

-- the record that begins at i
abbrev pub sent_at : Family → List ℕ → ℕ → Role → Sent
sent_at F feed i r = sent_of F feed (i + 1) (i + 1 + levels F) r

abbrev pub tally : Bool → ℕ → ℕ
tally b n = cond b (n + 1) n

-- a record of n bytes is answered
abbrev pub take : Family → ℕ → State → ℕ → Record → State
take F A s n r =
    record {
      list = next (width F) A s.list r;
      consumed = s.consumed + n;
      replies = s.replies ++ reply_bytes (reply (width F) A s.list r);
      accepted = tally (is_done (reply (width F) A s.list r)) s.accepted;
      refused = tally (is_refused (reply (width F) A s.list r)) s.refused;
    }

-- the role of the record that begins at i
abbrev pub role_at : Family → List ℕ → ℕ → Role
role_at F feed i = role_of F (get_or feed i 0)

-- the record that is next
abbrev pub ahead : Family → List ℕ → State → Record
ahead F feed s = means (sent_at F feed s.consumed (role_at F feed s.consumed))

abbrev pub taken : Family → ℕ → List ℕ → State → State
taken F A feed s = take F A s (size F (role_at F feed s.consumed)) (ahead F feed s)

-- the end is consumed
abbrev pub finish : State → State
finish s =
    record { list = s.list; consumed = s.consumed + 1; replies = s.replies; accepted = s.accepted; refused = s.refused }

-- ---- the tests before a record

abbrev pub first : ℕ → Bool → ℕ → ℕ
first n b rest = cond b n rest

-- the stop that they find, or 5 for none, where `at` bytes of the feed are consumed and of `room` reply bytes `out` are written.
-- An end has no body and wants no reply, so it stops before the room is asked for
unfoldable pub halts : Family → List ℕ → ℕ → ℕ → ℕ → ℕ
halts F feed room at out =
    first 1 (leb (length feed) at)
    (first 2 (is_unknown (role_at F feed at))
    (first 3 (ltb (length feed) (at + size F (role_at F feed at)))
    (first 0 (eqb (get_or feed at 0) 0)
    (first 4 (ltb room (out + 5))
    5))))

-- ---- the run

pub record Ran : Type 0 where
  pub stop : ℕ
  pub end : State

-- by the stop found: 5, and the run goes on; 0, and the end is consumed
abbrev pub decide : ℕ → State → Ran → Ran
decide h s on = cond (eqb h 5) on (record { stop = h; end = cond (eqb h 0) (finish s) s })

-- at most n records more. With no byte left the run stops by 1, so as many records as there are bytes are always enough
unfoldable pub runs : Family → ℕ → ℕ → List ℕ → ℕ → State → Ran
runs F zero A feed room s = record { stop = 1; end = s }
runs F (suc n) A feed room s =
    decide (halts F feed room s.consumed (length s.replies)) s (runs F n A feed room (taken F A feed s))

-- a table of A arrays that holds cs runs a feed with `room` reply bytes
abbrev pub run : Family → ℕ → List Candidate → List ℕ → ℕ → Ran
run F A cs feed room = runs F (length feed) A feed room (fresh cs)

-- ---- the records that it takes, in order: those that no test stops it before

unfoldable pub records_from : Family → ℕ → ℕ → List ℕ → ℕ → State → List Record
records_from F zero A feed room s = []
records_from F (suc n) A feed room s =
    cond (eqb (halts F feed room s.consumed (length s.replies)) 5)
    (ahead F feed s ∷ records_from F n A feed room (taken F A feed s))
    []

abbrev pub records_of : Family → ℕ → List Candidate → List ℕ → ℕ → List Record
records_of F A cs feed room = records_from F (length feed) A feed room (fresh cs)
