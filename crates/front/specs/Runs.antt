-- The run of an IPv4 feed through a front before a table of A arrays: document 01's run with one kind more, 9, a tick. Only the
-- front knows it. Assumes nothing.
--
--     9            a tick, a byte alone; its reply is done 0 0 and counts as no update
--     0 to 5       as without a front; updates are answered through it
use Rattle.std.specs.Prelude.{Bool, cond, List, [], ◌∷◌, ◌++◌, ℕ, zero, suc, ◌+◌, length, get_or, ltb, eqb}
use Rattle.routes.specs.Family.{v4}
use Rattle.routes.specs.Answers.{is_refused}
use Rattle.routes.specs.Bytes.{reply_bytes}
use Rattle.candidates.specs.Bytes.{means}
use Rattle.candidates.specs.Runs.{size, sent_at, role_at, tally, first}
use Rattle.candidates.specs.Runs as plain
use Rattle.front.specs.Front.{Event, asks, tick, Both, Step, taken, accepts}

-- how far a run has come: the list and the places, the feed bytes consumed, the reply bytes written, accepted updates, refused
-- records
pub record State : Type 0 where
  pub both : Both
  pub consumed : ℕ
  pub replies : List ℕ
  pub accepted : ℕ
  pub refused : ℕ

abbrev pub fresh : Both → State
fresh b = record { both = b; consumed = 0; replies = []; accepted = 0; refused = 0 }

-- ---- what comes next

abbrev pub tick_kind : ℕ
tick_kind = 9

-- a tick begins at i; past the last byte nothing does
abbrev pub ticks_at : List ℕ → ℕ → Bool
ticks_at feed i = eqb (get_or feed i 0) tick_kind

abbrev pub event_at : List ℕ → ℕ → Event
event_at feed i = cond (ticks_at feed i) tick (asks (means (sent_at v4 feed i (role_at v4 feed i))))

-- its bytes, the kind's own included
abbrev pub size_at : List ℕ → ℕ → ℕ
size_at feed i = cond (ticks_at feed i) 1 (size v4 (role_at v4 feed i))

-- ---- the tests before it

-- the stop that they find, or 5 for none: a tick is there and has no body, so that only the reply's room is asked for
unfoldable pub halts : List ℕ → ℕ → ℕ → ℕ → ℕ
halts feed room at out = cond (ticks_at feed at) (first 4 (ltb room (out + 5)) 5) (plain.halts v4 feed room at out)

-- ---- the run

-- by what is left and what is replied to an event of n bytes
abbrev pub take : State → ℕ → Event → Step → State
take s n e t =
    record {
      both = t.left;
      consumed = s.consumed + n;
      replies = s.replies ++ reply_bytes t.reply;
      accepted = tally (accepts e t.reply) s.accepted;
      refused = tally (is_refused t.reply) s.refused;
    }

abbrev pub ahead : List ℕ → State → Event
ahead feed s = event_at feed s.consumed

abbrev pub turn : ℕ → List ℕ → State → State
turn A feed s = take s (size_at feed s.consumed) (ahead feed s) (taken 32 A s.both (ahead feed s))

-- the end is consumed
abbrev pub finish : State → State
finish s =
    record { both = s.both; consumed = s.consumed + 1; replies = s.replies; accepted = s.accepted; refused = s.refused }

pub record Ran : Type 0 where
  pub stop : ℕ
  pub end : State

-- by the stop found: 5, and the run goes on; 0, and the end is consumed
abbrev pub decide : ℕ → State → Ran → Ran
decide h s on = cond (eqb h 5) on (record { stop = h; end = cond (eqb h 0) (finish s) s })

-- at most n records more. With no byte left the run stops by 1, so as many records as there are bytes are always enough
unfoldable pub runs : ℕ → ℕ → List ℕ → ℕ → State → Ran
runs zero A feed room s = record { stop = 1; end = s }
runs (suc n) A feed room s =
    decide (halts feed room s.consumed (length s.replies)) s (runs n A feed room (turn A feed s))

-- a table of A arrays and the front before it run a feed with `room` reply bytes
abbrev pub run : ℕ → Both → List ℕ → ℕ → Ran
run A b feed room = runs (length feed) A feed room (fresh b)

-- ---- what it takes, in order: the records and ticks that no test stops it before

unfoldable pub events_from : ℕ → ℕ → List ℕ → ℕ → State → List Event
events_from zero A feed room s = []
events_from (suc n) A feed room s =
    cond (eqb (halts feed room s.consumed (length s.replies)) 5)
    (ahead feed s ∷ events_from n A feed room (turn A feed s))
    []

abbrev pub events_of : ℕ → Both → List ℕ → ℕ → List Event
events_of A b feed room = events_from (length feed) A feed room (fresh b)
