-- What the steps of a run promise, whatever its records ask for: the stop that the tests before a record find, how far the run
-- has come after one, and what is told of it. Assumes nothing.
use Rattle.std.specs.Prelude.{◌≡◌, refl, ◌≢◌, Bool, false, cond, List, ℕ, ◌+◌, ◌<◌, length, get_or, leb, ltb, eqb, Option, Some}
use Rattle.std.specs.Prelude.{None}
use Rattle.std.proofs.Common.{arith}
use borrow.Author.Tests.{le-leb, lt-leb}
use Rattle.logic.specs.Cases.{bool, most}
use Rattle.numbers.specs.Wrote.{Wrote}
use Rattle.routes.specs.Family.{Family, Role, is_unknown}
use Rattle.routes.specs.Answers.{Reply, is_done, is_refused}
use Rattle.routes.specs.Bytes.{reply_bytes}
use Rattle.candidates.specs.Runs.{size, role_at, first, halts}
use Rattle.feed.specs.declared.Progress.{Progress}
use Rattle.feed.specs.declared.Report.{Report}
use Rattle.feed.specs.declared.Stop.{Stop}
use Rattle.feed.specs.declared.Stop.TheVariants as stop

abbrev pub begun : Progress
begun = record { at = 0; out = 0; accepted = 0; refused = 0 }

abbrev pub one : Bool → ℕ
one b = cond b 1 0

-- ---- the stop

abbrev pub stop_number : Stop → ℕ
stop_number stop.End = 0
stop_number stop.Dry = 1
stop_number stop.Unknown = 2
stop_number stop.Cut = 3
stop_number stop.Room = 4

-- what the tests find: 5 for none
abbrev pub stop_of : Option Stop → ℕ
stop_of None = 5
stop_of (Some s) = stop_number s

pub stop_some : (s : Stop) → stop_number s ≢ 5
stop_some stop.End e = omega arith
stop_some stop.Dry e = omega arith
stop_some stop.Unknown e = omega arith
stop_some stop.Cut e = omega arith
stop_some stop.Room e = omega arith

-- the bytes of a record of a role: none where it is unknown
abbrev pub size_known : Family → Role → Option ℕ
size_known F r = cond (is_unknown r) None (Some (size F r))

-- past the feed's end and the kind
abbrev pub halts_sized : List ℕ → ℕ → ℕ → ℕ → Option ℕ → ℕ
halts_sized feed room at out None = 2
halts_sized feed room at out (Some n) =
    first 3 (ltb (length feed) (at + n)) (first 0 (eqb (get_or feed at 0) 0) (first 4 (ltb room (out + 5)) 5))

-- the tests before a record of so many bytes
abbrev pub halts_before : List ℕ → ℕ → ℕ → ℕ → Option ℕ → ℕ
halts_before feed room at out n = first 1 (leb (length feed) at) (halts_sized feed room at out n)

-- they are the run's
pub halts_as : (F : Family) (feed : List ℕ) (room at out : ℕ) (n : Option ℕ)
    → (at < length feed → n ≡ size_known F (role_at F feed at))
    → halts_before feed room at out n ≡ halts F feed room at out
unfolding halts
halts_as F feed room at out n q =
    most (length feed) at (λ h _. rw (le-leb (length feed) at h) refl)
    (λ l _. rw (lt-leb (length feed) at l, q l) (bool (is_unknown (role_at F feed at)) (λ u. rw u refl) (λ u. rw u refl)))

-- ---- after a record

-- a record of n bytes is answered r, and the reply written: the run has come from p to q, and the reply bytes are c. What is done
-- is an accepted update where the record is one
pub record Counted (p : Progress) (n : ℕ) (r : Reply) (update : Bool) (q : Progress) (b c : List ℕ) : Type 0 where
  pub at : q.at ≡ p.at + n
  pub wrote : Wrote b p.out (reply_bytes r) q.out c
  pub accepted : q.accepted ≡ p.accepted + one (cond update (is_done r) false)
  pub refused : q.refused ≡ p.refused + one (is_refused r)

-- ---- the end

-- what is told of a run that has come to p and stops there: an end is consumed, another record that stops it is not
abbrev pub told_at : Progress → ℕ → Report
told_at p stop =
    record {
      stop = stop;
      consumed = p.at + one (eqb stop 0);
      written = p.out;
      accepted = p.accepted;
      refused = p.refused;
    }
