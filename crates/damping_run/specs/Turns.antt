-- What the functions behind the run promise: the answer to one record or tick, its reply, and how far the run has come then.
-- Assumes nothing.
use Rattle.std.specs.Prelude.{◌≡◌, ◌≢◌, Bool, false, cond, List, ℕ, ◌+◌, ◌≤◌, ◌<◌, length, take, drop, eqb}
use Rattle.routes.specs.Family.{v4, Role, ending, role_of, is_unknown}
use Rattle.routes.specs.Answers.{Reply}
use Rattle.candidates.specs.Runs.{size, role_at}
use Rattle.feed.specs.Progress.{begun}
pub use Rattle.feed.specs.Progress.{told_at}
use Rattle.feed.specs.declared.Progress.{Progress}
use Rattle.front.specs.Runs.{tick_kind, ticks_at, event_at}
use Rattle.restraint.specs.Turns.{Clear}
use Rattle.damping.specs.Locally.{Ready}
use Rattle.damping_run.specs.Locally.{AskedLocally, Note, noted}

-- ---- a record or a tick

-- the bytes by the kind, 0 for one that a run does not know
abbrev pub bytes_of : ℕ → ℕ
bytes_of k = cond (eqb k tick_kind) 1 (cond (is_unknown (role_of v4 k)) 0 (size v4 (role_of v4 k)))

-- what is asked for before an update is answered: n bytes besides the kind and the address
pub record Whole (fs ws feed : List ℕ) (i n : ℕ) (known : Bool) : Type 0 where
  pub ready : Ready fs ws known
  pub body : i + 4 + n ≤ length feed

-- before a record of a role: a whole one that is no end
pub record Asks (r : Role) (fs ws feed : List ℕ) (i : ℕ) (k : Bool) : Type 0 where
  pub ready : Ready fs ws k
  pub known : is_unknown r ≡ false
  pub more : r ≢ ending
  pub body : i + size v4 r ≤ length feed

-- before a record or a tick
pub record Answers (fs ws feed : List ℕ) (i : ℕ) (known : Bool) : Type 0 where
  pub ready : Ready fs ws known
  pub there : i < length feed
  pub asks : ticks_at feed i ≡ false → Asks (role_at v4 feed i) fs ws feed i known

-- ---- how far a run has come

abbrev pub first : Progress
first = begun

-- as its counters and the reply bytes stand for it
abbrev pub note_of : Progress → List ℕ → Note
note_of p b = record { consumed = p.at; replies = take p.out b; accepted = p.accepted; refused = p.refused }

pub record Placed (p : Progress) (feed b : List ℕ) : Type 0 where
  pub at : p.at ≤ length feed
  pub out : p.out ≤ length b
  pub accepted : p.accepted ≤ p.at
  pub refused : p.refused ≤ p.at

-- no test stops the run before what is next
pub record Takes (p : Progress) (fs ws feed b : List ℕ) (known : Bool) : Type 0 where
  pub ready : Ready fs ws known
  pub placed : Placed p feed b
  pub clear : Clear feed (length b) p.at p.out

-- what was next after p is answered: the run has come to q, the words are gs and vs, and the reply bytes c
pub record Took (p : Progress) (fs ws feed b : List ℕ) (q : Progress) (gs vs c : List ℕ) : Type 0 where
  pub reply : Reply
  pub asked : AskedLocally fs ws (event_at feed p.at) reply gs vs
  pub note : note_of q c ≡ noted feed (note_of p b) reply
  pub rest : drop q.out c ≡ drop q.out b
  pub placed : Placed q feed c
  pub on : p.at < q.at
  pub past : p.out ≤ q.out
