-- Item 8 over the C face: two tables that stand for one list get updates by toggleash_announce and toggleash_withdraw, or by
-- toggleash_run, the second in an order that comes from the first's by the moves. The answers agree, cells excepted, and the
-- words are then seen alike, so that later calls are answered alike. Assumes nothing.
use Rattle.calls.proofs.MovedRuns as runs_proved
use Rattle.calls.proofs.Moved as rattle_proved
use Rattle.calls.specs.ExportedMoved.{LogsAlike}
use Rattle.calls.specs.ExportedMoved.{Alike}
use Rattle.std.specs.Prelude.{List, ℕ}
use Rattle.routes.specs.Family.{Family, width}
use Rattle.candidates.specs.Candidate.{Candidate}
use Rattle.candidates.specs.Answers.{Update}
use Rattle.swaps.specs.Moves.{Moves}
use Rattle.calls.specs.Moved as rattle
use Rattle.calls.proofs.Exported.{series_below}
use Rattle.calls.proofs.ExportedSwapped.{later_below}
use Rattle.calls.specs.ExportedMoved.{Sent, Logged, logged}

-- the calls below
abbrev under : {F : Family} {A : ℕ} {cs : List Candidate} {us : List Update} → Sent F A cs us → rattle.Sent F A cs us
under s =
    record {
      words = s.words;
      table = s.table;
      replies = s.replies;
      words' = s.words';
      calls = series_below s.calls;
    }

pub moved_exported : {F : Family} {A : ℕ} {cs : List Candidate} {us vs : List Update} → Moves (width F) A cs us vs
    → (s : Sent F A cs us) (t : Sent F A cs vs) → Alike s t
moved_exported m s t =
    let e = rattle_proved.moved_sent m (under s) (under t) in
    record { answers = e.answers; list = e.list; later = later_below e.later }

pub moved_run_exported : {F : Family} {A : ℕ} {cs : List Candidate} {us vs : List Update} → Moves (width F) A cs us vs
    → (p : Logged F A cs us) (q : Logged F A cs vs) → LogsAlike p q
moved_run_exported m p q =
    let e = runs_proved.moved_run m (logged p) (logged q) in
    record { answers = e.answers; list = e.list; later = later_below e.later }
