-- Item 8 over the C face: neighbouring updates swapped, sent by four calls of toggleash_announce and toggleash_withdraw, and by
-- two calls of toggleash_run whose feeds differ by the swap, on words that stand for one list. Assumes nothing.
use Rattle.calls.proofs.SwappedRuns as runs_proved
use Rattle.calls.proofs.Swapped as rattle_proved
use Rattle.calls.specs.ExportedSwapped.{RunsSwapped, CallsSwapped}
use Rattle.std.specs.Prelude.{◌≡◌, List, ℕ}
use Rattle.routes.specs.Family.{Family, width}
use Rattle.candidates.specs.Candidate.{Candidate}
use Rattle.candidates.specs.Answers.{Update, update, leaves}
use Rattle.candidates.specs.Bytes.{Sent, means, meanings}
use Rattle.swaps.specs.Moves.{Move}
use Rattle.calls.proofs.Exported.{asked-below, series_below}
use Rattle.calls.specs.Swapped as rattle
use Rattle.calls.specs.SwappedFeeds.{neighbours}
use Rattle.calls.specs.ExportedSwapped.{LaterAlike, InTurn, RunOf, run_under}

pub later_below : {F : Family} {ws vs : List ℕ} → rattle.LaterAlike F ws vs → LaterAlike F ws vs
later_below l = record { calls = λ a b. l.calls (series_below a) (series_below b) }

-- the calls below
abbrev pub under : {F : Family} {A : ℕ} {cs : List Candidate} {u v : Update} → InTurn F A cs u v → rattle.InTurn F A cs u v
under p =
    record {
      words = p.words;
      is = p.is;
      between = p.between;
      words' = p.words';
      first = p.first;
      second = p.second;
      calls_first = asked-below p.calls_first;
      calls-second = asked-below p.calls-second;
    }

pub calls_swapped_exported : {F : Family} {A : ℕ} {cs : List Candidate} {u v : Update} → Move (width F) A cs u v
    → (p : InTurn F A cs u v) (q : InTurn F A cs v u) → CallsSwapped p q
calls_swapped_exported m p q =
    let e = rattle_proved.calls_swapped m (under p) (under q) in
    record { one = e.one; other = e.other; list = e.list; later = later_below e.later }

pub runs_swapped_exported : {F : Family} {A : ℕ} {cs : List Candidate} (xs zs : List Sent) (u v : Update) (x y : Sent)
    → Move (width F) A (leaves (width F) A cs (meanings xs)) u v → means x ≡ update u → means y ≡ update v
    → (p : RunOf F A cs (neighbours xs x y zs)) (q : RunOf F A cs (neighbours xs y x zs)) → RunsSwapped p q
runs_swapped_exported xs zs u v x y m ex ey p q =
    let e = runs_proved.runs_swapped xs zs u v x y m ex ey (run_under p) (run_under q) in
    record { below = e; later = later_below e.later }
