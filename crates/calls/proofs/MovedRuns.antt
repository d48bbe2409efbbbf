-- Item 8 of logs that are run as feeds: each is the records of one run, on words that stand for one list, and the second's order
-- comes from the first's by the moves. Assumes nothing.
--
--     words ── run: u₁ u₂ u₃ ──▶ words', reply'        the replies, read back from reply', are the same in another order, cells
--     words ── run: u₂ u₁ u₃ ──▶ words', reply'        excepted; and the words stand for one list again
use Rattle.calls.specs.MovedRuns.{LogsAlike}
use Rattle.std.specs.Prelude.{◌≡◌, List, ℕ}
use Rattle.std.proofs.Common.{sym, ap, ◌∙◌}
use Rattle.routes.specs.Family.{Family, levels, width}
use Rattle.candidates.specs.Candidate.{Candidate}
use Rattle.candidates.specs.Answers.{Update}
use Rattle.candidates.specs.Seen.{table}
use Rattle.laws.specs.Families.{width_low}
use Rattle.words.specs.Table.{seen}
use Rattle.swaps.specs.Moves.{Moves, ends}
use Rattle.swaps.proofs.Any.{moved}
use Rattle.calls.specs.Swapped.{is_table}
use Rattle.calls.proofs.Swapped.{later_alike}
use Rattle.calls.specs.Moved.{told_is}
use Rattle.calls.specs.MovedRuns.{Logged, read, left}

pub moved_run : {F : Family} {A : ℕ} {cs : List Candidate} {us vs : List Update} → Moves (width F) A cs us vs
    → (p : Logged F A cs us) (q : Logged F A cs vs) → LogsAlike p q
moved_run {F} {A} {cs} {us} {vs} m p q =
    let e = moved (width F) (width_low F) A cs us vs (is_table F A cs p.ran.words p.ran.is) m in
    let y : seen (levels F) q.ran.words' ≡ table A (ends (width F) A cs us) = left q ∙ ap (table A) (sym e.list) in
    record {
      answers = rw (read p, read q, told_is (width F) A cs us, told_is (width F) A cs vs) e.answers;
      list = left p ∙ sym y;
      later = later_alike F A (ends (width F) A cs us) p.ran.words' q.ran.words' (left p) y;
    }
