-- Item 8 over the calls: two tables that stand for one list get updates by the update calls, the second in an order that comes
-- from the first's by the moves. The answers agree, cells excepted, and the words are then seen alike, so that later calls are
-- answered alike. Assumes nothing.
--
--     words, a table ── u₁ u₂ u₃ ──▶ words'           seen alike, though the layouts may differ
--     words, alike ──── u₂ u₁ u₃ ──▶ words'
use Rattle.calls.specs.Moved.{Alike}
use Rattle.std.specs.Prelude.{◌≡◌, List, ℕ}
use Rattle.std.proofs.Common.{sym, ap, ◌∙◌}
use Rattle.routes.specs.Family.{Family, levels, width}
use Rattle.candidates.specs.Candidate.{Candidate}
use Rattle.candidates.specs.Answers.{Update}
use Rattle.candidates.specs.Seen.{table}
use Rattle.laws.specs.Families.{width_low}
use Rattle.words.specs.Table.{seen}
use Rattle.feed.specs.Series.{all_answered}
use Rattle.swaps.specs.Moves.{Moves, ends}
use Rattle.swaps.proofs.Any.{moved}
use Rattle.calls.specs.Swapped.{is_table}
use Rattle.calls.proofs.Swapped.{later_alike}
use Rattle.calls.specs.Moved.{Sent, told_is, ends_is}

pub moved_sent : {F : Family} {A : ℕ} {cs : List Candidate} {us vs : List Update} → Moves (width F) A cs us vs
    → (s : Sent F A cs us) (t : Sent F A cs vs) → Alike s t
moved_sent {F} {A} {cs} {us} {vs} m s t =
    let e = moved (width F) (width_low F) A cs us vs (is_table F A cs s.words s.table) m in
    let p = all_answered (levels F) A cs s.table s.calls in
    let q = all_answered (levels F) A cs t.table t.calls in
    let x : seen (levels F) s.words' ≡ table A (ends (width F) A cs us) = p.list ∙ ap (table A) (ends_is (width F) A cs us) in
    let y : seen (levels F) t.words' ≡ table A (ends (width F) A cs us) =
    q.list ∙ ap (table A) (ends_is (width F) A cs vs ∙ sym e.list) in
    record {
      answers = rw (p.answers, q.answers, told_is (width F) A cs us, told_is (width F) A cs vs) e.answers;
      list = x ∙ sym y;
      later = later_alike F A (ends (width F) A cs us) s.words' t.words' x y;
    }
