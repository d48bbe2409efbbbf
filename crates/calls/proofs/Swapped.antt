-- Item 8 over the calls: neighbouring updates swapped, sent by four calls on two runs of words that stand for one list. Assumes
-- nothing.
--
--     words  ── u ──▶ . ── v ──▶ words'        words stand for one list on both lines, and so do words': the answers agree, cells
--     words  ── v ──▶ . ── u ──▶ words'        excepted, and all later ones, cells included
use Rattle.calls.specs.Swapped.{CallsSwapped}
use Rattle.std.specs.Prelude.{◌≡◌, List, ℕ}
use Rattle.std.proofs.Common.{sym, ap, ◌∙◌}
use Rattle.routes.specs.Family.{Family, levels, width}
use Rattle.candidates.specs.Candidate.{Candidate}
use Rattle.candidates.specs.Answers.{Update, after, plain}
use Rattle.candidates.specs.Seen.{table}
use Rattle.laws.specs.Families.{width_low}
use Rattle.words.specs.Table.{seen}
use Rattle.swaps.specs.Moves.{Move}
use Rattle.swaps.proofs.Any.{swapped}
use Rattle.calls.specs.Sharp.{layout_unseen}
use Rattle.calls.specs.Swapped.{LaterAlike, is_table, InTurn, first_is, second_is, end_is}

pub later_alike : (F : Family) (A : ℕ) (cs : List Candidate) (ws vs : List ℕ) → seen (levels F) ws ≡ table A cs
    → seen (levels F) vs ≡ table A cs → LaterAlike F ws vs
later_alike F A cs ws vs p q = record { calls = λ a b. layout_unseen F A cs p q a b }

pub calls_swapped : {F : Family} {A : ℕ} {cs : List Candidate} {u v : Update} → Move (width F) A cs u v
    → (p : InTurn F A cs u v) (q : InTurn F A cs v u) → CallsSwapped p q
calls_swapped {F} {A} {cs} {u} {v} m p q =
    let s = swapped (width F) (width_low F) A cs u v (is_table F A cs p.words p.is) m in
    let e : seen (levels F) p.words' ≡ seen (levels F) q.words' = end_is p ∙ ap (table A) s.list ∙ sym (end_is q) in
    record {
      one = ap plain (first_is p) ∙ s.one ∙ ap plain (sym (second_is q));
      other = ap plain (second_is p) ∙ s.other ∙ ap plain (sym (first_is q));
      list = e;
      later = later_alike F A (after (width F) A (after (width F) A cs v) u) p.words' q.words' (e ∙ end_is q) (end_is q);
    }
