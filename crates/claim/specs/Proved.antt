-- The claim is proved: the three demands hold of the C calls of IPv4 and of IPv6. Assumes nothing.
use Rattle.std.specs.Prelude.{◌≡◌, List, [], ℕ}
use Rattle.std.proofs.Common.{arith}
use Rattle.routes.specs.Family.{Family, levels}
use Rattle.candidates.specs.Candidate.{Candidate}
use Rattle.candidates.specs.Seen.{table}
use Rattle.laws.specs.Families.{levels_some, levels_few}
use Rattle.words.specs.Table.{seen}
use Rattle.words.specs.View.{table_of}
use Rattle.feed.specs.Series.{all_answered}
use Rattle.toggleash.specs.Local.{update_same, run_same}
use Rattle.calls.specs.Exported.{cleared}
use Rattle.calls.proofs.Exported.{series_below}
use Rattle.calls.proofs.ExportedRound.{again_exported}
use Rattle.claim.specs.Demands.{Demand2, InARow}

pub demand_2 : (F : Family) (A : ℕ) (cs : List Candidate) (ws : List ℕ) → seen (levels F) ws ≡ table A cs → Demand2 F A cs ws
demand_2 F A cs ws e =
    let t = (table_of (levels F) ws (levels_some F) (omega (arith, levels_few F)) A cs e).table in
    record {
      lookup = λ a r p. rw e at p;
      update = λ u vs r p. (rw e at p.answer, rw e at p.list);
      local = λ u vs us r s p q. update_same F ws vs us u r s t p q;
      run = λ feed b vs c r p. (rw e at p.answer, rw e at p.list, rw e at p.replies);
      local_run_fact = λ feed b vs us c d r s p q. run_same F ws feed b vs c us d r s (rw e tt) p q;
      check = λ r p. rw e at p;
      again = λ t. again_exported t;
    }

pub in_a_row : (F : Family) → InARow F
in_a_row F = record {
  answers = λ A ws vs xs ys c s. (all_answered (levels F) A [] (cleared c) (series_below s)).answers;
  list = λ A ws vs xs ys c s. (all_answered (levels F) A [] (cleared c) (series_below s)).list;
}
