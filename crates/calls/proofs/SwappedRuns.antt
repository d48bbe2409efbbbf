-- Item 8 of the run's calls: two feeds that differ by one swap of neighbours, each run on words that stand for one list. Assumes
-- nothing.
--
--     words ── run: before, x, y, after ──▶ words', reply'      the words stand for one list again, and the reply bytes to before
--     words ── run: before, y, x, after ──▶ words', reply'      and to after are the same
use Rattle.calls.specs.SwappedRuns.{RunsSwapped}
use Rattle.std.specs.Prelude.{◌≡◌, List, ℕ}
use Rattle.std.proofs.Common.{sym, ap, ◌∙◌}
use Rattle.routes.specs.Family.{Family, levels, width}
use Rattle.candidates.specs.Candidate.{Candidate}
use Rattle.candidates.specs.Answers.{Update, update}
use Rattle.candidates.specs.Answers as answers
use Rattle.candidates.specs.Bytes.{Sent, means, meanings}
use Rattle.candidates.specs.Seen.{table}
use Rattle.words.specs.Table.{seen}
use Rattle.swaps.specs.Moves.{Move}
use Rattle.calls.specs.Swapped.{is_table}
use Rattle.calls.proofs.Swapped.{later_alike}
use Rattle.calls.specs.SwappedFeeds.{neighbours, feeds_swapped}
use Rattle.calls.specs.SwappedRuns.{RunOf, feed_run, ran_to, run-replies, run_list}

pub runs_swapped : {F : Family} {A : ℕ} {cs : List Candidate} (xs zs : List Sent) (u v : Update) (x y : Sent)
    → Move (width F) A (answers.leaves (width F) A cs (meanings xs)) u v → means x ≡ update u → means y ≡ update v
    → (p : RunOf F A cs (neighbours xs x y zs)) (q : RunOf F A cs (neighbours xs y x zs)) → RunsSwapped p q
runs_swapped {F} {A} {cs} xs zs u v x y m ex ey p q =
    let f = feeds_swapped F A cs xs zs u v x y (is_table F A cs p.words p.is) m ex ey (feed_run p) (feed_run q) in
    let e : seen (levels F) p.words' ≡ seen (levels F) q.words' = run_list p ∙ ap (table A) f.list ∙ sym (run_list q) in
    record {
      feeds = f;
      one_replies = run-replies p;
      other_replies = run-replies q;
      list = e;
      later = later_alike F A (ran_to q).end.list p.words' q.words' (e ∙ run_list q) (run_list q);
    }
