-- The shortest list fed again over the C calls: what toggleash_shortest wrote, run by toggleash_run with reply room enough on as
-- many words, cleared, is taken whole, and every address then gets the hop that it got before. Assumes nothing.
--
--     words, a table ── toggleash_shortest ──▶ bytes ── toggleash_run ──▶ words', which forward as the words do
--     as many words ─── toggleash_clear ─────▶ cleared ──────┘
use Rattle.std.specs.Prelude.{◌≡◌, List, [], ℕ, length}
use Rattle.std.proofs.Common.{ap, ◌∙◌}
use Rattle.routes.specs.Family.{v4}
use Rattle.candidates.specs.Candidate.{Candidate}
use Rattle.candidates.specs.Winners.{winners}
use Rattle.candidates.specs.Bytes.{written_plainly}
use Rattle.candidates.specs.Runs.{run}
use Rattle.candidates.specs.Seen.{table}
use Rattle.words.specs.Table.{seen}
use Rattle.shortest.specs.Seen.{shortest4}
use Rattle.answers.specs.declared.Ran.{Ran as Fields}
use Rattle.replayed.specs.Taken.{plain_many, shortest-forwards}
use Rattle.replayed.specs.Shortened.{Shortened, on_table, won, shortened_bytes}
use Rattle.replayed.specs.Fed.{Fed, ForwardsAgain, empty, whole}

module _ {A : ℕ} {cs : List Candidate} {s : Shortened A cs} (f : Fed s) where
  pub fed-forwards : ForwardsAgain f
  fed-forwards =
      let left : seen 4 f.words'
      ≡ table A (run v4 A [] (written_plainly (shortest4 (winners cs))) (length f.reply)).end.list =
      rw ((empty {A = A} {cs = cs} {s = s} f), shortened_bytes s) at f.runs.list in
      let told = rw ((empty {A = A} {cs = cs} {s = s} f), shortened_bytes s) at f.runs.answer in
      record {
        cleared = f.clears.answer ∙ rw (f.same, (on_table s).size);
        list = (run v4 A [] (written_plainly (shortest4 (winners cs))) (length f.reply)).end.list;
        table = left;
        routes = ap length (whole {A = A} {cs = cs} {s = s} f).list ∙ plain_many (shortest4 (winners cs));
        forwards = shortest-forwards A (winners cs) (length f.reply) (won s) (on_table s).room s.default s.small
            f.enough;
        taken = ap (λ (x : Fields). x.refusal) told;
        stop = ap (λ (x : Fields). x.stop) told ∙ (whole {A = A} {cs = cs} {s = s} f).stop;
        accepted = ap (λ (x : Fields). x.accepted) told ∙ (whole {A = A} {cs = cs} {s = s} f).accepted;
        refused = ap (λ (x : Fields). x.refused) told ∙ (whole {A = A} {cs = cs} {s = s} f).refused;
      }
