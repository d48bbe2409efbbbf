-- What toggleash_damp_run does to the table's words, as they are seen, a run without the front does to them: of the feed without
-- ticks that is made of the records passed on and of what the ticks install. So demands 2 and 3 read of the table behind this
-- call. Assumes nothing.
use Rattle.std.specs.Prelude.{◌≡◌, List, ℕ, ◌*◌, ◌≤◌, length}
use Rattle.std.proofs.Common.{sym, ◌∙◌}
use Rattle.numbers.specs.Number.{AreBytes}
use Rattle.routes.specs.Family.{v4}
use Rattle.candidates.specs.Candidate.{Candidate}
use Rattle.candidates.specs.Seen.{table, ran_on}
use Rattle.words.specs.Table.{seen}
use Rattle.feed.specs.Runs as plain
use Rattle.feed.specs.Runs.{Ran}
use Rattle.rows.specs.Row.{IsWords}
use Rattle.damping_run.specs.Behind.{records_behind, fed_behind, behind_without}
use Rattle.damper.specs.Face.{HasRun}
use Rattle.answers.specs.declared.Ran.{Ran as Fields}

-- the words ws are a table of A arrays with the candidates cs; the reply bytes d are enough for that feed
module _ (fs ws feed b gs vs c : List ℕ) (r : Fields) (p : HasRun fs ws feed b gs vs c r) (ok : AreBytes feed) (w : IsWords fs)
    (A : ℕ) (cs : List Candidate) (t : seen 4 ws ≡ table A cs) (d : List ℕ)
    (h : 5 * length (records_behind fs feed b A cs) ≤ length d) where
  pub seen_without : seen 4 vs ≡ ran_on v4 (seen 4 ws) (fed_behind fs feed b A cs) d
  seen_without = p.list ∙ behind_without fs ws feed b ok w A cs t d h

  -- as any run of it without the front leaves them
  pub left_without : (us e : List ℕ) (s : Ran) → plain.HasRun v4 ws (fed_behind fs feed b A cs) d us e s → seen 4 vs ≡ seen 4 us
  left_without us e s q = seen_without ∙ sym q.list
