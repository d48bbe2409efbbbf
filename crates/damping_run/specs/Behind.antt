-- What a run through a front does to the table's words, as they are seen, a run without the front does to them: of a feed without
-- ticks, made of the records passed on and of what the ticks install. So demands 2 and 3, which are of such runs, read of the
-- table behind a front. Assumes nothing.
use Rattle.std.specs.Prelude.{◌≡◌, List, ℕ, ◌*◌, ◌≤◌, length}
use Rattle.std.proofs.Common.{sym, ap, ◌∙◌}
use Rattle.numbers.specs.Number.{AreBytes}
use Rattle.routes.specs.Family.{v4}
use Rattle.candidates.specs.Candidate.{Candidate}
use Rattle.candidates.specs.Answers.{Record}
use Rattle.candidates.specs.Seen.{table, ran_on}
use Rattle.words.specs.Table.{seen}
use Rattle.feed.specs.Runs as plain
use Rattle.feed.specs.Runs.{Ran}
use Rattle.front.specs.Front.{both}
use Rattle.front.specs.Seen.{ran_behind}
use Rattle.restraint.specs.Fed.{fed, behind}
use Rattle.restraint.proofs.Fed.{as_without}
use Rattle.rows.specs.Row.{places_of, IsWords}
use Rattle.damping.specs.View.{seen_front_lem}
use Rattle.damping_run.specs.Runs.{standing, HasRun}

-- of a table of A arrays with the candidates cs
module _ (fs feed b : List ℕ) (A : ℕ) (cs : List Candidate) where
  abbrev pub records_behind : List Record
  records_behind = behind A (both cs (places_of fs)) feed (length b)

  -- that feed
  abbrev pub fed_behind : List ℕ
  fed_behind = fed records_behind

-- with reply bytes d enough for it: five for each record
module _ (fs ws feed b : List ℕ) (ok : AreBytes feed) (w : IsWords fs) (A : ℕ) (cs : List Candidate) (t : seen 4 ws ≡ table A cs)
    (d : List ℕ) (h : 5 * length (records_behind fs feed b A cs) ≤ length d) where
  pub behind_without : ran_behind (standing fs ws) (seen 4 ws) feed b ≡ ran_on v4 (seen 4 ws) (fed_behind fs feed b A cs) d
  behind_without =
      rw (seen_front_lem fs w, t)
      (ap (table A) (as_without A (both cs (places_of fs)) feed (length b) (length d) ok w.front h))

  -- the words are left as any run of it without the front leaves them
  pub left_without : (gs vs c : List ℕ) (r : Ran) → HasRun fs ws feed b gs vs c r
      → (us e : List ℕ) (s : Ran) → plain.HasRun v4 ws (fed_behind fs feed b A cs) d us e s → seen 4 vs ≡ seen 4 us
  left_without gs vs c r p us e s q = p.list ∙ behind_without ∙ sym q.list
