-- What a run leaves of the words that it is lent: a lookup and a refused record leave every word, and so does a run that accepts
-- nothing. Assumes nothing.
use Rattle.std.specs.Prelude.{◌≡◌, refl, false, List, [], ◌∷◌, ℕ, ◌+◌, ◌*◌, length, Ok, Err}
use Rattle.std.proofs.Common.{sym, ap, ◌∙◌, arith}
use Rattle.routes.specs.Family.{Family, levels}
use Rattle.routes.specs.Answers.{Reply, done, found, none, refused, is_done, count}
use Rattle.candidates.specs.Answers.{Record}
use Rattle.candidates.specs.Runs.{run}
use Rattle.candidates.specs.Seen.{Seen, misfit, foreign, table, run_on, answers_on}
use Rattle.encoded.specs.Taken.{run_came}
use Rattle.words.specs.Table.{seen}
use Rattle.update.specs.Refuse.{unaccepted}
use Rattle.feed.specs.Series.{Asked, updated, looked, Series, nothing, more}
use Rattle.feed.specs.Runs.{Ran, run_answer, reported, HasRun}

-- ---- one record

-- a record that is not accepted, a lookup among them, leaves every word
pub asked-kept : {L : ℕ} {ws vs : List ℕ} {x : Record} {y : Reply} → Asked L ws x y vs → is_done y ≡ false → vs ≡ ws
asked-kept {L} {ws} (updated {u} r p) e =
    p.still (p.list ∙ unaccepted (8 * L) (seen L ws) u (sym (ap is_done p.answer) ∙ e))
asked-kept (looked r p) e = refl

-- ---- all of them

counted : (y : Reply) (n : ℕ) → count is_done (y ∷ []) + n ≡ 0 → is_done y ≡ false
counted (done h c) n e = absurd (omega arith)
counted (found h l q) n e = refl
counted (none q) n e = refl
counted (refused m) n e = refl

pub series_kept : {L : ℕ} {ws vs : List ℕ} {xs : List Record} {ys : List Reply} → Series L ws xs ys vs → count is_done ys ≡ 0
    → vs ≡ ws
series_kept nothing e = refl
series_kept (more {y = y} {ys = ys} a s) e =
    series_kept s (omega arith) ∙ asked-kept a (counted y (count is_done ys) (omega arith))

-- ---- a run

-- the updates that it says it accepted
abbrev pub accepted_by : Ran → ℕ
accepted_by (Ok r) = r.accepted
accepted_by (Err n) = 0

accepted_count : (F : Family) (s : Seen) (feed b : List ℕ) (r : Ran) → run_answer r ≡ reported (run_on F s feed b)
    → accepted_by r ≡ count is_done (answers_on F s feed b)
accepted_count F misfit feed b (Ok r) e = let z : ◌≡◌ {A = ℕ} 0 1 = cc in absurd (omega arith)
accepted_count F foreign feed b (Ok r) e = let z : ◌≡◌ {A = ℕ} 0 1 = cc in absurd (omega arith)
accepted_count F (table A cs) feed b (Ok r) e =
    let n : r.accepted ≡ (run F A cs feed (length b)).end.accepted = cc in
    omega (arith, n, (run_came F A cs feed (length b)).accepted)
accepted_count F misfit feed b (Err n) e = refl
accepted_count F foreign feed b (Err n) e = refl
accepted_count F (table A cs) feed b (Err n) e = let z : ◌≡◌ {A = ℕ} 0 1 = cc in absurd (omega arith)

-- nothing accepted, nothing changed
pub unaccepted_kept : (F : Family) (ws feed b vs c : List ℕ) (r : Ran) → HasRun F ws feed b vs c r → accepted_by r ≡ 0 → vs ≡ ws
unaccepted_kept F ws feed b vs c r p e =
    series_kept p.series (sym (accepted_count F (seen (levels F) ws) feed b r p.answer) ∙ e)
