-- What the run's promise comes to: two outcomes that it allows agree, reply bytes past those written stay, and what is
-- written fits. Assumes nothing.
use Rattle.std.specs.Prelude.{◌≡◌, refl, List, ℕ, ◌≤◌, length, drop, Ok, Err}
use Rattle.std.proofs.Common.{sym, ap, ◌∙◌, arith, length-append, length-drop, drop_at}
use Rattle.routes.specs.Family.{Family, levels}
use Rattle.candidates.specs.Runs.{run}
use Rattle.candidates.specs.Seen.{Seen, misfit, foreign, table, run_on, replied_on}
use Rattle.words.specs.Table.{seen}
use Rattle.refusals.specs.Number.{said_one}
use Rattle.refusals.specs.declared.Refusal.{Refusal}
use Rattle.feed.specs.Runs.{Ran, run_answer, reported, HasRun}

-- ---- two outcomes agree

-- one answer, the same reply bytes, the same list; and, where refused, the same words
pub record Agree (F : Family) (vs c : List ℕ) (r : Ran) (vs' c' : List ℕ) (r' : Ran) : Type 0 where
  pub answer : r ≡ r'
  pub replies : c ≡ c'
  pub list : seen (levels F) vs ≡ seen (levels F) vs'
  pub words : (n : Refusal) → r ≡ Err n → vs ≡ vs'

pub sharp : (F : Family) (ws feed b vs c : List ℕ) (r : Ran) (vs' c' : List ℕ) (r' : Ran)
    → HasRun F ws feed b vs c r → HasRun F ws feed b vs' c' r' → Agree F vs c r vs' c' r'
sharp F ws feed b vs c r vs' c' r' p q =
    let e : r ≡ r' = said_one r r' (p.answer ∙ sym q.answer) in
    record {
      answer = e;
      replies = p.replies ∙ sym q.replies;
      list = p.list ∙ sym q.list;
      words = λ n z. p.kept n z ∙ sym (q.kept n (sym e ∙ z));
    }

-- ---- what is not written stays

-- the reply bytes written
abbrev pub written_by : Ran → ℕ
written_by (Ok r) = r.written
written_by (Err n) = 0

untouched : (F : Family) (s : Seen) (feed b : List ℕ) (r : Ran) → run_answer r ≡ reported (run_on F s feed b)
    → drop (written_by r) (replied_on F s feed b) ≡ drop (written_by r) b
untouched F misfit feed b r e = refl
untouched F foreign feed b r e = refl
untouched F (table A cs) feed b (Ok r) e =
    let xs = (run F A cs feed (length b)).end.replies in
    let n : r.written ≡ length xs = cc in
    rw n (drop_at xs (drop (length xs) b) (length xs) refl)
untouched F (table A cs) feed b (Err n) e = let z : ◌≡◌ {A = ℕ} 0 1 = cc in absurd (omega arith)

pub stays : (F : Family) (ws feed b vs c : List ℕ) (r : Ran) → HasRun F ws feed b vs c r
    → drop (written_by r) c ≡ drop (written_by r) b
stays F ws feed b vs c r p = ap (drop (written_by r)) p.replies ∙ untouched F (seen (levels F) ws) feed b r p.answer

-- ---- what is written fits

fitting : (F : Family) (s : Seen) (feed b : List ℕ) (r : Ran) → run_answer r ≡ reported (run_on F s feed b)
    → length (replied_on F s feed b) ≡ length b → written_by r ≤ length b
fitting F s feed b (Err n) e l = omega arith
fitting F misfit feed b (Ok r) e l = let z : ◌≡◌ {A = ℕ} 0 1 = cc in absurd (omega arith)
fitting F foreign feed b (Ok r) e l = let z : ◌≡◌ {A = ℕ} 0 1 = cc in absurd (omega arith)
fitting F (table A cs) feed b (Ok r) e l =
    let xs = (run F A cs feed (length b)).end.replies in
    let n : r.written ≡ length xs = cc in
    omega (arith, length-append xs (drop (length xs) b), length-drop (length xs) b)

-- a lent slice keeps its length
pub fits : (F : Family) (ws feed b vs c : List ℕ) (r : Ran) → HasRun F ws feed b vs c r → length c ≡ length b
    → written_by r ≤ length c
fits F ws feed b vs c r p l =
    omega (arith, fitting F (seen (levels F) ws) feed b r p.answer (sym (ap length p.replies) ∙ l))
