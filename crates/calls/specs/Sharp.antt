-- How sharp the contracts are, for each public call of a family: two outcomes that its contract allows on the same input agree,
-- in the answer and in what the lent words are seen to be, and byte for byte; refused, they agree in every word. Assumes nothing.
--
--     what no contract fixes: the layout of words that stand for one list, so words are compared by what they are seen to be,
--     and no later call tells two layouts apart (layout_unseen); and, at write_out, the buffer past the part that it returns
--     (fill fixes it)
use Rattle.std.specs.Prelude.{◌≡◌, List, ℕ, length, Result}
use Rattle.std.proofs.Common.{sym, ◌∙◌}
use Rattle.routes.specs.Family.{Family, levels, width}
use Rattle.routes.specs.Answers.{Reply}
use Rattle.candidates.specs.Candidate.{Candidate}
use Rattle.candidates.specs.Answers.{Update, Record}
use Rattle.candidates.specs.Seen.{table, lookup_on, check_on, count_on, front_on}
use Rattle.words.specs.Table.{seen}
use Rattle.audit.specs.Answer.{check_answer, HasCleared}
use Rattle.audit.specs.Sharp as audit
use Rattle.audit.specs.declared.Counts.{Counts}
use Rattle.refusals.specs.declared.Refusal.{Refusal}
use Rattle.refusals.specs.Number.{said}
use Rattle.replies.specs.Said.{said_reply, reply_one}
use Rattle.replies.specs.declared.Reply as code
use Rattle.lookup.specs.Walk.{walk}
use Rattle.inside.specs.Seen.{within_on}
use Rattle.within.specs.Walk as total
use Rattle.within.specs.Answer.{within_answer, within_one}
use Rattle.update.specs.Update.{HasUpdated}
use Rattle.update.specs.Sharp as update
use Rattle.writing.specs.Answer as writing
use Rattle.feed.specs.Runs.{Ran, HasRun}
use Rattle.feed.specs.Sharp as feed
use Rattle.feed.specs.Series.{Series, all_answered}

-- ---- clear, check

pub clear_agrees : (F : Family) (ws vs vs' : List ℕ) (r r' : Result (Unit {0}) Refusal) → HasCleared (levels F) ws vs r
    → HasCleared (levels F) ws vs' r'
    → audit.Agree (levels F) vs vs' r r'
clear_agrees F ws vs vs' r r' p q = audit.clear_sharp (levels F) ws vs vs' r r' p q

pub check_agrees : (F : Family) (ws : List ℕ) (r r' : Result Counts Refusal)
    → check_answer r ≡ check_on (width F) (seen (levels F) ws)
    → check_answer r' ≡ check_on (width F) (seen (levels F) ws) → r ≡ r'
check_agrees F ws r r' p q = audit.check_sharp (check_on (width F) (seen (levels F) ws)) r r' p q

-- ---- lookup: on a table by its list, on other words by the layout's walk over them

pub lookup_agrees : (F : Family) (ws : List ℕ) (a : ℕ) (r r' : code.Reply)
    → said_reply r ≡ lookup_on (width F) (seen (levels F) ws) (walk (levels F) ws a) a
    → said_reply r' ≡ lookup_on (width F) (seen (levels F) ws) (walk (levels F) ws a) a → r ≡ r'
lookup_agrees F ws a r r' p q = reply_one r r' (p ∙ sym q)

-- ---- within: on a table by its list, on other words by the layout's walk over them

pub within_agrees : (F : Family) (ws : List ℕ) (a l : ℕ) (r r' : Result ℕ Refusal)
    → within_answer r ≡ within_on (width F) (seen (levels F) ws) (total.walk (levels F) ws a l) a l
    → within_answer r' ≡ within_on (width F) (seen (levels F) ws) (total.walk (levels F) ws a l) a l → r ≡ r'
within_agrees F ws a l r r' p q = within_one r r' (p ∙ sym q)

-- ---- announce, withdraw

pub update_agrees : (F : Family) (ws : List ℕ) (u : Update) (vs vs' : List ℕ) (r r' : code.Reply)
    → HasUpdated (levels F) ws vs u r
    → HasUpdated (levels F) ws vs' u r'
    → update.Agree (levels F) vs vs' r r'
update_agrees F ws u vs vs' r r' p q = update.sharp (levels F) ws vs vs' u r r' p q

-- ---- count, fill, write_out

pub count_agrees : (F : Family) (ws : List ℕ) (room : ℕ) (r r' : Result ℕ Refusal)
    → writing.count_answer r ≡ count_on F (seen (levels F) ws) room
    → writing.count_answer r' ≡ count_on F (seen (levels F) ws) room → r ≡ r'
count_agrees F ws room r r' p q = writing.count_sharp F (seen (levels F) ws) room r r' p q

pub fill_agrees : (F : Family) (ws b : List ℕ) (n n' : ℕ) (c c' : List ℕ) → writing.HasFilled F (seen (levels F) ws) b n c
    → writing.HasFilled F (seen (levels F) ws) b n' c' → (n ≡ n') × (c ≡ c')
fill_agrees F ws b n n' c c' p q = writing.fills_sharp F (seen (levels F) ws) b n n' c c' p q

-- so do its answers, refused ones too
pub fill_answers_agree : (F : Family) (ws b : List ℕ) (r r' : Result ℕ Refusal) (c c' : List ℕ)
    → said r ≡ count_on F (seen (levels F) ws) (length b)
    → writing.HasFilled F (seen (levels F) ws) b (writing.bytes_put r) c
    → said r' ≡ count_on F (seen (levels F) ws) (length b)
    → writing.HasFilled F (seen (levels F) ws) b (writing.bytes_put r') c' → (r ≡ r') × (c ≡ c')
fill_answers_agree F ws b r r' c c' x p y q = writing.fill_sharp F (seen (levels F) ws) b r r' c c' x p y q

pub write_out_agrees : (F : Family) (ws b front front' : List ℕ) → front ≡ front_on F (seen (levels F) ws) (length b)
    → front' ≡ front_on F (seen (levels F) ws) (length b) → front ≡ front'
write_out_agrees F ws b front front' p q = p ∙ sym q

-- ---- run

pub run_agrees : (F : Family) (ws bytes b vs c : List ℕ) (r : Ran) (vs' c' : List ℕ) (r' : Ran) → HasRun F ws bytes b vs c r
    → HasRun F ws bytes b vs' c' r' → feed.Agree F vs c r vs' c' r'
run_agrees F ws bytes b vs c r vs' c' r' p q = feed.sharp F ws bytes b vs c r vs' c' r' p q

-- ---- the layout

-- tables of one list answer any calls alike, and are left alike, however they are laid out
pub layout_unseen : (F : Family) (A : ℕ) (cs : List Candidate) {ws ws' vs vs' : List ℕ} {xs : List Record} {ys ys' : List Reply}
    → seen (levels F) ws ≡ table A cs → seen (levels F) ws' ≡ table A cs
    → Series (levels F) ws xs ys vs → Series (levels F) ws' xs ys' vs' → (ys ≡ ys') × (seen (levels F) vs ≡ seen (levels F) vs')
layout_unseen F A cs t t' s s' =
    let p = all_answered (levels F) A cs t s in
    let q = all_answered (levels F) A cs t' s' in
    (p.answers ∙ sym q.answers, p.list ∙ sym q.list)
