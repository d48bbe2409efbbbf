-- From each call of the C face to the Rattle call below it: where the C call's promise holds of some numbers, there is an answer
-- of the call below that tells these numbers, and for which its promise holds. So what is stated of the Rattle calls holds of the
-- exported ones. The names are those of IPv4; toggleash_v6_run and the others promise the same of their family. Assumes nothing.
--
--     toggleash_run   its promise holds of the numbers n
--          │
--         run         its promise holds of an answer r, and r tells n
use Rattle.std.specs.Prelude.{◌≡◌, refl, true, List, ◌++◌, ℕ, zero, suc, ◌-◌, ◌*◌, length, drop, ltb, eqb, Result, Ok, Err}
use Rattle.std.proofs.Common.{sym, ap, ◌∙◌}
use Rattle.logic.specs.Cases.{bool}
use Rattle.std.proofs.lemmas.Bool.{false≢true}
use Rattle.routes.specs.Family.{Family, levels, width}
use Rattle.routes.specs.Answers.{Reply, done, found, none, refused, is_refused}
use Rattle.routes.specs.Seen.{Answer, gives, refuses, Counts}
use Rattle.candidates.specs.Answers.{Update}
use Rattle.candidates.specs.Runs.{Ran as Outcome}
use Rattle.candidates.specs.Seen.{Seen, misfit, foreign, table, misfits, bytes_for}
use Rattle.candidates.specs.Seen.{answer_on, lookup_on, clear_on, check_on, count_on, front_on, run_on}
use Rattle.words.specs.Table.{seen}
use Rattle.audit.specs.Answer as audit
use Rattle.audit.specs.declared.Counts.{Counts as Counted_so}
use Rattle.refusals.specs.declared.Refusal.{Refusal}
use Rattle.refusals.specs.Number.{number, refusal_of, said}
use Rattle.replies.specs.Said.{said_reply, reply_of, said_back}
use Rattle.lookup.specs.Walk.{walk}
use Rattle.inside.specs.Inside.{prefixes_inside}
use Rattle.inside.specs.Seen.{asked, within_on}
use Rattle.routes.specs.Route.{too_long, stray}
use Rattle.routes.specs.Room.{level}
use Rattle.numbers.specs.Front.{byte_of}
use Rattle.sizes.specs.Sizes.{last_slot}
use Rattle.words.specs.Words.{arrays_of, array_count, totals_of}
use Rattle.within.specs.Walk as total
use Rattle.within.specs.Answer.{within_answer}
use Rattle.update.specs.Update as update
use Rattle.writing.specs.Answer.{count_answer, HasFilled, front_length, front_none}
use Rattle.feed.specs.Runs as feed
use Rattle.answers.specs.Numbers.{refusal, counted, looked, totalled, updated, wrote, ran}
use Rattle.toggleash.specs.Face.{HasCleared, HasUpdated, HasWritten, HasRun}
use Rattle.answers.specs.declared.Counted.{Counted}
use Rattle.answers.specs.declared.Found.{Found}
use Rattle.answers.specs.declared.Total.{Total}
use Rattle.answers.specs.declared.Updated.{Updated}
use Rattle.answers.specs.declared.Written.{Written}
use Rattle.answers.specs.declared.Ran.{Ran as Fields}

-- an answer of the call below tells the numbers n, and its promise P holds of that answer
pub record Below {T N : Type 0} (numbers : T → N) (P : T → Type 0) (n : N) : Type 0 where
  pub answer : T
  pub told : n ≡ numbers answer
  pub promise : P answer

-- ---- answers as results

-- a refusal by its name
abbrev as_result : {T : Type 0} → Answer T → Result T Refusal
as_result (gives x) = Ok x
as_result (refuses n) = Err (refusal_of n)

-- the number of a refusal has a name
abbrev Named : {T : Type 0} → Answer T → Type 0
Named (gives x) = Unit {0}
Named (refuses n) = number (refusal_of n) ≡ n

result_back : {T : Type 0} (a : Answer T) → Named a → said (as_result a) ≡ a
result_back (gives x) n = refl
result_back (refuses m) n = ap refuses n

-- ---- toggleash_clear, toggleash_check

clear_back : (n : ℕ) → audit.clear_answer (as_result (clear_on n)) ≡ clear_on n
clear_back n = result_back (clear_on n) (bool (misfits n) (λ e. rw e refl) (λ e. rw e tt))

pub clear_below : (F : Family) (ws vs : List ℕ) (n : ℕ) → HasCleared F ws vs n
    → Below (λ r. refusal (audit.clear_answer r)) (audit.HasCleared (levels F) ws vs) n
clear_below F ws vs n p =
    let e = clear_back (length ws) in
    record {
      answer = as_result (clear_on (length ws));
      told = p.answer ∙ ap refusal (sym e);
      promise = record { answer = e; left = p.left; kept = λ m q. p.kept m (sym e ∙ q) };
    }

abbrev as_checked : Answer Counts → Result Counted_so Refusal
as_checked (gives c) = Ok (record { routes = c.routes; arrays = c.arrays })
as_checked (refuses n) = Err (refusal_of n)

check_back : (W : ℕ) (s : Seen) → audit.check_answer (as_checked (check_on W s)) ≡ check_on W s
check_back W misfit = refl
check_back W foreign = refl
check_back W (table A cs) = refl

pub check_below : (F : Family) (ws : List ℕ) (r : Counted) → r ≡ counted (check_on (width F) (seen (levels F) ws))
    → Below (λ c. counted (audit.check_answer c)) (λ c. audit.check_answer c ≡ check_on (width F) (seen (levels F) ws)) r
check_below F ws r p =
    let e = check_back (width F) (seen (levels F) ws) in
    record { answer = as_checked (check_on (width F) (seen (levels F) ws)); told = p ∙ ap counted (sym e); promise = e }

-- ---- toggleash_lookup

pub lookup_below : (F : Family) (ws : List ℕ) (a : ℕ) (r : Found)
    → r ≡ looked (lookup_on (width F) (seen (levels F) ws) (walk (levels F) ws a) a)
    → Below (λ m. looked (said_reply m)) (λ m. said_reply m ≡ lookup_on (width F) (seen (levels F) ws) (walk (levels F) ws a) a) r
lookup_below F ws a r p =
    let y : Reply = lookup_on (width F) (seen (levels F) ws) (walk (levels F) ws a) a in
    record { answer = reply_of y; told = p ∙ ap looked (sym (said_back y)); promise = said_back y }

-- ---- toggleash_within

walk_named : (L : ℕ) (ws : List ℕ) (x s k n a : ℕ) → Named (total.walk_from L ws x s k n a)
unfolding total.walk_from
walk_named L ws x s k zero a = bool (ltb (last_slot * array_count ws) (totals_of ws a s)) (λ e. rw e refl) (λ e. rw e tt)
walk_named L ws x s k (suc n) a =
    let c = (arrays_of ws).link a (byte_of L x (k - suc n)) in
    bool (eqb c 0)
    (λ e. rw e tt)
    (λ e. bool (ltb (array_count ws) c) (λ d. rw (e, d) refl) (λ d. rw (e, d) (walk_named L ws x s k n c)))

asked_named : (W a l : ℕ) (y : Answer ℕ) → Named y → Named (asked W a l y)
asked_named W a l y n =
    bool (too_long W l) (λ e. rw e refl) (λ e. bool (stray W a l) (λ d. rw (e, d) refl) (λ d. rw (e, d) n))

within_named : (W : ℕ) (s : Seen) (y : Answer ℕ) (a l : ℕ) → Named y → Named (within_on W s y a l)
within_named W misfit y a l n = refl
within_named W foreign y a l n = asked_named W a l y n
within_named W (table A cs) y a l n = asked_named W a l (gives (prefixes_inside W cs a l)) tt

pub within_below : (F : Family) (ws : List ℕ) (a l : ℕ) (r : Total)
    → r ≡ totalled (within_on (width F) (seen (levels F) ws) (total.walk (levels F) ws a l) a l)
    → Below (λ m. totalled (within_answer m))
    (λ m. within_answer m ≡ within_on (width F) (seen (levels F) ws) (total.walk (levels F) ws a l) a l) r
within_below F ws a l r p =
    let y : Answer ℕ = within_on (width F) (seen (levels F) ws) (total.walk (levels F) ws a l) a l in
    let n = within_named (width F) (seen (levels F) ws) (total.walk (levels F) ws a l) a l
    (walk_named (levels F) ws a _ (level l) (level l) 1) in
    let e = result_back y n in
    record { answer = as_result y; told = p ∙ ap totalled (sym e); promise = e }

-- ---- toggleash_announce, toggleash_withdraw

pub update_below : (F : Family) (ws vs : List ℕ) (u : Update) (r : Updated) → HasUpdated F ws vs u r
    → Below (λ m. updated (said_reply m)) (update.HasUpdated (levels F) ws vs u) r
update_below F ws vs u r p =
    let y : Reply = answer_on (width F) (seen (levels F) ws) u in
    let e = said_back y in
    record {
      answer = reply_of y;
      told = p.answer ∙ ap updated (sym e);
      promise = record {
        answer = e;
        list = p.list;
        kept = λ q. kept y refl (sym (ap is_refused e) ∙ q);
        still = p.still;
        frame = p.frame;
        words = p.words;
      };
    }
  where
    kept : (y : Reply) → answer_on (width F) (seen (levels F) ws) u ≡ y → is_refused y ≡ true → vs ≡ ws
    kept (done h c) e q = absurd (false≢true q)
    kept (found h l k) e q = absurd (false≢true q)
    kept (none k) e q = absurd (false≢true q)
    kept (refused n) e q = p.kept n e

-- ---- toggleash_write_out

size_back : (F : Family) (s : Seen) (room : ℕ) → count_answer (as_result (count_on F s room)) ≡ count_on F s room
size_back F misfit room = refl
size_back F foreign room = refl
size_back F (table A cs) room = bool (ltb room (bytes_for F (length cs))) (λ e. rw e refl) (λ e. rw e refl)

-- two calls stand below it: the count, and the fill
pub write_below : (F : Family) (ws b c : List ℕ) (r : Written) → HasWritten F ws b c r
    → Below (λ t. wrote (count_answer t))
    (λ t. (count_answer t ≡ count_on F (seen (levels F) ws) (length b)) × HasFilled F (seen (levels F) ws) b r.bytes c) r
write_below F ws b c r p =
    let e = size_back F (seen (levels F) ws) (length b) in
    record {
      answer = as_result (count_on F (seen (levels F) ws) (length b));
      told = p.answer ∙ ap wrote (sym e);
      promise = (
        e,
        record { count = many; list = p.front ∙ ap (λ (n : ℕ). front ++ drop n b) (sym many) },
      );
    }
  where
    front : List ℕ
    front = front_on F (seen (levels F) ws) (length b)

    long : (a : Answer ℕ) → count_on F (seen (levels F) ws) (length b) ≡ a → (wrote a).bytes ≡ length front
    long (gives n) e = sym (front_length F (seen (levels F) ws) (length b) n e)
    long (refuses n) e = sym (ap length (front_none F (seen (levels F) ws) (length b) n e))

    many : r.bytes ≡ length front
    many = ap (λ (x : Written). x.bytes) p.answer ∙ long (count_on F (seen (levels F) ws) (length b)) refl

-- ---- toggleash_run

ran_back : (F : Family) (s : Seen) (bytes b : List ℕ)
    → feed.run_answer (as_result (feed.reported (run_on F s bytes b))) ≡ feed.reported (run_on F s bytes b)
ran_back F misfit bytes b = refl
ran_back F foreign bytes b = refl
ran_back F (table A cs) bytes b = refl

pub run-below : (F : Family) (ws bytes b vs c : List ℕ) (r : Fields) → HasRun F ws bytes b vs c r
    → Below (λ t. ran (feed.run_answer t)) (feed.HasRun F ws bytes b vs c) r
run-below F ws bytes b vs c r p =
    let e = ran_back F (seen (levels F) ws) bytes b in
    record {
      answer = as_result (feed.reported (run_on F (seen (levels F) ws) bytes b));
      told = p.answer ∙ ap ran (sym e);
      promise = record {
        answer = e;
        list = p.list;
        replies = p.replies;
        kept = λ f q. kept (run_on F (seen (levels F) ws) bytes b) f refl q;
        series = p.series;
        words = p.words;
      };
    }
  where
    kept : (a : Answer Outcome) (f : Refusal) → run_on F (seen (levels F) ws) bytes b ≡ a → as_result (feed.reported a) ≡ Err f
        → vs ≡ ws
    kept (gives o) f e q = absurd (cc)
    kept (refuses m) f e q = p.kept m e
