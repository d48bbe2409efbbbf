-- What announce_local and withdraw_local promise, on any words: they test what the update itself touches, and no more. Assumes
-- nothing.
--
--     the words                    the answer                                  the words afterwards
--     a table of L levels          that of the call that tests all of it       those that this call promises
--     any others                   `local_answer`: refused with the first of    `local_words`: as they were where it is refused;
--                                  1, 3, 4, 5, 10, 2, 7 and 8 that applies,    else the arrays of the path, those gained or
--                                  or done                                     freed and the header may differ
use Rattle.std.specs.Prelude.{◌≡◌, refl, ◌≢◌, Bool, true, false, cond, List, ℕ, ◌*◌, ◌≤◌, length}
use Rattle.std.proofs.Common.{sym, ◌∙◌, true≢false, arith, ne_eqb}
use Rattle.routes.specs.Answers.{is_refused}
use Rattle.candidates.specs.Answers.{Update}
use Rattle.candidates.specs.Seen.{misfits}
use Rattle.words.specs.Words.{arrays_of}
use Rattle.words.specs.TableBut.{Table}
use Rattle.words.specs.CheckReflects.{Fits}
use Rattle.words.specs.View.{fits_no_misfit, no_misfit_fits, table_fits}
use Rattle.paths.specs.Alike.{Alike}
use Rattle.replies.specs.Said.{said_reply}
use Rattle.replies.specs.declared.Reply.{Reply}
use Rattle.replies.specs.declared.Reply.TheVariants.{Refused}
use Rattle.logic.specs.Cases.{bool}
use Rattle.refusals.specs.Number.{number}
use Rattle.refusals.specs.declared.Refusal.{Refusal}
use Rattle.update.specs.Fault.{fault_of, number_some}
use Rattle.update.specs.Update.{HasUpdated}
use Rattle.update.specs.Refuse.{refuses_table, applied}
use Rattle.update.specs.Anywhere.{OffPath, local_fault, local_answer, local_words}
use Rattle.update.specs.Local.{AppliedAny}

-- any words ws become vs by an update
pub record HasUpdatedLocally (L : ℕ) (ws vs : List ℕ) (u : Update) (r : Reply) : Type 0 where
  pub answer : said_reply r ≡ local_answer L ws u
  pub words : vs ≡ local_words L ws u
  pub size : length vs ≡ length ws
  pub kept : is_refused (said_reply r) ≡ true → vs ≡ ws
  pub spared : (c : ℕ) → 1 ≤ c → OffPath L ws u c → (arrays_of vs).tag c ≡ (arrays_of ws).tag c → Alike ws vs c
  pub table : Table L ws → HasUpdated L ws vs u r

-- the number of the fault of a size that misfits, or does not
abbrev pub fault_at : Bool → ℕ
fault_at m = cond m 1 0

module _ (L : ℕ) (ws : List ℕ) (u : Update) where
  left : (n : ℕ) → local_fault L ws u ≡ n → n ≢ 0 → (Table L ws → HasUpdated L ws ws u (Refused n))
      → HasUpdatedLocally L ws ws u (Refused n)
  left n e z t = record {
    answer = rw (e, ne_eqb n 0 z);
    words = rw (e, ne_eqb n 0 z);
    size = refl;
    kept = λ _. refl;
    spared = λ c h n t i b. refl;
    table = t;
  }

  -- 1
  pub locally_size : misfits (length ws) ≡ true → HasUpdatedLocally L ws ws u (Refused 1)
  locally_size m =
      left 1 (rw m) (λ z. omega arith) (λ t. absurd (true≢false (sym m ∙ fits_no_misfit (length ws) (table_fits L ws t))))

  -- 3, 4, 5, 10
  pub locally_fault : (n : ℕ) → misfits (length ws) ≡ false → n ≡ fault_of (8 * L) u → n ≢ 0
      → HasUpdatedLocally L ws ws u (Refused n)
  locally_fault n m e z =
      left n (rw (m, ← e, ne_eqb n 0 z)) z (λ t. refuses_table L ws u n t e z)

  -- the work
  pub locally_applied : (vs : List ℕ) (r : Reply) → misfits (length ws) ≡ false → fault_of (8 * L) u ≡ 0
      → AppliedAny L ws vs u r → HasUpdatedLocally L ws vs u r
  locally_applied vs r m f p = record {
    answer = rw (m, f) p.answer;
    words = rw (m, f) p.words;
    size = p.size;
    kept = p.kept;
    spared = p.spared;
    table = λ t. applied L ws vs u r t f (p.table t) p.words;
  }

-- ---- by the numbers of the faults that were looked for

pub size_fits : (n : ℕ) → fault_at (misfits n) ≡ 0 → Fits n
size_fits n q = bool (misfits n) (λ m. absurd (omega (arith, rw m at q))) (no_misfit_fits n)

size_right : (n : ℕ) → fault_at (misfits n) ≡ 0 → misfits n ≡ false
size_right n q = fits_no_misfit n (size_fits n q)

module _ {L : ℕ} {ws : List ℕ} {u : Update} (q : fault_at (misfits (length ws)) ≡ 0) where
  pub locally_faulty : (e : Refusal) → number e ≡ fault_of (8 * L) u → HasUpdatedLocally L ws ws u (Refused (number e))
  locally_faulty e f = locally_fault L ws u (number e) (size_right (length ws) q) f (number_some e)

  -- none: the work's promise
  pub locally_tried : {vs : List ℕ} {r : Reply} → fault_of (8 * L) u ≡ 0 → AppliedAny L ws vs u r → HasUpdatedLocally L ws vs u r
  locally_tried {vs} {r} f p = locally_applied L ws u vs r (size_right (length ws) q) f p
