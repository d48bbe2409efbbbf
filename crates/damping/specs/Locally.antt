-- What announce_local and withdraw_local promise, on any words: they test the front's words, and of the table's only what the
-- table's own call touches. Assumes nothing.
--
--     the first of 1, 3, 4, 5, 10 and 2 (no front)    both memories stay
--     else, a candidate that is held back             the front alone, by item 14; the table's words are not read
--     else                                            the table's local call, with its answer
use Rattle.std.specs.Prelude.{◌≡◌, refl, ◌≢◌, Bool, true, false, cond, List, ℕ, ◌<◌, eqb, length}
use Rattle.std.proofs.Common.{sym, ap, ◌∙◌, arith, eq-eqb, ne_eqb}
use Rattle.logic.specs.Cases.{bool, same}
use Rattle.routes.specs.Answers.{is_refused}
use Rattle.candidates.specs.Answers.{Update}
use Rattle.candidates.specs.Seen.{misfits}
use Rattle.words.specs.Table.{table_b}
use Rattle.words.specs.TableBut.{Table}
use Rattle.words.specs.View.{fits_no_misfit, table_fits}
use Rattle.words.specs.CheckReflects.{table_reflects}
use Rattle.replies.specs.Said.{said_reply}
use Rattle.replies.specs.declared.Reply as code
use Rattle.replies.specs.declared.Reply.TheVariants.{Refused}
use Rattle.update.specs.Fault.{fault_of}
use Rattle.rows.specs.Row.{row_at, front_b, IsWords}
use Rattle.rows.specs.Told.{words_to, words_from}
use Rattle.damping.specs.Work.{Damped, damped_words, damped_kept}
use Rattle.damping.specs.Update.{HasDamped, damped_table}
use Rattle.damping.specs.Refuse.{front_number, refusal_through, fault_sound, refused_by_lem}

-- the first number before the work, 0 where there is none: 1 for the size of the table's words, the fault f, 2 for words that
-- are no front
abbrev pub refusal_before : List ℕ → List ℕ → ℕ → ℕ
refusal_before fs ws f = cond (misfits (length ws)) 1 (cond (eqb f 0) (front_number fs) f)

-- any words fs and ws became gs and vs, and the update was answered r
pub record HasDampedLocally (fs ws gs vs : List ℕ) (u : Update) (r : code.Reply) : Type 0 where
  pub first : refusal_before fs ws (fault_of 32 u) ≢ 0 → r ≡ Refused (refusal_before fs ws (fault_of 32 u))
  pub work : refusal_before fs ws (fault_of 32 u) ≡ 0 → Damped fs ws gs vs u r
  pub kept : is_refused (said_reply r) ≡ true → (gs ≡ fs) × (vs ≡ ws)
  pub front : IsWords fs → IsWords gs
  -- on a table it is the call that tests all of it
  pub table : Table 4 ws → HasDamped fs ws gs vs u r

-- what is asked for by a call whose caller knows the front to be one, the size to be right, and perhaps the table
pub record Ready (fs ws : List ℕ) (known : Bool) : Type 0 where
  pub front : IsWords fs
  pub fits : misfits (length ws) ≡ false
  pub table : known ≡ true → Table 4 ws

-- ---- the numbers, one after the other

module _ (fs ws : List ℕ) (f : ℕ) where
  pub before-size : misfits (length ws) ≡ true → 1 ≡ refusal_before fs ws f
  before-size m = rw m

  module _ (m : misfits (length ws) ≡ false) where
    pub before_fault : f ≢ 0 → f ≡ refusal_before fs ws f
    before_fault z = rw (m, ne_eqb f 0 z)

    pub before_rest : (r : ℕ) → f ≡ 0 → r ≡ front_number fs → r ≡ refusal_before fs ws f
    before_rest r z y = rw (m, eq-eqb f 0 z) y

    pub before-front : f ≡ 0 → front_b fs ≡ false → 2 ≡ refusal_before fs ws f
    before-front z b = rw (m, eq-eqb f 0 z, b)

    pub before_none : f ≡ 0 → front_b fs ≡ true → 0 ≡ refusal_before fs ws f
    before_none z b = rw (m, eq-eqb f 0 z, b)

  -- no number, and what that says
  pub before_passed : ((i : ℕ) → (row_at fs i).a < 4294967296) → refusal_before fs ws f ≡ 0
      → IsWords fs × (misfits (length ws) ≡ false) × (f ≡ 0)
  before_passed small e =
      bool (misfits (length ws))
      (λ m. absurd (omega (arith, before-size m)))
      (λ m. same f 0
      (λ z _. bool (front_b fs) (λ b. (words_to fs small b, m, z)) (λ b. absurd (omega (arith, before-front m z b))))
      (λ z _. absurd (z (before_fault m z ∙ e))))

  -- on a table they are those of the call that tests all of it
  pub before_table : Table 4 ws → refusal_through fs ws f ≡ refusal_before fs ws f
  before_table t =
      let m = fits_no_misfit (length ws) (table_fits 4 ws t) in
      let b : table_b 4 ws ≡ true = (table_reflects 4 ws (omega arith) (omega arith) (table_fits 4 ws t)).from t in
      same f 0 (λ z d. rw (m, d, b)) (λ z d. rw (m, d, d))

-- ---- updates

module _ (fs ws : List ℕ) (u : Update) where
  -- 1, the fault, 2
  pub locally_refused : (n : ℕ) → n ≡ refusal_before fs ws (fault_of 32 u) → n ≢ 0 → HasDampedLocally fs ws fs ws u (Refused n)
  locally_refused n e z = record {
    first = λ _. ap Refused e;
    work = λ y. absurd (z (e ∙ y));
    kept = λ _. (refl, refl);
    front = λ w. w;
    table = λ t. refused_by_lem fs ws u n (e ∙ sym (before_table fs ws (fault_of 32 u) t)) z;
  }

  -- the work
  pub locally_damped : (gs vs : List ℕ) (r : code.Reply) → IsWords fs → misfits (length ws) ≡ false → fault_of 32 u ≡ 0
      → Damped fs ws gs vs u r → HasDampedLocally fs ws gs vs u r
  locally_damped gs vs r w m f d = record {
    first = λ n. absurd (n (sym (before_none fs ws (fault_of 32 u) m f (words_from fs w))));
    work = λ _. d;
    kept = damped_kept fs ws gs vs u r d w;
    front = λ _. damped_words fs ws gs vs u r d;
    table = λ t. damped_table fs ws w t gs vs u r (fault_sound u f) d;
  }

  -- a fault, told by a caller who knows the front
  pub locally_fault : (n : ℕ) → misfits (length ws) ≡ false → n ≡ fault_of 32 u → n ≢ 0
      → HasDampedLocally fs ws fs ws u (Refused n)
  locally_fault n m e z =
      locally_refused n (e ∙ before_fault fs ws (fault_of 32 u) m (λ y. z (e ∙ y))) z
