-- The refusals that come before the work, in document 01's order, and the work's promise as that of the whole call.
-- Assumes nothing.
use Rattle.std.specs.Prelude.{◌≡◌, refl, ◌≢◌, true, false, List, ℕ, ◌-◌, ◌*◌, ◌/◌, ◌≤◌, ◌<◌, length}
use Rattle.std.proofs.Common.{sym, ap, ap₂, ◌∙◌, true≢false, arith}
use borrow.Author.Tests.{eq-eqb, ne_eqb}
use Rattle.logic.specs.Cases.{bool, same}
use Rattle.sizes.specs.Sizes.{array_words, level_bound}
use Rattle.routes.specs.Answers.{Reply, refused, is_done}
use Rattle.candidates.specs.Candidate.{Candidate}
use Rattle.candidates.specs.Answers.{Update, faulty, verdict, answer}
use Rattle.candidates.specs.Seen.{Seen, misfit, foreign, table, misfits, answer_on, after_on}
use Rattle.words.specs.Words.{array_count}
use Rattle.words.specs.Table.{table_b, list_of, seen}
use Rattle.words.specs.TableBut.{Table}
use Rattle.words.specs.View.{fits_no_misfit, no_misfit_fits, table_fits, seen_misfit, seen_foreign, seen_table, seen-cases}
use Rattle.words.specs.CheckReflects.{table_reflects}
use Rattle.replies.specs.declared.Reply as code
use Rattle.replies.specs.declared.Reply.TheVariants.{Refused}
use Rattle.refusals.specs.Number.{number}
use Rattle.refusals.specs.declared.Refusal.{Refusal}
use Rattle.update.specs.Fault.{fault_of, faulty_by, number_some}
use Rattle.update.specs.Anywhere.{touch_fault, words_by, local_fault, local_words}
use Rattle.update.specs.Update.{refusal_of, HasUpdated, HasApplied}

-- what is not accepted leaves what the words are seen to be
pub unaccepted : (W : ℕ) (s : Seen) (u : Update) → is_done (answer_on W s u) ≡ false → after_on W s u ≡ s
unaccepted W misfit u e = refl
unaccepted W foreign u e = refl
unaccepted W (table A cs) u e = rw e

-- a refusal that leaves the words
refuses : (L : ℕ) (ws : List ℕ) (u : Update) (n : ℕ) → answer_on (8 * L) (seen L ws) u ≡ refused n
    → (Table L ws → ws ≡ local_words L ws u) → HasUpdated L ws ws u (Refused n)
refuses L ws u n e w =
    let l = sym (unaccepted (8 * L) (seen L ws) u (ap is_done e)) in
    record { answer = sym e; list = l; kept = λ _. refl; still = λ _. refl; frame = λ c h n w b. refl; words = w }

sized : (L : ℕ) (ws : List ℕ) → Table L ws → misfits (length ws) ≡ false
sized L ws t = fits_no_misfit (length ws) (table_fits L ws t)

-- 1
refuses_size : (L : ℕ) (ws : List ℕ) (u : Update) → misfits (length ws) ≡ true → HasUpdated L ws ws u (Refused 1)
refuses_size L ws u e =
    refuses L ws u 1 (rw (seen_misfit L ws e)) (λ t. absurd (true≢false (sym e ∙ sized L ws t)))

module _ (L : ℕ) (ws : List ℕ) (u : Update) where
  refuses_fault : 1 ≤ L → L < level_bound → (n : ℕ) → misfits (length ws) ≡ false → n ≡ fault_of (8 * L) u → n ≢ 0
      → HasUpdated L ws ws u (Refused n)
  unfolding answer
  refuses_fault some levels n e f z =
      let any : (r : Reply) → faulty (8 * L) u r ≡ refused n = λ r. faulty_by (8 * L) u r ∙ rw (← f, ne_eqb n 0 z) in
      refuses L ws u n
      (seen-cases L ws some levels
      (λ m _. absurd (true≢false (sym m ∙ e)))
      (λ _ _ s. rw s (any (refused 2)))
      (λ _ _ _ s. rw s (any (verdict (8 * L) (array_count ws) (list_of L ws) u))))
      (λ t. (let d : local_fault L ws u ≡ n = rw (e, ← f, ne_eqb n 0 z) in rw (d, ne_eqb n 0 z)))

  pub refuses_table : (n : ℕ) → Table L ws → n ≡ fault_of (8 * L) u → n ≢ 0 → HasUpdated L ws ws u (Refused n)
  refuses_table n t = refuses_fault t.shape.some_level t.shape.levels n (sized L ws t)

  -- 2
  refuses_foreign : misfits (length ws) ≡ false → fault_of (8 * L) u ≡ 0 → table_b L ws ≡ false → HasUpdated L ws ws u (Refused 2)
  refuses_foreign e f b =
      refuses L ws u 2 (rw (seen_foreign L ws e b) (faulty_by (8 * L) u (refused 2) ∙ rw f))
      (λ t. absurd (true≢false (sym ((table_reflects L ws t.shape.some_level t.shape.levels (table_fits L ws t)).from t)
      ∙ b)))

-- ---- the first of them, for tables of L levels

module _ (L : ℕ) (ws : List ℕ) (f : ℕ) where
  pub refusal-size : misfits (length ws) ≡ true → 1 ≡ refusal_of L ws f
  refusal-size m = rw m

  module _ (m : misfits (length ws) ≡ false) where
    pub refusal_fault : f ≢ 0 → f ≡ refusal_of L ws f
    refusal_fault z = rw (m, ne_eqb f 0 z)

    pub refusal_foreign : f ≡ 0 → table_b L ws ≡ false → 2 ≡ refusal_of L ws f
    refusal_foreign z b = rw (m, eq-eqb f 0 z, b)

    pub refusal_none : f ≡ 0 → table_b L ws ≡ true → 0 ≡ refusal_of L ws f
    refusal_none z b = rw (m, eq-eqb f 0 z, b)

module _ (L : ℕ) (ws : List ℕ) (some : 1 ≤ L) (levels : L < level_bound) where
  pub refused_by_lem : (u : Update) (n : ℕ) → n ≡ refusal_of L ws (fault_of (8 * L) u) → n ≢ 0 → HasUpdated L ws ws u (Refused n)
  refused_by_lem u n e z =
      let W = 8 * L in
      bool (misfits (length ws))
      (λ m. rw (e ∙ sym (refusal-size L ws (fault_of W u) m)) (refuses_size L ws u m))
      (λ m. same (fault_of W u) 0
      (λ f _. bool (table_b L ws)
      (λ b. absurd (z (e ∙ sym (refusal_none L ws (fault_of W u) m f b))))
      (λ b. rw (e ∙ sym (refusal_foreign L ws (fault_of W u) m f b)) (refuses_foreign L ws u m f b)))
      (λ f _. refuses_fault L ws u some levels n m (e ∙ sym (refusal_fault L ws (fault_of W u) m f)) z))

  -- by the refusal that is found
  pub refused_named : (u : Update) (n : ℕ) (e : Refusal) (f : ℕ) → n ≡ number e → number e ≡ refusal_of L ws f
      → f ≡ fault_of (8 * L) u → HasUpdated L ws ws u (Refused n)
  refused_named u n e f a b c =
      refused_by_lem u n (a ∙ b ∙ ap (refusal_of L ws) c) (λ z. number_some e (sym a ∙ z))

  -- ---- the work

  is_table : misfits (length ws) ≡ false → table_b L ws ≡ true → Table L ws
  is_table e b = (table_reflects L ws some levels (no_misfit_fits (length ws) e)).to b

  -- no number before the work, and what that says
  pub passed : (f : ℕ) → refusal_of L ws f ≡ 0 → Table L ws × (f ≡ 0)
  passed f e =
      bool (misfits (length ws))
      (λ m. absurd (omega (arith, refusal-size L ws f m)))
      (λ m. same f 0
      (λ z _. bool (table_b L ws) (λ b. (is_table m b, z)) (λ b. absurd (omega (arith, refusal_foreign L ws f m z b))))
      (λ z _. absurd (omega (arith, refusal_fault L ws f m z))))

  pub passed_named : (f : ℕ) → 0 ≡ refusal_of L ws f → Table L ws
  passed_named f e = (passed f (sym e)).0

pub applied : (L : ℕ) (ws vs : List ℕ) (u : Update) (r : code.Reply) → Table L ws → fault_of (8 * L) u ≡ 0
    → HasApplied L ws vs u r
    → vs ≡ words_by L ws u (touch_fault L ws u) → HasUpdated L ws vs u r
unfolding answer
applied L ws vs u r t f p w = record {
  answer = rw (seen_table L ws t) (p.answer ∙ sym none);
  list = rw (seen_table L vs p.table, seen_table L ws t, none)
      (ap₂ table (ap (λ (n : ℕ). n / array_words - 1) p.size) (p.list ∙ rw p.answer));
  kept = p.kept;
  still = λ e. p.still (held_in (rw (seen_table L vs p.table, seen_table L ws t) at e));
  frame = p.frame;
  words = λ _. rw (sized L ws t, f) w;
}
  where
    held_in : {A B : ℕ} {xs ys : List Candidate} → table A xs ≡ table B ys → xs ≡ ys
    held_in e = cc

    none : faulty (8 * L) u (verdict (8 * L) (array_count ws) (list_of L ws) u)
        ≡ verdict (8 * L) (array_count ws) (list_of L ws) u
    none = faulty_by (8 * L) u (verdict (8 * L) (array_count ws) (list_of L ws) u) ∙ rw f
