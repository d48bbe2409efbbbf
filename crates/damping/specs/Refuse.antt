-- The refusals that come before the work on a front and a table, in document 02's order. Assumes nothing.
use Rattle.std.specs.Prelude.{◌≡◌, refl, ◌≢◌, Bool, true, false, cond, List, ℕ, ◌<◌, eqb}
use Rattle.std.proofs.Common.{sym, ap, ◌∙◌, inl, true≢false, arith, ne_eqb}
use Rattle.logic.specs.Cases.{bool, same}
use Rattle.logic.specs.Reflects.{Reflects}
use Rattle.routes.specs.Answers.{Reply, done, refused, is_done}
use Rattle.candidates.specs.Candidate.{Candidate}
use Rattle.candidates.specs.Answers.{Update, faulty, sound, verdict, answer}
use Rattle.candidates.specs.Seen.{table}
use Rattle.words.specs.Words.{array_count}
use Rattle.words.specs.Table.{list_of, seen}
use Rattle.words.specs.TableBut.{Table}
use Rattle.words.specs.View.{seen-cases}
use Rattle.replies.specs.declared.Reply.TheVariants.{Refused}
use Rattle.update.specs.Update.{refusal_of}
use Rattle.update.specs.Fault.{fault_of, faulty_by}
use Rattle.update.specs.Refuse.{refusal-size, refusal_fault, refusal_foreign, refusal_none, passed}
use Rattle.rivals.specs.Updates.{unsound_after}
use Rattle.front.specs.Place.{Place}
use Rattle.front.specs.Front.{Step, updated, passed as on}
use Rattle.front.specs.Seen.{front, damped_on, behind_on, places_on}
use Rattle.rows.specs.Row.{row_at, front_b, places_of, IsWords}
use Rattle.rows.specs.Told.{words_to}
use Rattle.damping.specs.View.{seen_front, seen_true, seen_alien}
use Rattle.damping.specs.Update.{HasDamped}

-- 2 for words that are no front, or 0
abbrev pub front_number : List ℕ → ℕ
front_number fs = cond (front_b fs) 0 2

-- the first number before the work, 0 where there is none
abbrev pub refusal_through : List ℕ → List ℕ → ℕ → ℕ
refusal_through fs ws f = cond (eqb (refusal_of 4 ws f) 0) (front_number fs) (refusal_of 4 ws f)

-- ---- what no fault says

pub fault_sound : (u : Update) → fault_of 32 u ≡ 0 → sound 32 u ≡ true
fault_sound u e =
    let f : faulty 32 u (done 0 0) ≡ done 0 0 = faulty_by 32 u (done 0 0) ∙ rw e in
    ap is_done f

pub fault_unsound : (u : Update) → fault_of 32 u ≢ 0 → sound 32 u ≡ false
fault_unsound u n =
    let f : faulty 32 u (done 0 0) ≡ refused (fault_of 32 u) =
    faulty_by 32 u (done 0 0) ∙ rw (ne_eqb (fault_of 32 u) 0 n) in
    ap is_done f

-- ---- on any words

module _ (fs ws : List ℕ) (f : ℕ) where
  pub refusal_first : (n : ℕ) → n ≡ refusal_of 4 ws f → n ≢ 0 → n ≡ refusal_through fs ws f
  refusal_first n e z = rw (← e, ne_eqb n 0 z)

  pub refusal_alien : (n : ℕ) → n ≡ refusal_of 4 ws f → n ≡ 0 → front_b fs ≡ false → 2 ≡ refusal_through fs ws f
  refusal_alien n e z b = rw (sym e ∙ z, b)

  pub refusal_passed : (n : ℕ) → n ≡ refusal_of 4 ws f → n ≡ 0 → front_b fs ≡ true → 0 ≡ refusal_through fs ws f
  refusal_passed n e z b = rw (sym e ∙ z, b)

  pub refusal_rest : (n r : ℕ) → n ≡ refusal_of 4 ws f → n ≡ 0 → r ≡ front_number fs → r ≡ refusal_through fs ws f
  refusal_rest n r e z y = rw (sym e ∙ z) y

-- a test that reflects being a front is the flat one
pub front_is : (fs : List ℕ) (b : Bool) → Reflects b (IsWords fs) → Reflects (front_b fs) (IsWords fs) → b ≡ front_b fs
front_is fs b p q =
    bool b
    (λ e. e ∙ sym (q.from (p.to e)))
    (λ e. bool (front_b fs) (λ g. absurd (true≢false (sym (p.from (q.to g)) ∙ e))) (λ g. e ∙ sym g))

module _ (fs ws : List ℕ) (u : Update) where
  -- a refusal that leaves both
  refuses : (n : ℕ) → damped_on 32 (seen_front fs) (seen 4 ws) u ≡ refused n
      → behind_on 32 (seen_front fs) (seen 4 ws) u ≡ seen 4 ws → places_on 32 (seen_front fs) (seen 4 ws) u ≡ seen_front fs
      → HasDamped fs ws fs ws u (Refused n)
  refuses n a l p =
      record { answer = sym a; list = sym l; places = sym p; kept = λ _. (refl, refl); front = λ w. w; behind = inl refl }

  faulted : (n : ℕ) → n ≡ fault_of 32 u → n ≢ 0 → (r : Reply) → faulty 32 u r ≡ refused n
  faulted n e z r = faulty_by 32 u r ∙ rw (← e, ne_eqb n 0 z)

  unfaulted : fault_of 32 u ≡ 0 → (r : Reply) → faulty 32 u r ≡ r
  unfaulted e r = faulty_by 32 u r ∙ rw e

  answer_faulted : (n : ℕ) → n ≡ fault_of 32 u → n ≢ 0 → (A : ℕ) (cs : List Candidate) → answer 32 A cs u ≡ refused n
  unfolding answer
  answer_faulted n e z A cs = faulted n e z (verdict 32 A cs u)

  passed_on : (A : ℕ) (cs : List Candidate) (ps : List Place) → fault_of 32 u ≢ 0 → updated 32 A cs ps u ≡ on 32 A cs ps u
  passed_on A cs ps n = rw (fault_unsound u n)

  -- 1, the fault, 2
  pub refused_by_lem : (n : ℕ) → n ≡ refusal_through fs ws (fault_of 32 u) → n ≢ 0 → HasDamped fs ws fs ws u (Refused n)
  refused_by_lem n e z =
      seen-cases 4 ws (omega arith) (omega arith)
      (λ m s. (let q : n ≡ 1 = e ∙ sym (refusal_first fs ws (fault_of 32 u) 1 (refusal-size 4 ws (fault_of 32 u) m)
      (λ k. omega arith)) in
      refuses n (rw (s, q)) (rw s) (rw s)))
      (λ m b s. same (fault_of 32 u) 0
      (λ f _. (let q : n ≡ 2 =
      e ∙ sym (refusal_first fs ws (fault_of 32 u) 2 (refusal_foreign 4 ws (fault_of 32 u) m f b) (λ k. omega arith)) in
      refuses n (rw (s, q) (unfaulted f (refused 2))) (rw s) (rw s)))
      (λ f _. (let q : n ≡ fault_of 32 u =
      e ∙ sym (refusal_first fs ws (fault_of 32 u) (fault_of 32 u) (refusal_fault 4 ws (fault_of 32 u) m f) f) in
      refuses n (rw s (faulted n q z (refused 2))) (rw s) (rw s))))
      (λ m b t s. same (fault_of 32 u) 0
      (λ f _. behind f (refusal_none 4 ws (fault_of 32 u) m f b) s)
      (λ f _. (let q : n ≡ fault_of 32 u =
      e ∙ sym (refusal_first fs ws (fault_of 32 u) (fault_of 32 u) (refusal_fault 4 ws (fault_of 32 u) m f) f) in
      front_either q s)))
    where
      behind : fault_of 32 u ≡ 0 → 0 ≡ refusal_of 4 ws (fault_of 32 u) → seen 4 ws ≡ table (array_count ws) (list_of 4 ws)
          → HasDamped fs ws fs ws u (Refused n)
      behind f k s =
          bool (front_b fs)
          (λ b. absurd (z (e ∙ sym (refusal_passed fs ws (fault_of 32 u) 0 k refl b))))
          (λ b. (let q : n ≡ 2 = e ∙ sym (refusal_alien fs ws (fault_of 32 u) 0 k refl b) in
          refuses n (rw (seen_alien fs b, s, q) (unfaulted f (refused 2))) (rw (seen_alien fs b, s)) (rw (seen_alien fs b, s))))

      front_either : n ≡ fault_of 32 u → seen 4 ws ≡ table (array_count ws) (list_of 4 ws) → HasDamped fs ws fs ws u (Refused n)
      front_either q s =
          bool (front_b fs)
          (λ b. (let g = passed_on (array_count ws) (list_of 4 ws) (places_of fs) (λ k. z (q ∙ k)) in
          let v = seen_true fs b in
          refuses n (rw (v, s) (ap (λ (x : Step). x.reply) g ∙ answer_faulted n q z (array_count ws) (list_of 4 ws)))
          (rw (v, s) (ap (λ (x : Step). table (array_count ws) x.left.list) g
          ∙ ap (table (array_count ws)) (unsound_after 32 (array_count ws) (list_of 4 ws) u (fault_unsound u (λ k. z (q ∙ k))))))
          (rw (v, s) (ap (λ (x : Step). front x.left.places) g))))
          (λ b. refuses n (rw (seen_alien fs b, s) (faulted n q z (refused 2))) (rw (seen_alien fs b, s))
          (rw (seen_alien fs b, s)))

-- no number before the work, and what that says
pub passed_all : (fs ws : List ℕ) (f : ℕ) → ((i : ℕ) → (row_at fs i).a < 4294967296) → refusal_through fs ws f ≡ 0
    → IsWords fs × Table 4 ws × (f ≡ 0)
passed_all fs ws f small e =
    same (refusal_of 4 ws f) 0
    (λ z d. bool (front_b fs)
    (λ b. (let q = passed 4 ws (omega arith) (omega arith) f z in (words_to fs small b, q.0, q.1)))
    (λ b. absurd (let k : ◌≡◌ {A = ℕ} 2 0 = rw (d, b) at e in omega arith)))
    (λ z d. absurd (z (rw d at e)))
