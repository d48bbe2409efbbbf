-- What the check, the clearing and a tick of any words promise: by what they are seen to be as a front and as a table. And the
-- count of the candidates held back, a row after the other. Assumes nothing.
use Rattle.std.specs.Prelude.{◌≡◌, refl, ◌≢◌, false, cond, List, [], ℕ, suc, ◌+◌, ◌-◌, ◌%◌, ◌<◌, ◌≤◌, length, eqb}
use Rattle.std.specs.Prelude.{Result, Ok, Err}
use Rattle.std.proofs.Common.{sym, ap, ◌∙◌, arith, add-one, eq-eqb, ne_eqb}
use Rattle.logic.specs.Cases.{bool, same}
use Rattle.routes.specs.Seen.{Answer, gives, refuses}
use Rattle.words.specs.Table.{seen}
use Rattle.words.specs.TableBut.{Table}
use Rattle.words.specs.View.{seen_table, seen-cases}
use Rattle.update.specs.Fault.{number_some}
use Rattle.update.specs.Refuse.{refusal-size, refusal_foreign, refusal_none}
use Rattle.front.specs.Place.{backs, most_places}
use Rattle.front.specs.Seen.{FrontSeen, alien, front, Held, held_in, check_front, tick_on, behind_tick, places_tick}
use Rattle.rows.specs.Row.{front_words, Row, row_at, places_of, front_b, IsWords}
use Rattle.charge.specs.Calls.{Became}
use Rattle.release.specs.Settle.{firsts, collect-firsts}
use Rattle.damping.specs.View.{seen_front, seen_front_lem, seen_became, seen_alien}
use Rattle.rows.specs.Told.{words_to}
use Rattle.damping.specs.Refuse.{front_number, refusal_through, refusal_first, refusal_alien, refusal_passed}
use Rattle.damping.specs.Behind.{news_on, Installs, none, Ticked}
use Rattle.damping.specs.declared.held.Held as code
use Rattle.refusals.specs.Number.{number}
use Rattle.refusals.specs.declared.Refusal.{Refusal}
use Rattle.refusals.specs.declared.Refusal.TheVariants.{Foreign}

-- ---- what a result says

-- what a check gives, or a refusal
abbrev pub Checked : Type 0
Checked = Result code.Held Refusal

abbrev pub counts_of : code.Held → Held
counts_of h = record { places = h.places; back = h.back }

abbrev pub check_answer : Checked → Answer Held
check_answer (Ok h) = gives (counts_of h)
check_answer (Err e) = refuses (number e)

-- ---- clearing

-- of n words: 0, or 2 for a wrong number of them
abbrev pub clear_number : ℕ → ℕ
clear_number n = cond (eqb n front_words) 0 2

abbrev pub cleared_front : ℕ → FrontSeen
cleared_front n = cond (eqb n front_words) (front []) alien

pub record HasCleared (fs gs : List ℕ) (r : ℕ) : Type 0 where
  pub answer : r ≡ clear_number (length fs)
  pub places : seen_front gs ≡ cleared_front (length fs)
  pub kept : r ≢ 0 → gs ≡ fs
  pub front : r ≡ 0 → IsWords gs

size_false : (fs : List ℕ) → length fs ≢ front_words → front_b fs ≡ false
unfolding front_b
size_false fs n = rw (ne_eqb (length fs) front_words n)

pub cleared_not : (fs : List ℕ) → length fs ≢ front_words → HasCleared fs fs 2
cleared_not fs n =
    record {
      answer = rw (ne_eqb (length fs) front_words n);
      places = rw (ne_eqb (length fs) front_words n) (seen_alien fs (size_false fs n));
      kept = λ _. refl;
      front = λ z. absurd (omega arith);
    }

pub cleared_done : (fs gs : List ℕ) → length fs ≡ front_words → Became gs [] → HasCleared fs gs 0
cleared_done fs gs e b =
    record {
      answer = rw (eq-eqb (length fs) front_words e);
      places = rw (eq-eqb (length fs) front_words e) (seen_became gs [] b);
      kept = λ z. absurd (z refl);
      front = λ _. b.words;
    }

-- ---- the count

-- of the rows before i so many are held back, of the n places that there are
pub record Counting (fs : List ℕ) (n i b : ℕ) : Type 0 where
  pub within : i ≤ n
  pub few : b ≤ i
  pub left : b + backs (firsts (row_at fs) i (n - i)) ≡ backs (places_of fs)

pub counting_none : (fs : List ℕ) (n : ℕ) → n ≡ length (places_of fs) → Counting fs n 0 0
counting_none fs n e =
    let z : n - 0 ≡ n = omega arith in
    record {
      within = omega arith;
      few = omega arith;
      left =
          omega (
            arith,
            ap (λ (m : ℕ). backs (firsts (row_at fs) 0 m)) (z ∙ e),
            ap backs (collect-firsts (row_at fs) 0 most_places),
          );
    }

back_more : (r : Row) (b m : ℕ) → b + r.x % 2 + m ≡ b + cond (eqb (r.x % 2) 1) (suc m) m
back_more r b m = same (r.x % 2) 1 (λ e d. rw d (omega arith)) (λ n d. rw d (omega arith))

pub counting_more : (fs : List ℕ) (n i b : ℕ) → i < n → Counting fs n i b → Counting fs n (i + 1) (b + (row_at fs i).x % 2)
unfolding firsts
counting_more fs n i b h c =
    let e : n - i ≡ suc (n - (i + 1)) = omega arith in
    record {
      within = omega arith;
      few = omega (arith, c.few);
      left =
          rw (add-one i) (back_more (row_at fs i) b (backs (firsts (row_at fs) (suc i) (n - suc i))))
          ∙ (rw (e, add-one i) at c.left);
    }

pub counting_end : (fs : List ℕ) (n i b : ℕ) → n ≤ i → n ≡ length (places_of fs) → Counting fs n i b
    → counts_of (record { places = n; back = b }) ≡ held_in (places_of fs)
unfolding firsts
counting_end fs n i b h e c =
    let z : n - i ≡ 0 = omega arith in
    let q : b ≡ backs (places_of fs) = omega (arith, rw z at c.left) in
    λ t. record { places = e t; back = q t }

-- ---- the check

pub checks_front : (fs : List ℕ) (r : Checked) → IsWords fs → check_answer r ≡ gives (held_in (places_of fs))
    → check_answer r ≡ check_front (seen_front fs)
checks_front fs r w e = rw (seen_front_lem fs w) e

pub checks_alien : (fs : List ℕ) → front_b fs ≡ false → check_answer (Err Foreign) ≡ check_front (seen_front fs)
checks_alien fs b = rw (seen_alien fs b)

-- by the fault of words that are no front, and none
pub checks_fault : (fs : List ℕ) (e : Refusal) → number e ≡ front_number fs
    → check_answer (Err e) ≡ check_front (seen_front fs)
checks_fault fs e q =
    bool (front_b fs)
    (λ b. absurd (number_some e (rw b at q)))
    (λ b. rw (seen_alien fs b) (ap refuses (rw b at q)))

pub no_fault : (fs : List ℕ) → ((i : ℕ) → (row_at fs i).a < 4294967296) → 0 ≡ front_number fs → IsWords fs
no_fault fs small q =
    bool (front_b fs) (words_to fs small) (λ b. absurd (let z : ◌≡◌ {A = ℕ} 0 2 = rw b at q in omega arith))

-- ---- a tick

-- the words fs of a front and ws of a table became gs and vs, and the tick was answered r
pub record HasTicked (fs ws gs vs : List ℕ) (r : Checked) : Type 0 where
  pub answer : check_answer r ≡ tick_on 32 (seen_front fs) (seen 4 ws)
  pub list : seen 4 vs ≡ behind_tick 32 (seen_front fs) (seen 4 ws)
  pub places : seen_front gs ≡ places_tick 32 (seen_front fs) (seen 4 ws)
  pub kept : (e : Refusal) → r ≡ Err e → (gs ≡ fs) × (vs ≡ ws)
  pub front : IsWords fs → IsWords gs
  -- the table's words are changed by its own calls alone, one for each that is installed
  pub behind : Installs ws (news_on (seen_front fs) (seen 4 ws)) vs

-- an answer is no refusal
pub given_not : (h : Held) (n : ℕ) → ◌≡◌ {A = Answer Held} (gives h) (refuses n) → ⊥
given_not h n q = let z : ◌≡◌ {A = ℕ} 0 1 = cc in omega arith

pub ticks : (fs ws gs vs : List ℕ) (r : Checked) → IsWords fs → Table 4 ws → Ticked fs ws gs vs
    → check_answer r ≡ gives (held_in (places_of gs)) → HasTicked fs ws gs vs r
ticks fs ws gs vs r w t k e =
    record {
      answer = rw (seen_front_lem fs w, seen_table 4 ws t) (e ∙ ap (λ ps. gives (held_in ps)) k.places.places);
      list = rw (seen_front_lem fs w, seen_table 4 ws t) k.list;
      places = rw (seen_front_lem fs w, seen_table 4 ws t) (seen_became gs _ k.places);
      kept = λ f z. absurd (given_not _ (number f) (sym e ∙ ap check_answer z));
      front = λ _. k.places.words;
      behind = rw (seen_front_lem fs w, seen_table 4 ws t) k.behind;
    }

-- 1, then 2
pub tick_refused : (fs ws : List ℕ) (r : Refusal) → number r ≡ refusal_through fs ws 0 → HasTicked fs ws fs ws (Err r)
tick_refused fs ws r e =
    seen-cases 4 ws (omega arith) (omega arith)
    (λ m s. (let k = refusal-size 4 ws 0 m in
    let q : number r ≡ 1 = e ∙ sym (refusal_first fs ws 0 1 k (omega arith)) in
    record {
      answer = rw (s, q);
      list = rw s;
      places = rw s;
      kept = λ _ _. (refl, refl);
      front = λ w. w;
      behind = rw s none;
    }))
    (λ m b s. (let k = refusal_foreign 4 ws 0 m refl b in
    let q : number r ≡ 2 = e ∙ sym (refusal_first fs ws 0 2 k (omega arith)) in
    record {
      answer = rw (s, q);
      list = rw s;
      places = rw s;
      kept = λ _ _. (refl, refl);
      front = λ w. w;
      behind = rw s none;
    }))
    (λ m b t s. (let k = refusal_none 4 ws 0 m refl b in
    bool (front_b fs)
    (λ f. absurd (number_some r (e ∙ sym (refusal_passed fs ws 0 0 k refl f))))
    (λ f. (let q : number r ≡ 2 = e ∙ sym (refusal_alien fs ws 0 0 k refl f) in
    record {
      answer = rw (seen_alien fs f, s, q);
      list = rw (seen_alien fs f, s);
      places = rw (seen_alien fs f, s);
      kept = λ _ _. (refl, refl);
      front = λ w. w;
      behind = rw (seen_alien fs f, s) none;
    }))))
