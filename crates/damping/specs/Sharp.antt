-- What the calls through a front promise leaves no choice: two outcomes that they allow agree in the answer, in what is seen of
-- the front, where the words were a front in every word of it, in every word of the table, and, refused, in all words. Assumes
-- nothing.
use Rattle.std.specs.Prelude.{◌≡◌, ◌⊎◌, true, List, [], ℕ, Ok, Err}
use Rattle.std.proofs.Common.{sym, ap, ◌∙◌, ⊎_elim, arith}
use Rattle.logic.specs.Cases.{same}
use Rattle.routes.specs.Answers.{is_refused}
use Rattle.routes.specs.Seen.{Answer, gives, refuses}
use Rattle.candidates.specs.Answers.{Update}
use Rattle.words.specs.Table.{seen}
use Rattle.words.specs.TableBut.{Table}
use Rattle.words.specs.View.{seen-cases}
use Rattle.replies.specs.Said.{said_reply, reply_one}
use Rattle.replies.specs.declared.Reply.{Reply}
use Rattle.update.specs.Anywhere.{local_words}
use Rattle.front.specs.Place.{Place}
use Rattle.front.specs.Seen.{FrontSeen, alien, front, Held, held_in}
use Rattle.rows.specs.Row.{IsWords}
use Rattle.rows.specs.One.{one_words}
use Rattle.damping.specs.View.{seen_front, seen_front_lem}
use Rattle.damping.specs.Update.{HasDamped}
use Rattle.damping.specs.Frame.{still, words}
use Rattle.damping.specs.Locally.{HasDampedLocally}
use Rattle.damping.specs.Behind.{news_on, Installs, installs_words, installs_none}
use Rattle.refusals.specs.Number.{number, number_one}
use Rattle.refusals.specs.declared.Refusal.{Refusal}
use Rattle.damping.specs.Held.{Checked, check_answer, HasCleared, HasTicked}
use Rattle.damping.specs.Ticks.{HasTickedLocally}

-- two pairs of words, of a front and of a table, are alike
pub record Alike (gs vs hs us : List ℕ) : Type 0 where
  pub list : seen 4 vs ≡ seen 4 us
  pub places : seen_front gs ≡ seen_front hs

abbrev places_in : FrontSeen → List Place
places_in alien = []
places_in (front ps) = ps

-- words of a front that are seen alike are the same
pub front_one : (gs hs : List ℕ) → IsWords gs → IsWords hs → seen_front gs ≡ seen_front hs → gs ≡ hs
front_one gs hs w x e = one_words gs hs w x (ap places_in (sym (seen_front_lem gs w) ∙ e ∙ seen_front_lem hs x))

-- ---- clearing

pub clear_sharp : (fs gs hs : List ℕ) (r s : ℕ) → HasCleared fs gs r → HasCleared fs hs s → (r ≡ s) × (gs ≡ hs)
clear_sharp fs gs hs r s p q =
    let e : r ≡ s = p.answer ∙ sym q.answer in
    let a : seen_front gs ≡ seen_front hs = p.places ∙ sym q.places in (
      e,
      same r 0 (λ z _. front_one gs hs (p.front z) (q.front (sym e ∙ z)) a) (λ n _. p.kept n ∙ sym (q.kept (λ z. n (e ∙ z)))),
    )

-- ---- updates

pub record Agree (fs gs vs hs us : List ℕ) (r s : Reply) : Type 0 where
  pub answer : r ≡ s
  pub alike : Alike gs vs hs us
  pub behind : vs ≡ us
  pub front : IsWords fs → gs ≡ hs
  pub words : is_refused (said_reply r) ≡ true → (gs ≡ hs) × (vs ≡ us)

-- the table's words are the same where each stays or is as its own local call leaves it
pub one_behind : (ws vs us xs : List ℕ) → seen 4 vs ≡ seen 4 us → (seen 4 vs ≡ seen 4 ws → vs ≡ ws)
    → (seen 4 us ≡ seen 4 ws → us ≡ ws) → (vs ≡ ws) ⊎ (vs ≡ xs) → (us ≡ ws) ⊎ (us ≡ xs) → vs ≡ us
one_behind ws vs us xs e p q a b =
    ⊎_elim
    (λ (c : vs ≡ ws). c ∙ sym (q (sym e ∙ ap (seen 4) c)))
    (λ (c : vs ≡ xs). ⊎_elim (λ (d : us ≡ ws). p (e ∙ ap (seen 4) d) ∙ sym d) (λ (d : us ≡ xs). c ∙ sym d) b)
    a

pub sharp : (fs ws gs vs hs us : List ℕ) (u : Update) (r s : Reply) → HasDamped fs ws gs vs u r → HasDamped fs ws hs us u s
    → Agree fs gs vs hs us r s
sharp fs ws gs vs hs us u r s p q =
    let e : r ≡ s = reply_one r s (p.answer ∙ sym q.answer) in
    let a : seen_front gs ≡ seen_front hs = p.places ∙ sym q.places in
    record {
      answer = e;
      alike = record { list = p.list ∙ sym q.list; places = a };
      behind = one_behind ws vs us (local_words 4 ws u) (p.list ∙ sym q.list) (still p) (still q) (words p) (words q);
      front = λ w. front_one gs hs (p.front w) (q.front w) a;
      words = λ z. ((p.kept z).0 ∙ sym (q.kept (rw e at z)).0, (p.kept z).1 ∙ sym (q.kept (rw e at z)).1);
    }

-- on a table a local call and the one that tests all of it agree
pub local_sharp : (fs ws gs vs hs us : List ℕ) (u : Update) (r s : Reply) → Table 4 ws → HasDampedLocally fs ws gs vs u r
    → HasDamped fs ws hs us u s → Agree fs gs vs hs us r s
local_sharp fs ws gs vs hs us u r s t p = sharp fs ws gs vs hs us u r s (p.table t)

-- ---- ticks

pub record TicksAgree (fs gs vs hs us : List ℕ) (r s : Checked) : Type 0 where
  pub answer : r ≡ s
  pub alike : Alike gs vs hs us
  pub behind : vs ≡ us
  pub front : IsWords fs → gs ≡ hs
  pub words : (e : Refusal) → r ≡ Err e → (gs ≡ hs) × (vs ≡ us)

abbrev held_of : Answer Held → Held
held_of (gives h) = h
held_of (refuses n) = held_in []

pub check_one : (r s : Checked) → check_answer r ≡ check_answer s → r ≡ s
check_one (Ok h) (Ok k) e =
    let p : h.places ≡ k.places = ap (λ x. (held_of x).places) e in
    let q : h.back ≡ k.back = ap (λ x. (held_of x).back) e in
    λ i. Ok (record { places = p i; back = q i })
check_one (Ok h) (Err f) e = cc
check_one (Err f) (Ok h) e = cc
check_one (Err f) (Err g) e = let q : number f ≡ number g = cc in ap Err (number_one f g q)

-- the installations of a tick leave the same words
pub installs_one : (fs ws vs us : List ℕ) → Installs ws (news_on (seen_front fs) (seen 4 ws)) vs
    → Installs ws (news_on (seen_front fs) (seen 4 ws)) us → vs ≡ us
installs_one fs ws vs us p q =
    seen-cases 4 ws (omega arith) (omega arith)
    (λ _ s. installs_none (rw s at p) ∙ sym (installs_none (rw s at q)))
    (λ _ _ s. installs_none (rw s at p) ∙ sym (installs_none (rw s at q)))
    (λ _ _ t _. installs_words t p ∙ sym (installs_words t q))

pub tick_sharp : (fs ws gs vs hs us : List ℕ) (r s : Checked) → HasTicked fs ws gs vs r → HasTicked fs ws hs us s
    → TicksAgree fs gs vs hs us r s
tick_sharp fs ws gs vs hs us r s p q =
    let e : r ≡ s = check_one r s (p.answer ∙ sym q.answer) in
    let a : seen_front gs ≡ seen_front hs = p.places ∙ sym q.places in
    record {
      answer = e;
      alike = record { list = p.list ∙ sym q.list; places = a };
      behind = installs_one fs ws vs us p.behind q.behind;
      front = λ w. front_one gs hs (p.front w) (q.front w) a;
      words = λ n z.
          ((p.kept n z).0 ∙ sym (q.kept n (sym e ∙ z)).0, (p.kept n z).1 ∙ sym (q.kept n (sym e ∙ z)).1);
    }

pub tick_local_sharp : (fs ws gs vs hs us : List ℕ) (r s : Checked) → Table 4 ws → HasTickedLocally fs ws gs vs r
    → HasTicked fs ws hs us s → TicksAgree fs gs vs hs us r s
tick_local_sharp fs ws gs vs hs us r s t p = tick_sharp fs ws gs vs hs us r s (p.table t)
