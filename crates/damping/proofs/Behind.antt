-- A tick on the words of a table: what is tried is answered as the table's list answers it, and its words change by the table's
-- own calls alone, one for each that is installed. Assumes nothing.
use Rattle.std.specs.Prelude.{◌≡◌, refl, true, false, List, ◌∷◌, ℕ}
use Rattle.std.proofs.Common.{sym, ap₂, ◌∙◌, true≢false, arith}
use Rattle.logic.specs.Cases.{bool}
use Rattle.routes.specs.Answers.{is_done}
use Rattle.candidates.specs.Candidate.{Candidate}
use Rattle.candidates.specs.Answers.{answer, after}
use Rattle.candidates.specs.Seen.{table}
use Rattle.words.specs.Words.{array_count}
use Rattle.words.specs.Table.{list_of, seen}
use Rattle.words.specs.TableBut.{Table}
use Rattle.words.specs.View.{table_of, seen_table}
use Rattle.front.specs.Place.{Place}
use Rattle.front.specs.Front.{again, installs, tried, tried_list, tries, tries_list}
use Rattle.replies.specs.Said.{said_reply}
use Rattle.update.specs.Update.{HasUpdated}
use Rattle.damping.specs.Tick.{TriedOn, calm, announced, TriesOn, nothing, more, TickedLocally}
use Rattle.damping.specs.Behind.{news, Installed, Installs, none, next, Ticked}

-- ---- the tries

module _ (A : ℕ) where
  -- one on words seen as a table of A arrays with the candidates cs
  record OneOn (cs : List Candidate) (ws : List ℕ) (p q : Place) (us : List ℕ) : Type 0 where
    place : q ≡ tried 32 A cs p
    list : seen 4 us ≡ table A (tried_list 32 A cs p)
    out : installs 32 A cs p ≡ false → us ≡ ws
    into : installs 32 A cs p ≡ true → Installed ws us (again p)

  one_on : (cs : List Candidate) {ws us : List ℕ} {p q : Place} → seen 4 ws ≡ table A cs → TriedOn ws p q us → OneOn cs ws p q us
  one_on cs t (calm e) =
      record { place = rw e; list = rw e t; out = λ _. refl; into = λ z. absurd (true≢false (sym z ∙ rw e)) }
  one_on cs {ws} {us} {p} t (announced r d c) =
      let h : HasUpdated 4 ws us (again p) r = c.table (table_of 4 ws (omega arith) (omega arith) A cs t).table in
      let y : said_reply r ≡ answer 32 A cs (again p) = rw t at h.answer in
      let i : installs 32 A cs p ≡ is_done (said_reply r) = rw (d, y) in
      let l : seen 4 us ≡ table A (after 32 A cs (again p)) = rw t at h.list in
      bool (is_done (said_reply r))
      (λ b. (let k : installs 32 A cs p ≡ true = i ∙ b in
      record {
        place = rw (b, k);
        list = rw k l;
        out = λ z. absurd (true≢false (sym k ∙ z));
        into = λ _. record { reply = r; call = h; done = b };
      }))
      (λ b. (let k : installs 32 A cs p ≡ false = i ∙ b in
      let s : seen 4 us ≡ table A cs = l ∙ rw (← y, b) in
      record {
        place = rw (b, k);
        list = rw k s;
        out = λ _. h.still (s ∙ sym t);
        into = λ z. absurd (true≢false (sym z ∙ k));
      }))

  record AllOn (cs : List Candidate) (ws : List ℕ) (ps qs : List Place) (vs : List ℕ) : Type 0 where
    places : qs ≡ tries 32 A cs ps
    list : seen 4 vs ≡ table A (tries_list 32 A cs ps)
    calls : Installs ws (news A cs ps) vs

  all_on : (cs : List Candidate) {ws vs : List ℕ} {ps qs : List Place} → seen 4 ws ≡ table A cs → TriesOn ws ps qs vs
      → AllOn cs ws ps qs vs
  all_on cs t nothing = record { places = refl; list = t; calls = none }
  all_on cs {ws} {vs} t (more {us = us} {p = p} {ps = ps} y s) =
      let o = one_on cs t y in
      let n = all_on (tried_list 32 A cs p) o.list s in
      record {
        places = ap₂ ◌∷◌ o.place n.places;
        list = n.list;
        calls = bool (installs 32 A cs p)
            (λ k. rw k (next (o.into k) (rw k at n.calls)))
            (λ k. (let e : us ≡ ws = o.out k in rw k (rw (e, k) at n.calls)));
      }

-- ---- the whole

pub ticked_table : (fs ws gs vs : List ℕ) → Table 4 ws → TickedLocally fs ws gs vs → Ticked fs ws gs vs
ticked_table fs ws gs vs t k =
    let n = all_on (array_count ws) (list_of 4 ws) (seen_table 4 ws t) k.tries in
    record { places = rw (← n.places) k.places; list = n.list; behind = n.calls }
