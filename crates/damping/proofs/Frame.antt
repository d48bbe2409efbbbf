-- A tick that leaves what is seen of the table leaves every word of it: of what is installed nothing was new. Assumes nothing.
use Rattle.std.specs.Prelude.{◌≡◌, List, [], ◌∷◌, ℕ, suc}
use Rattle.std.proofs.Common.{sym, ap, subst, ◌∙◌, arith}
use Rattle.logic.specs.Cases.{bool}
use Rattle.candidates.specs.Keyed.{Ordered}
use Rattle.candidates.specs.Candidate.{Candidate}
use Rattle.candidates.specs.Answers.{Update, after}
use Rattle.candidates.specs.Seen.{Seen, misfit, foreign, table}
use Rattle.words.specs.Words.{array_count}
use Rattle.words.specs.Table.{list_of, seen}
use Rattle.words.specs.Listed.{table_list}
use Rattle.words.specs.View.{seen-cases}
use Rattle.front.specs.Place.{Place, key}
use Rattle.front.specs.Front.{halve, again, installs, each, tick_list}
use Rattle.restraint.specs.Passes.{list_past, one_list, passes_list}
use Rattle.restraint.specs.Absent.{InOrder}
use Rattle.restraint.specs.Still.{past_still}
use Rattle.rows.specs.Row.{places_of, IsWords}
use Rattle.damping.specs.View.{seen_front_lem}
use Rattle.damping.specs.Behind.{news, Installed, Installs, next, installs_none}
use Rattle.damping.specs.Held.{Checked, HasTicked}

record Split (ws : List ℕ) (u : Update) (xs : List Update) (vs : List ℕ) : Type 0 where
  mid : List ℕ
  first : Installed ws mid u
  rest : Installs mid xs vs

split : {ws vs : List ℕ} {u : Update} {xs : List Update} → Installs ws (u ∷ xs) vs → Split ws u xs vs
split (next {us = us} i s) = record { mid = us; first = i; rest = s }

-- a list that stays after all installations stays after each
still_each : (A lo : ℕ) (cs : List Candidate) (ps : List Place) (ws vs : List ℕ) → Ordered key lo ps → InOrder cs
    → seen 4 ws ≡ table A cs → one_list 32 A cs ps ≡ cs → Installs ws (news A cs (each halve ps)) vs → vs ≡ ws
still_each A lo cs [] ws vs o i t e s = installs_none s
still_each A lo cs (p ∷ ps) ws vs o i t e s =
    let q : list_past 32 A cs p ≡ cs = past_still 32 A lo cs p ps o i e in
    let f : one_list 32 A cs ps ≡ cs = ap (λ (x : List Candidate). one_list 32 A x ps) (sym q) ∙ e in
    bool (installs 32 A cs (halve p))
    (λ b. (let x = split {u = again p} {xs = news A (after 32 A cs (again p)) (each halve ps)} (rw b at s) in
    let a : after 32 A cs (again p) ≡ cs = rw b at q in
    let l : seen 4 x.mid ≡ table A (after 32 A cs (again p)) = rw t at x.first.call.list in
    let m : x.mid ≡ ws = x.first.call.still (l ∙ ap (table A) a ∙ sym t) in
    still_each A (suc (key p)) cs ps ws vs o.1 i t f
    (subst (λ (y : List Candidate). Installs ws (news A y (each halve ps)) vs) a
    (subst (λ (y : List ℕ). Installs y (news A (after 32 A cs (again p)) (each halve ps)) vs) m x.rest))))
    (λ b. still_each A (suc (key p)) cs ps ws vs o.1 i t f (rw b at s))

abbrev list_in : Seen → List Candidate
list_in misfit = []
list_in foreign = []
list_in (table A cs) = cs

pub tick_still : {fs ws gs vs : List ℕ} {r : Checked} → HasTicked fs ws gs vs r → IsWords fs → seen 4 vs ≡ seen 4 ws → vs ≡ ws
tick_still {fs} {ws} {gs} {vs} p w e =
    seen-cases 4 ws (omega arith) (omega arith)
    (λ _ s. installs_none (rw s at p.behind))
    (λ _ _ s. installs_none (rw s at p.behind))
    (λ _ _ t s. (let l = rw (seen_front_lem fs w, s) at p.list in
    let q : tick_list 32 (array_count ws) (list_of 4 ws) (places_of fs) ≡ list_of 4 ws = ap list_in (sym l ∙ e ∙ s) in
    still_each (array_count ws) 0 (list_of 4 ws) (places_of fs) ws vs w.front.sorted (table_list 4 ws t).sorted s
    (sym (passes_list 32 (array_count ws) (list_of 4 ws) (places_of fs)) ∙ q)
    (rw (seen_front_lem fs w, s) at p.behind)))
