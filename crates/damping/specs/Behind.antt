-- What a tick leaves of the words of a front and of a table: the table's words change by the table's own calls alone, one for
-- each that is installed. Assumes nothing.
use Rattle.std.specs.Prelude.{◌≡◌, refl, true, cond, List, [], ◌∷◌, ℕ}
use Rattle.std.proofs.Common.{ap, ◌∙◌, arith}
use Rattle.routes.specs.Answers.{is_done}
use Rattle.candidates.specs.Candidate.{Candidate}
use Rattle.candidates.specs.Answers.{Update, after}
use Rattle.candidates.specs.Seen.{Seen, misfit, foreign, table}
use Rattle.words.specs.Words.{array_count}
use Rattle.words.specs.Table.{list_of, seen}
use Rattle.words.specs.TableBut.{Table}
use Rattle.words.specs.View.{table_of, seen_table}
use Rattle.front.specs.Place.{Place}
use Rattle.front.specs.Front.{halve, again, installs, tried_list, each, tick_list, tick_places}
use Rattle.front.specs.Seen.{FrontSeen, alien, front}
use Rattle.rows.specs.Row.{places_of}
use Rattle.charge.specs.Calls.{Became}
use Rattle.replies.specs.Said.{said_reply}
use Rattle.replies.specs.declared.Reply as code
use Rattle.update.specs.Anywhere.{local_words}
use Rattle.update.specs.Update.{HasUpdated}

-- ---- the table's own calls

-- what is installed of the places ps, one after the other
abbrev pub news : ℕ → List Candidate → List Place → List Update
news A cs [] = []
news A cs (p ∷ ps) =
    cond (installs 32 A cs p) (again p ∷ news A (tried_list 32 A cs p) ps) (news A (tried_list 32 A cs p) ps)

-- by what both memories are seen to be; nothing where one is not what it should be
abbrev pub news_on : FrontSeen → Seen → List Update
news_on f misfit = []
news_on f foreign = []
news_on alien (table A cs) = []
news_on (front ps) (table A cs) = news A cs (each halve ps)

-- the table's call of the update was done, as its contract allows
pub record Installed (ws vs : List ℕ) (u : Update) : Type 0 where
  pub reply : code.Reply
  pub call : HasUpdated 4 ws vs u reply
  pub done : is_done (said_reply reply) ≡ true

-- and so were several, in order
pub data Installs : List ℕ → List Update → List ℕ → Type 0 where
  none : {ws : List ℕ} → Installs ws [] ws
  next : {ws us vs : List ℕ} {u : Update} {xs : List Update} → Installed ws us u → Installs us xs vs → Installs ws (u ∷ xs) vs

-- the words that they leave of a table, by its local calls
abbrev pub installed_words : List ℕ → List Update → List ℕ
installed_words ws [] = ws
installed_words ws (u ∷ xs) = installed_words (local_words 4 ws u) xs

pub installs_words : {ws vs : List ℕ} {xs : List Update} → Table 4 ws → Installs ws xs vs → vs ≡ installed_words ws xs
installs_words t none = refl
installs_words {ws} t (next {us = us} {u = u} {xs = xs} i s) =
    let l : seen 4 us ≡ table (array_count ws) (after 32 (array_count ws) (list_of 4 ws) u) =
    rw (seen_table 4 ws t) at i.call.list in
    let y = table_of 4 us (omega arith) (omega arith) (array_count ws) (after 32 (array_count ws) (list_of 4 ws) u) l in
    installs_words y.table s ∙ ap (λ (x : List ℕ). installed_words x xs) (i.call.words t)

pub installs_none : {ws vs : List ℕ} → Installs ws [] vs → vs ≡ ws
installs_none none = refl

-- ---- the whole

-- the words fs of a front and ws of a table became gs and vs
pub record Ticked (fs ws gs vs : List ℕ) : Type 0 where
  pub places : Became gs (tick_places 32 (array_count ws) (list_of 4 ws) (places_of fs))
  pub list : seen 4 vs ≡ table (array_count ws) (tick_list 32 (array_count ws) (list_of 4 ws) (places_of fs))
  pub behind : Installs ws (news (array_count ws) (list_of 4 ws) (each halve (places_of fs))) vs
