-- The claim: the three demands of the work order, said of the C calls of a family, a field for each sentence with the sentence
-- before it. `ipv4` and `ipv6` (Proved) say that they hold of both. Assumes nothing.
--
-- "Every call ends, and stays inside the lent memory, on all inputs and all memory contents. A public call checks for itself": no
-- field says that, since the kit proves of every function that it ends and reads and writes inside what it is lent, and no C call
-- has a `requires`.
use Rattle.std.specs.Prelude.{◌≡◌, ◌≢◌, Bool, true, false, ◌&&◌, List, [], ◌∷◌, ◌++◌, ℕ, ltb, eqb, length, drop}
use Rattle.routes.specs.Family.{Family, levels, width}
use Rattle.routes.specs.Route.{too_long, stray, bad_hop}
use Rattle.routes.specs.Match.{longest}
use Rattle.routes.specs.Block.{block}
use Rattle.routes.specs.Room.{need}
use Rattle.routes.specs.Answers.{Reply, is_done, is_refused, lacking, matched}
use Rattle.routes.specs.Seen.{Answer, gives, refuses, misfits, arrays}
use Rattle.candidates.specs.Candidate.{Candidate, bad_feed, held}
use Rattle.candidates.specs.Winners.{winners}
use Rattle.candidates.specs.Answers.{Update, announce, withdraw, Record, answer, after, replies, leaves, plains}
use Rattle.candidates.specs.Runs.{first, run}
use Rattle.candidates.specs.Seen.{Seen, misfit, foreign, table, bytes_for, answers_on}
use Rattle.words.specs.Table.{seen}
use Rattle.lookup.specs.Walk.{walk}
use Rattle.within.specs.Walk as total
use Rattle.update.specs.Anywhere.{local_fault}
use Rattle.feed.specs.Runs.{report_of}
use Rattle.weaves.specs.Feeds.{Weave, flip, heard, kept, kept_both, Union, Meets}
use Rattle.answers.specs.Numbers.{looked, updated, ran}
use Rattle.answers.specs.declared.Counted.{Counted}
use Rattle.answers.specs.declared.Found.{Found}
use Rattle.answers.specs.declared.Total.{Total}
use Rattle.answers.specs.declared.Updated.{Updated}
use Rattle.answers.specs.declared.Written.{Written}
use Rattle.answers.specs.declared.Ran.{Ran}
use Rattle.calls.specs.Exported.{Cleared, Series}
use Rattle.calls.specs.ExportedRound.{Trip, Again}
use Rattle.calls.specs.ExportedBoth.{Holds}
use Rattle.claim.specs.Calls.{Clears, Checks, Looks, Counts, Updates, UpdatesLocally, Writes, Runs, RunsLocally, Begun}

-- ---- what words are seen to be

abbrev pub is_foreign : Seen → Bool
is_foreign misfit = false
is_foreign foreign = true
is_foreign (table A cs) = false

-- the list that words stand for; none where they are no table
abbrev pub list_in : Seen → List Candidate
list_in misfit = []
list_in foreign = []
list_in (table A cs) = cs

-- of words: their number is none of a table's; they are no table; the list that they stand for
abbrev pub wrong_size : List ℕ → Bool
wrong_size ws = misfits (length ws)

abbrev pub no_table : Family → List ℕ → Bool
no_table F ws = is_foreign (seen (levels F) ws)

abbrev pub held_in : Family → List ℕ → List Candidate
held_in F ws = list_in (seen (levels F) ws)

-- the layout's walk, on words that are no table, meets one that is out of range: of a lookup, and of a total
abbrev pub strays : Seen → Reply → Bool
strays s y = is_foreign s && is_refused y

abbrev pub strays_to : Seen → Answer ℕ → Bool
strays_to s (gives n) = false
strays_to s (refuses n) = is_foreign s

-- words through which records went, and the replies: a record that is not accepted leaves every word
pub data Spared : List ℕ → List Reply → List ℕ → Type 0 where
  nothing : {ws : List ℕ} → Spared ws [] ws
  more : {ws vs us : List ℕ} {y : Reply} {ys : List Reply} → (is_done y ≡ false → vs ≡ ws) → Spared vs ys us
      → Spared ws (y ∷ ys) us

-- ---- demand 1

pub record Demand1 (F : Family) : Type 0 where
  -- "A refusal gives its number from document 01, for exactly the reason written there": on all words, the first of these reasons
  -- that holds, 0 for none
  pub clear : (ws vs : List ℕ) (r : ℕ) → Clears F ws vs r → r ≡ first 1 (wrong_size ws) 0
  pub check : (ws : List ℕ) (r : Counted) → Checks F ws r
      → r.refusal ≡ first 1 (wrong_size ws) (first 2 (no_table F ws) 0)
  pub lookup : (ws : List ℕ) (a : ℕ) (r : Found) → Looks F ws a r
      → r.refusal ≡ first 1 (wrong_size ws) (first 2 (strays (seen (levels F) ws) (walk (levels F) ws a)) 0)
  pub within : (ws : List ℕ) (a l : ℕ) (r : Total) → Counts F ws a l r
      → r.refusal ≡ first 1 (wrong_size ws) (first 3 (too_long (width F) l) (first 4 (stray (width F) a l)
      (first 2 (strays_to (seen (levels F) ws) (total.walk (levels F) ws a l)) 0)))
  pub announce : (ws vs : List ℕ) (a l h f p : ℕ) (r : Updated) → Updates F ws vs (announce a l h f p) r
      → r.refusal ≡ first 1 (wrong_size ws) (first 3 (too_long (width F) l) (first 4 (stray (width F) a l)
      (first 5 (bad_hop h) (first 10 (bad_feed f) (first 2 (no_table F ws)
      (first 8 (lacking (width F) (arrays (length ws)) (winners (held_in F ws)) a l h) 0))))))
  pub withdraw : (ws vs : List ℕ) (a l f : ℕ) (r : Updated) → Updates F ws vs (withdraw a l f) r
      → r.refusal ≡ first 1 (wrong_size ws) (first 3 (too_long (width F) l) (first 4 (stray (width F) a l)
      (first 10 (bad_feed f) (first 2 (no_table F ws) (first 7 (eqb (held (held_in F ws) a l f) 0) 0)))))
  pub write : (ws b c : List ℕ) (r : Written) → Writes F ws b c r
      → r.refusal ≡ first 1 (wrong_size ws) (first 2 (no_table F ws)
      (first 9 (ltb (length b) (bytes_for F (length (held_in F ws)))) 0))
  pub run : (ws feed b vs c : List ℕ) (r : Ran) → Runs F ws feed b vs c r
      → r.refusal ≡ first 1 (wrong_size ws) (first 2 (no_table F ws) 0)
  -- the calls that test what they touch: by what stands on the update's own path
  pub local : (ws vs : List ℕ) (u : Update) (r : Updated) → UpdatesLocally F ws vs u r → r.refusal ≡ local_fault (levels F) ws u
  pub local_run_fact : (ws feed b vs c : List ℕ) (r : Ran) → RunsLocally F ws feed b vs c r
      → r.refusal ≡ first 1 (wrong_size ws) 0
  -- "and changes no lent word or byte". A call that only reads is lent words that it cannot write
  pub clear_kept : (ws vs : List ℕ) (r : ℕ) → Clears F ws vs r → r ≢ 0 → vs ≡ ws
  pub update_kept : (ws vs : List ℕ) (u : Update) (r : Updated) → Updates F ws vs u r → r.refusal ≢ 0 → vs ≡ ws
  pub local_kept : (ws vs : List ℕ) (u : Update) (r : Updated) → UpdatesLocally F ws vs u r → r.refusal ≢ 0 → vs ≡ ws
  pub write_kept : (ws b c : List ℕ) (r : Written) → Writes F ws b c r → r.refusal ≢ 0 → c ≡ b
  pub run-kept : (ws feed b vs c : List ℕ) (r : Ran) → Runs F ws feed b vs c r → r.refusal ≢ 0 → (vs ≡ ws) × (c ≡ b)
  pub local_run-kept : (ws feed b vs c : List ℕ) (r : Ran) → RunsLocally F ws feed b vs c r → r.refusal ≢ 0
      → (vs ≡ ws) × (c ≡ b)
  -- "the reply that a run writes to a refused record excepted": inside a run too the words stay
  pub inside : (ws feed b vs c : List ℕ) (r : Ran) → Runs F ws feed b vs c r
      → Spared ws (answers_on F (seen (levels F) ws) feed b) vs

-- ---- demand 2, on words that are a table of A arrays and stand for the list cs

pub record Demand2 (F : Family) (A : ℕ) (cs : List Candidate) (ws : List ℕ) : Type 0 where
  -- "Each lookup gives the longest match of RFC 4632 over the routes then held"
  pub lookup : (a : ℕ) (r : Found) → Looks F ws a r
      → r ≡ looked (matched (longest (width F) a (winners cs)) (block (width F) (winners cs) a))
  -- "and each update answers as the route list in document 01 does, room included"; those that test what they touch too
  pub update : (u : Update) (vs : List ℕ) (r : Updated) → Updates F ws vs u r
      → (r ≡ updated (answer (width F) A cs u)) × (seen (levels F) vs ≡ table A (after (width F) A cs u))
  pub local : (u : Update) (vs us : List ℕ) (r s : Updated) → Updates F ws vs u r → UpdatesLocally F ws us u s
      → (s ≡ r) × (us ≡ vs)
  -- "a run and the check answer, counts included, as document 01 defines"
  pub run : (feed b vs c : List ℕ) (r : Ran) → Runs F ws feed b vs c r
      → (r ≡ ran (gives (report_of (run F A cs feed (length b)))))
      × (seen (levels F) vs ≡ table A (run F A cs feed (length b)).end.list)
      × (c ≡ (run F A cs feed (length b)).end.replies ++ drop (length (run F A cs feed (length b)).end.replies) b)
  pub local_run_fact : (feed b vs us c d : List ℕ) (r s : Ran) → Runs F ws feed b vs c r → RunsLocally F ws feed b us d s
      → (s ≡ r) × (us ≡ vs) × (d ≡ c)
  pub check : (r : Counted) → Checks F ws r → r ≡ record { refusal = 0; routes = length cs; arrays = need (width F) (winners cs) }
  -- "A list written out and fed, with reply room enough, to a cleared table of the same room gives that list again"
  pub again : (t : Trip F A cs) → Again t

-- "the routes then held": any calls in a row, from a cleared table on, are answered as the list answers them
pub record InARow (F : Family) : Type 0 where
  pub answers : (A : ℕ) (ws vs : List ℕ) (xs : List Record) (ys : List Reply) → Cleared F A ws → Series F ws xs ys vs
      → ys ≡ replies (width F) A [] xs
  pub list : (A : ℕ) (ws vs : List ℕ) (xs : List Record) (ys : List Reply) → Cleared F A ws → Series F ws xs ys vs
      → seen (levels F) vs ≡ table A (leaves (width F) A [] xs)

-- ---- demand 3

-- the joint session j, and its two feeds alone, f and s
pub record Woven {F : Family} {A : ℕ} {xs ys zs : List Update} (w : Weave xs ys zs)
    (j : Begun F A zs) (f : Begun F A xs) (s : Begun F A ys) : Type 0 where
  -- "each record gets the answer it gets when its feed runs alone, numbers of cells excepted"
  pub first : plains (heard w j.replies) ≡ plains f.replies
  pub second : plains (heard (flip w) j.replies) ≡ plains s.replies
  -- "The table ends holding exactly the routes that the two feeds leave when run alone, joined"
  pub first_list : seen (levels F) f.words' ≡ table A (kept (width F) A xs)
  pub second_list : seen (levels F) s.words' ≡ table A (kept (width F) A ys)
  pub union : Union (kept (width F) A xs) (kept (width F) A ys) (kept_both (width F) A xs ys)
  -- "and answers and writes itself out accordingly"
  pub left : Holds F A (kept_both (width F) A xs ys) j.words'

-- "Take two feeds of announcements and withdrawals ..": `Meets`, with the feed numbers of item 7. "From a cleared table, with
-- reply room enough, in every interleaving that keeps each feed's own order": `Weave`, by any runs and single calls
abbrev pub Demand3 : Family → Type 0
Demand3 F = (A : ℕ) (xs ys zs : List Update) (w : Weave xs ys zs) → Meets (width F) A xs ys
    → (j : Begun F A zs) (f : Begun F A xs) (s : Begun F A ys) → Woven w j f s

-- ---- all three

pub record Demands (F : Family) : Type 0 where
  pub safe : Demand1 F
  pub right : (A : ℕ) (cs : List Candidate) (ws : List ℕ) → seen (levels F) ws ≡ table A cs → Demand2 F A cs ws
  pub then_held : InARow F
  pub any_order : Demand3 F
