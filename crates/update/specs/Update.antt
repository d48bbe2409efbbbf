-- What announce and withdraw promise. An answer is a reply of document 01; the words are seen before and after; what is refused,
-- or leaves the list as it is, changes nothing. Assumes nothing.
use Rattle.std.specs.Prelude.{◌≡◌, true, cond, List, ◌⊎◌, ℕ, ◌+◌, ◌*◌, ◌≤◌, eqb, length, Result, Ok, Err}
use Rattle.routes.specs.Room.{level}
use Rattle.routes.specs.Answers.{is_done, is_refused}
use Rattle.candidates.specs.Candidate.{Candidate}
use Rattle.candidates.specs.Winners.{winning}
use Rattle.candidates.specs.Answers.{Update, announce, withdraw, changed, verdict}
use Rattle.candidates.specs.Seen.{misfits, answer_on, after_on}
use Rattle.tree.specs.Arrays.{Arrays, node}
use Rattle.words.specs.Words.{arrays_of, array_count}
use Rattle.words.specs.Table.{table_b, list_of, seen}
use Rattle.words.specs.TableBut.{Table}
use Rattle.numbers.specs.Front.{front}
use Rattle.paths.specs.Alike.{Alike}
use Rattle.replies.specs.Said.{said_reply}
use Rattle.replies.specs.declared.Reply.{Reply}
use Rattle.replies.specs.declared.Reply.TheVariants as code
use Rattle.refusals.specs.Number.{number}
use Rattle.refusals.specs.declared.Refusal.{Refusal}
use Rattle.update.specs.declared.Done.{Done}
use Rattle.update.specs.Anywhere.{local_words}

-- ---- which arrays may differ

-- array c stands on the path of the prefix a of length l in the larger of two tables, and is the prefix's own array, or the
-- smaller table, which holds cs, does not hold the prefix: then c counts it in one of them, and was perhaps gained, freed or
-- linked anew
pub record Touched (L : ℕ) (big : Arrays) (cs : List Candidate) (a l c : ℕ) : Type 0 where
  pub i : ℕ
  pub high : i ≤ level l
  pub on : node big (front L a i) i ≡ c
  pub edge : (i ≡ level l) ⊎ (winning cs (a * 256 + l) ≡ 0)

-- an announcement leaves the larger table, a withdrawal finds it
abbrev pub Touches : ℕ → Update → List ℕ → List ℕ → ℕ → Type 0
Touches L (announce a l h f p) ws vs c = Touched L (arrays_of vs) (list_of L ws) a l c
Touches L (withdraw a l f) ws vs c = Touched L (arrays_of ws) (list_of L vs) a l c

-- ---- any words ws become vs, seen as tables of L levels

pub record HasUpdated (L : ℕ) (ws vs : List ℕ) (u : Update) (r : Reply) : Type 0 where
  pub answer : said_reply r ≡ answer_on (8 * L) (seen L ws) u
  pub list : seen L vs ≡ after_on (8 * L) (seen L ws) u
  pub kept : is_refused (said_reply r) ≡ true → vs ≡ ws
  pub still : seen L vs ≡ seen L ws → vs ≡ ws
  pub frame : (c : ℕ) → 1 ≤ c → ¬ Touches L u ws vs c → Alike ws vs c
  -- of a table, the words are those that the call which tests only what it touches leaves
  pub words : Table L ws → vs ≡ local_words L ws u

-- ---- the same of a table, once the update itself is without fault

-- a table ws of L levels becomes vs
pub record HasApplied (L : ℕ) (ws vs : List ℕ) (u : Update) (r : Reply) : Type 0 where
  pub answer : said_reply r ≡ verdict (8 * L) (array_count ws) (list_of L ws) u
  pub table : Table L vs
  pub size : length vs ≡ length ws
  pub list : list_of L vs ≡ cond (is_done (said_reply r)) (changed u (list_of L ws)) (list_of L ws)
  pub kept : is_refused (said_reply r) ≡ true → vs ≡ ws
  pub still : list_of L vs ≡ list_of L ws → vs ≡ ws
  pub frame : (c : ℕ) → 1 ≤ c → ¬ Touches L u ws vs c → Alike ws vs c

-- the first number before the work, 0 where there is none: 1 for the size, the update's own fault f, 2 for words that are no
-- table of L levels
abbrev pub refusal_of : ℕ → List ℕ → ℕ → ℕ
refusal_of L ws f = cond (misfits (length ws)) 1 (cond (eqb f 0) (cond (table_b L ws) 0 2) f)

-- the reply to an update that was tried
abbrev pub reply_of : Result Done Refusal → Reply
reply_of (Ok d) = code.Done d.hop d.cells
reply_of (Err e) = code.Refused (number e)
