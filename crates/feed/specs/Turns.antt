-- What the functions behind the run promise: the answer to one record, its reply, and how far the run has come then. Assumes
-- nothing.
use Rattle.std.specs.Prelude.{◌≡◌, ◌≢◌, false, List, [], ℕ, ◌+◌, ◌≤◌, ◌<◌, length, get_or, take, drop}
use Rattle.numbers.specs.Digits.{two_at}
use Rattle.numbers.specs.Number.{number_at}
use Rattle.routes.specs.Family.{Family, levels, width, Role, ending, is_unknown}
use Rattle.candidates.specs.Candidate.{Candidate}
use Rattle.candidates.specs.Answers.{Record, update, announce, withdraw, lookup, reply}
use Rattle.candidates.specs.Bytes.{means}
use Rattle.candidates.specs.Runs.{State, size, sent_at, role_at, taken}
use Rattle.candidates.specs.Seen.{Seen, misfit, foreign, table}
use Rattle.encoded.specs.Turns.{Clear}
use Rattle.words.specs.Table.{seen}
use Rattle.words.specs.CheckReflects.{Fits}
use Rattle.routes.specs.Answers.{Reply}
use Rattle.feed.specs.Series.{Asked}
use Rattle.feed.specs.Local.{answer_at, words_after, Called}
use Rattle.feed.specs.Local as Local
use Rattle.feed.specs.declared.Progress.{Progress}
pub use Rattle.feed.specs.Progress.{one}

-- ---- words that are a table

abbrev pub IsTable : Seen → Type 0
IsTable misfit = ⊥
IsTable foreign = ⊥
IsTable (table A cs) = Unit {0}

abbrev pub room_in : Seen → ℕ
room_in misfit = 0
room_in foreign = 0
room_in (table A cs) = A

abbrev pub list_in : Seen → List Candidate
list_in misfit = []
list_in foreign = []
list_in (table A cs) = cs

-- ---- a record

-- those that begin at i, with an address of L bytes: an announcement from feed f with preference p, a withdrawal from feed f, a
-- lookup
abbrev pub announce_at : ℕ → List ℕ → ℕ → ℕ → ℕ → Record
announce_at L feed i f p =
    update (announce (number_at L feed (i + 1)) (get_or feed (i + 1 + L) 0) (two_at feed (i + 1 + L + 1)) f p)

abbrev pub withdraw_at : ℕ → List ℕ → ℕ → ℕ → Record
withdraw_at L feed i f = update (withdraw (number_at L feed (i + 1)) (get_or feed (i + 1 + L) 0) f)

abbrev pub lookup_at : ℕ → List ℕ → ℕ → Record
lookup_at L feed i = lookup (number_at L feed (i + 1))

-- what is asked for before one is answered: n bytes besides the address
pub record Whole (L : ℕ) (ws feed : List ℕ) (i n : ℕ) : Type 0 where
  pub some : 1 ≤ L
  pub few : L ≤ 16
  pub fits : Fits (length ws)
  pub body : i + L + n ≤ length feed

-- the record of a role that begins at i
abbrev pub here : Family → List ℕ → ℕ → Role → Record
here F feed i r = means (sent_at F feed i r)

-- what is asked for before it is answered: a whole record that is no end
pub record Asks (F : Family) (r : Role) (ws feed : List ℕ) (i : ℕ) : Type 0 where
  pub fits : Fits (length ws)
  pub known : is_unknown r ≡ false
  pub more : r ≢ ending
  pub body : i + size F r ≤ length feed

-- the answer to it on any words of a right size; on a table as its call promises
pub record AskedAny (L : ℕ) (ws : List ℕ) (x : Record) (y : Reply) (vs : List ℕ) : Type 0 where
  pub answer : y ≡ answer_at L ws x
  pub words : vs ≡ words_after L ws x
  pub called : (us : List ℕ) → Called L us ws → Called L us vs
  pub size : length vs ≡ length ws
  pub table : IsTable (seen L ws) → Asked L ws x y vs

-- ---- how far a run has come

-- the run's state, as its counters, the words and the reply bytes stand for it
abbrev pub state_of : ℕ → Progress → List ℕ → List ℕ → State
state_of L p ws b =
    record {
      list = list_in (seen L ws);
      consumed = p.at;
      replies = take p.out b;
      accepted = p.accepted;
      refused = p.refused;
    }

pub record Placed (p : Progress) (feed b : List ℕ) : Type 0 where
  pub at : p.at ≤ length feed
  pub out : p.out ≤ length b
  pub accepted : p.accepted ≤ p.at
  pub refused : p.refused ≤ p.at

-- no test stops the run before the next record
pub record Takes (F : Family) (p : Progress) (ws feed b : List ℕ) : Type 0 where
  pub fits : Fits (length ws)
  pub placed : Placed p feed b
  pub clear : Clear F feed (length b) p.at p.out

-- the record that is next, where a run has come to p
abbrev pub next_at : Family → Progress → List ℕ → Record
next_at F p feed = here F feed p.at (role_at F feed p.at)

-- the record after p was answered: the run has come to q, the words are vs and the reply bytes c
pub record Took (F : Family) (p : Progress) (ws feed b : List ℕ) (q : Progress) (vs c : List ℕ) : Type 0 where
  pub asked : Asked (levels F) ws (next_at F p feed)
      (reply (width F) (room_in (seen (levels F) ws)) (list_in (seen (levels F) ws)) (next_at F p feed)) vs
  pub state : state_of (levels F) q vs c ≡ taken F (room_in (seen (levels F) ws)) feed (state_of (levels F) p ws b)
  pub list : seen (levels F) vs ≡ table (room_in (seen (levels F) ws)) (list_in (seen (levels F) vs))
  pub rest : drop q.out c ≡ drop q.out b
  pub placed : Placed q feed c
  pub on : p.at < q.at
  pub past : p.out ≤ q.out

-- the same on any words of a right size: the state is that of the words
abbrev pub come_to : Progress → List ℕ → List ℕ → Local.State
come_to p ws b =
    record { words = ws; consumed = p.at; replies = take p.out b; accepted = p.accepted; refused = p.refused }

pub record TookAny (F : Family) (p : Progress) (ws feed b : List ℕ) (q : Progress) (vs c : List ℕ) : Type 0 where
  pub state : come_to q vs c ≡ Local.taken F feed (come_to p ws b)
  pub called : (us : List ℕ) → Called (levels F) us ws → Called (levels F) us vs
  pub rest : drop q.out c ≡ drop q.out b
  pub past : p.out ≤ q.out
  pub size : length vs ≡ length ws
  pub placed : Placed q feed c
  pub on : p.at < q.at
  pub table : IsTable (seen (levels F) ws) → Took F p ws feed b q vs c
