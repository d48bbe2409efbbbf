-- Demand 3 of three calls of the run: the joint feed and each of its two feeds alone, each on lent words of a cleared table of A
-- arrays. It follows from what the run promises of any words and any feed, and from nothing else of it. Assumes nothing.
--
--     cleared words ── both ──▶ words of the join          lookups, check and writing out go by what the words are seen to be,
--     cleared words ── first ─▶ words of its list          so they answer by the join
--     cleared words ── second ▶ words of its list
use Rattle.std.specs.Prelude.{◌≡◌, ◌≢◌, List, [], ◌++◌, ℕ, ◌+◌, ◌≤◌, length, drop}
use Rattle.routes.specs.Family.{Family, levels, width}
use Rattle.routes.specs.Answers.{Reply}
use Rattle.routes.specs.Bytes.{replies_bytes}
use Rattle.routes.specs.Seen.{gives}
use Rattle.candidates.specs.Candidate.{Candidate}
use Rattle.candidates.specs.Answers.{Update, plains, looked_up, records}
use Rattle.candidates.specs.Bytes.{Sent, meanings, AllFit, written}
use Rattle.candidates.specs.Runs.{Ran, run}
use Rattle.candidates.specs.Seen.{table, lookup_on, check_on, bytes_for, count_on, front_on, run_on, ran_on, replied_on}
use Rattle.laws.specs.Given.{given_one}
use Rattle.words.specs.Table.{seen}
use Rattle.weaves.specs.Feeds.{Weave, flip, heard, said, kept, kept_both, Independent, Closes, bytes, read_back, Answered}
use Rattle.weaves.specs.Fed.{Fed}

-- what the run promises of the words ws, a feed and the reply bytes b, where it leaves vs and c and has the outcome o
pub record Promise (F : Family) (ws feed b vs c : List ℕ) (o : Ran) : Type 0 where
  pub answer : run_on F (seen (levels F) ws) feed b ≡ gives o
  pub list : seen (levels F) vs ≡ ran_on F (seen (levels F) ws) feed b
  pub replies : c ≡ replied_on F (seen (levels F) ws) feed b

-- of words that are a table, the outcome is the run's of their list
pub promise : (F : Family) {A : ℕ} {cs : List Candidate} {ws feed b vs c : List ℕ} → seen (levels F) ws ≡ table A cs
    → seen (levels F) vs ≡ ran_on F (seen (levels F) ws) feed b → c ≡ replied_on F (seen (levels F) ws) feed b
    → Promise F ws feed b vs c (run F A cs feed (length b))
promise F t l r = record { answer = rw t; list = l; replies = r }

-- a call with the bytes of records that mean us, on a cleared table of A arrays
pub record Call (F : Family) (A : ℕ) (us : List Update) : Type 0 where
  pub words : List ℕ
  pub sent : List Sent
  pub rest : List ℕ
  pub reply : List ℕ
  pub words' : List ℕ
  pub reply' : List ℕ
  pub ran : Ran
  pub cleared : seen (levels F) words ≡ table A []
  pub meant : meanings sent ≡ records us
  pub fits : AllFit F sent
  pub closes : Closes rest
  pub runs : Promise F words (bytes F sent rest) reply words' reply' ran
  pub enough : ran.stop ≢ 4

-- ---- one call

-- how it answers, the reply bytes, and the list that the words then stand for
pub record Left {F : Family} {A : ℕ} {us : List Update} (c : Call F A us) : Type 0 where
  pub answer : Answered F A us c.sent c.rest c.ran
  pub replies : c.reply' ≡ replies_bytes (said (width F) A us) ++ drop (length (replies_bytes (said (width F) A us))) c.reply
  pub list : seen (levels F) c.words' ≡ table A (kept (width F) A us)

module _ {F : Family} {A : ℕ} {us : List Update} (c : Call F A us) where
  abbrev o : Ran
  o = run F A [] (bytes F c.sent c.rest) (length c.reply)

  pub ran_is : o ≡ c.ran
  ran_is = given_one (rw c.cleared at c.runs.answer)

  abbrev pub fed : Fed F A us
  fed = record {
    sent = c.sent;
    meant = c.meant;
    fits = c.fits;
    rest = c.rest;
    closes = c.closes;
    room = length c.reply;
    enough = rw ran_is c.enough;
  }

  -- the replies, read back from the reply bytes
  abbrev pub replied : List Reply
  replied = read_back us c.reply'

-- ---- three calls

-- the joint call j beside the calls f and s of its two feeds alone
pub record Called {F : Family} {A : ℕ} {xs ys zs : List Update} (w : Weave xs ys zs)
    (j : Call F A zs) (f : Call F A xs) (s : Call F A ys) : Type 0 where
  pub joint : Left j
  pub first : Left f
  pub second : Left s
  -- the replies to each feed, read back from the joint call's reply bytes, are those of that feed's own call, cells excepted
  pub first_read : plains (heard w (replied j)) ≡ plains (replied f)
  pub second_read : plains (heard (flip w) (replied j)) ≡ plains (replied s)
  -- their answers are alike, and their lists joined are a union
  pub independent : Independent (width F) A w
  pub accepted : j.ran.end.accepted ≡ f.ran.end.accepted + s.ran.end.accepted
  pub refused : j.ran.end.refused ≡ f.ran.end.refused + s.ran.end.refused
  -- the words stand for the join, and each call on them then answers by it
  pub list : seen (levels F) j.words' ≡ table A (kept_both (width F) A xs ys)
  pub lookups : (walked : Reply) (a : ℕ)
      → lookup_on (width F) (seen (levels F) j.words') walked a ≡ looked_up (width F) (kept_both (width F) A xs ys) a
  pub check : check_on (width F) (seen (levels F) j.words') ≡ check_on (width F) (table A (kept_both (width F) A xs ys))
  pub count : (room : ℕ) → count_on F (seen (levels F) j.words') room ≡ count_on F (table A (kept_both (width F) A xs ys)) room
  pub front : (room : ℕ) → front_on F (seen (levels F) j.words') room ≡ front_on F (table A (kept_both (width F) A xs ys)) room
  pub out : (room : ℕ) → bytes_for F (length (kept_both (width F) A xs ys)) ≤ room
      → front_on F (seen (levels F) j.words') room ≡ written F (kept_both (width F) A xs ys)
