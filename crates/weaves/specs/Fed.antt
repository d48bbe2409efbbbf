-- Two feeds and an interleaving of them, each as bytes, each run on a cleared table of A arrays with reply room enough: what
-- demand 3 says of the three runs. Assumes nothing.
use Rattle.std.specs.Prelude.{◌≡◌, refl, ◌≢◌, Bool, List, [], ◌∷◌, ◌++◌, ℕ, suc, ◌+◌, length}
use Rattle.std.proofs.Common.{ap, arith}
use Rattle.routes.specs.Family.{Family, width}
use Rattle.routes.specs.Answers.{Reply, count}
use Rattle.routes.specs.Bytes.{replies_bytes}
use Rattle.candidates.specs.Candidate.{Candidate}
use Rattle.candidates.specs.Answers.{Update, update, plains, next, records, replies}
use Rattle.candidates.specs.Bytes.{Sent, meanings, AllFit}
use Rattle.candidates.specs.Runs.{Ran, run}
use Rattle.encoded.specs.Replies.{answers_back}
use Rattle.weaves.specs.Feeds.{Weave, nothing, left, right, flip, heard, join, said, Independent, Closes}
use Rattle.weaves.specs.Feeds.{bytes, read_back, Answered}

-- ---- a feed of updates, run

-- records that mean the updates; their numbers fit their bytes; after them comes nothing, or an end and
-- whatever follows; and the run does not stop for want of reply room
pub record Fed (F : Family) (A : ℕ) (us : List Update) : Type 0 where
  pub sent : List Sent
  pub meant : meanings sent ≡ records us
  pub fits : AllFit F sent
  pub rest : List ℕ
  pub closes : Closes rest
  pub room : ℕ
  pub enough : (run F A [] (bytes F sent rest) room).stop ≢ 4

abbrev pub outcome : {F : Family} {A : ℕ} {us : List Update} → Fed F A us → Ran
outcome {F} {A} {us} f = run F A [] (bytes F f.sent f.rest) f.room

-- ---- its replies, read back from their bytes

-- those that a run wrote
abbrev pub replied : {F : Family} {A : ℕ} {us : List Update} → Fed F A us → List Reply
replied {us = us} f = read_back us (outcome f).end.replies

pub as_many : (us : List Update) → length (records us) ≡ length us
as_many [] = refl
as_many (u ∷ us) = ap suc (as_many us)

-- they are what was answered, whatever follows them
pub read_said : (F : Family) (A : ℕ) (us : List Update) (rest : List ℕ)
    → read_back us (replies_bytes (said (width F) A us) ++ rest) ≡ said (width F) A us
read_said F A us rest = rw (as_many us) at (answers_back F A [] (records us) [] rest tt)

-- ---- the counts

-- each reply is to a record of one of the feeds
pub heard-count : (F : Family) (p : Reply → Bool) (A : ℕ) (cs : List Candidate) {xs ys zs : List Update} (w : Weave xs ys zs)
    → count p (replies (width F) A cs (records zs)) ≡ count p (heard w (replies (width F) A cs (records zs))) + count p
    (heard (flip w) (replies (width F) A cs (records zs)))
heard-count F p A cs nothing = refl
heard-count F p A cs (left x w) = omega (arith, heard-count F p A (next (width F) A cs (update x)) w)
heard-count F p A cs (right y w) = omega (arith, heard-count F p A (next (width F) A cs (update y)) w)

-- ---- demand 3

-- the joint run j beside the runs f and s of its two feeds alone
pub record Together {F : Family} {A : ℕ} {xs ys zs : List Update} (w : Weave xs ys zs)
    (j : Fed F A zs) (f : Fed F A xs) (s : Fed F A ys) : Type 0 where
  pub joint : Answered F A zs j.sent j.rest (outcome j)
  pub first : Answered F A xs f.sent f.rest (outcome f)
  pub second : Answered F A ys s.sent s.rest (outcome s)
  -- the replies of the joint run to each feed, read back from its bytes, are those of that feed's own run, cells excepted
  pub first_read : plains (heard w (replied j)) ≡ plains (replied f)
  pub second_read : plains (heard (flip w) (replied j)) ≡ plains (replied s)
  -- these answers are alike, and the list is the join
  pub independent : Independent (width F) A w
  pub list : (outcome j).end.list ≡ join (outcome f).end.list (outcome s).end.list
  pub accepted : (outcome j).end.accepted ≡ (outcome f).end.accepted + (outcome s).end.accepted
  pub refused : (outcome j).end.refused ≡ (outcome f).end.refused + (outcome s).end.refused
