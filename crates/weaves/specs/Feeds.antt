-- Two feeds with different feed numbers: the words of demand 3 as item 7 has it, over the width W. Assumes nothing.
--
--     first feed    x₁      x₂ x₃           each feed alone on a cleared table      ─ its replies, its candidates
--     second feed      y₁         y₂        both on one, in any order that keeps    ─ the same replies, cells excepted,
--     both          x₁ y₁ x₂ x₃ y₂          each feed's own                           and the two lists joined
use Rattle.std.specs.Prelude.{◌≡◌, ◌≢◌, ◌⊎◌, Bool, true, cond, not, ◌&&◌, List, [], ◌∷◌, ◌++◌, ℕ, ◌+◌, ◌≤◌, length}
use Rattle.std.proofs.Math.Option.{none, some}
use Rattle.routes.specs.Family.{Family, width}
use Rattle.routes.specs.Route.{Route, route, too_long, stray}
use Rattle.routes.specs.Room.{need}
use Rattle.routes.specs.Answers.{Reply, is_done, is_refused, count}
use Rattle.routes.specs.Bytes.{replies_bytes, replies_at}
use Rattle.candidates.specs.Keyed.{Ordered, find, put, Every}
use Rattle.candidates.specs.Candidate.{Candidate, key}
use Rattle.candidates.specs.Answers.{Update, sound, target, plains, looked_up, records, replies, leaves}
use Rattle.candidates.specs.Bytes.{Sent, all_bytes, written}
use Rattle.candidates.specs.Runs.{Ran}

-- ---- feeds of announcements and withdrawals

-- zs is an interleaving of xs and ys that keeps the order of each
pub data Weave : List Update → List Update → List Update → Type 0 where
  nothing : Weave [] [] []
  left : (x : Update) {xs ys zs : List Update} → Weave xs ys zs → Weave (x ∷ xs) ys (x ∷ zs)
  right : (y : Update) {xs ys zs : List Update} → Weave xs ys zs → Weave xs (y ∷ ys) (y ∷ zs)

-- the same, the two feeds called the other way round
abbrev pub flip : {xs ys zs : List Update} → Weave xs ys zs → Weave ys xs zs
flip nothing = nothing
flip (left x w) = right x (flip w)
flip (right y w) = left y (flip w)

-- of the replies to zs, those to the records of xs
abbrev pub heard : {xs ys zs : List Update} → Weave xs ys zs → List Reply → List Reply
heard w [] = []
heard nothing (r ∷ rs) = []
heard (left x w) (r ∷ rs) = r ∷ heard w rs
heard (right y w) (r ∷ rs) = heard w rs

-- ---- what they name

-- the prefix that an update names, as it was sent, without a hop
abbrev pub prefix : Update → Route
prefix u = route (target u).addr (target u).len 0

-- it is well-formed: not too long, and no bit after the length is set
abbrev pub proper : ℕ → Route → Bool
proper W p = not (too_long W p.len) && not (stray W p.addr p.len)

-- no feed number is used by records of both. A record that is malformed, or whose number is not one of 1 to 4, uses none
abbrev pub Apart : ℕ → List Update → List Update → Type 0
Apart W xs ys = Every (λ x. Every (λ y. sound W x ≡ true → sound W y ≡ true → (target x).feed ≢ (target y).feed) ys) xs

-- the well-formed prefixes named
abbrev pub named : ℕ → List Update → List Route
named W [] = []
named W (u ∷ us) = cond (proper W (prefix u)) (prefix u ∷ named W us) (named W us)

-- ---- the lists

-- two lists joined
abbrev pub join : List Candidate → List Candidate → List Candidate
join [] ys = ys
join (x ∷ xs) ys = put key x (join xs ys)

-- zs holds the candidates of xs and of ys, and no other; these hold none in common
pub record Union (xs ys zs : List Candidate) : Type 0 where
  pub sorted : Ordered key 0 zs
  pub apart : (k : ℕ) → (find key xs k ≡ none) ⊎ (find key ys k ≡ none)
  pub first : (k : ℕ) (c : Candidate) → find key xs k ≡ some c → find key zs k ≡ some c
  pub second : (k : ℕ) (c : Candidate) → find key ys k ≡ some c → find key zs k ≡ some c
  pub only : (k : ℕ) (c : Candidate) → find key zs k ≡ some c → (find key xs k ≡ some c) ⊎ (find key ys k ≡ some c)

-- ---- demand 3, of a table of A arrays

-- the replies to a feed from a cleared table, and the list that it leaves
abbrev pub said : ℕ → ℕ → List Update → List Reply
said W A us = replies W A [] (records us)

abbrev pub kept : ℕ → ℕ → List Update → List Candidate
kept W A us = leaves W A [] (records us)

-- the lists that two feeds leave alone, joined
abbrev pub kept_both : ℕ → ℕ → List Update → List Update → List Candidate
kept_both W A xs ys = join (kept W A xs) (kept W A ys)

-- what the joint feed comes to, by what its two feeds come to alone
pub record Independent (W A : ℕ) {xs ys zs : List Update} (w : Weave xs ys zs) : Type 0 where
  pub first_heard : plains (heard w (said W A zs)) ≡ plains (said W A xs)
  pub second-heard : plains (heard (flip w) (said W A zs)) ≡ plains (said W A ys)
  pub joined : kept W A zs ≡ kept_both W A xs ys
  pub union : Union (kept W A xs) (kept W A ys) (kept_both W A xs ys)
  -- so it answers and writes itself out accordingly
  pub lookups : (a : ℕ) → looked_up W (kept W A zs) a ≡ looked_up W (kept_both W A xs ys) a
  pub out : (F : Family) → written F (kept W A zs) ≡ written F (kept_both W A xs ys)

-- what is asked of the two feeds: no number is used by both, and all prefixes that are named need, together, no more arrays than
-- there are. A prefix may stand in both
pub record Meets (W A : ℕ) (xs ys : List Update) : Type 0 where
  pub apart : Apart W xs ys
  pub room : need W (named W xs ++ named W ys) ≤ A

-- in every interleaving
abbrev pub Demand3 : ℕ → Type 0
Demand3 W = (A : ℕ) (xs ys zs : List Update) (w : Weave xs ys zs) → Meets W A xs ys → Independent W A w

-- ---- a feed as bytes, run

abbrev pub bytes : Family → List Sent → List ℕ → List ℕ
bytes F ss rest = all_bytes F ss ++ rest

-- what may follow the records: nothing; or an end, and whatever comes after it
abbrev pub Closes : List ℕ → Type 0
Closes [] = Unit {0}
Closes (k ∷ t) = k ≡ 0

-- stop 0 at an end, which is consumed too
abbrev pub stop_of : List ℕ → ℕ
stop_of [] = 1
stop_of (k ∷ t) = 0

abbrev pub end_of : List ℕ → ℕ
end_of [] = 0
end_of (k ∷ t) = 1

-- the records ss were sent for the updates us, and each was answered, in order, as the list answers it
pub record Answered (F : Family) (A : ℕ) (us : List Update) (ss : List Sent) (rest : List ℕ) (o : Ran) : Type 0 where
  pub stop : o.stop ≡ stop_of rest
  pub consumed : o.end.consumed ≡ length (all_bytes F ss) + end_of rest
  pub replies : o.end.replies ≡ replies_bytes (said (width F) A us)
  pub accepted : o.end.accepted ≡ count is_done (said (width F) A us)
  pub refused : o.end.refused ≡ count is_refused (said (width F) A us)
  pub list : o.end.list ≡ kept (width F) A us

-- the replies to a feed, one for each update, read back from the first of the reply bytes on
abbrev pub read_back : List Update → List ℕ → List Reply
read_back us bs = replies_at (length us) bs 0
