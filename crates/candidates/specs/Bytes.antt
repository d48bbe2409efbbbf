-- The bytes of a family's records, of candidates written out, and of a route list of records that name no feed. Those mean feed
-- 1, preference 0; numbers have the high byte first, and an address has as many as the family has levels. Assumes nothing.
--
--     announces   kind  address  length 1  hop 2        announces_for   kind  address  length 1  hop 2  feed 1  preference 1
--     withdraws   kind  address  length 1               withdraws_for   kind  address  length 1  feed 1
--     looks       kind  address
use Rattle.std.specs.Prelude.{List, [], ◌∷◌, ◌++◌, ℕ, ◌^◌, ◌<◌}
use Rattle.numbers.specs.Digits.{one, two, digits}
use Rattle.routes.specs.Family.{Family, v4, levels, width, Role, announcing, withdrawing, looking, announcing_for}
use Rattle.routes.specs.Family.{withdrawing_for}
use Rattle.routes.specs.Family.{kind_of}
use Rattle.routes.specs.Route.{Route}
use Rattle.candidates.specs.Candidate.{Candidate}
use Rattle.candidates.specs.Answers.{announce, withdraw, Record, update, lookup}

-- a record as it is sent
pub data Sent : Type 0 where
  announces : (address length hop : ℕ) → Sent
  withdraws : (address length : ℕ) → Sent
  looks : (address : ℕ) → Sent
  announces_for : (address length hop feed preference : ℕ) → Sent
  withdraws_for : (address length feed : ℕ) → Sent

-- what it asks for
abbrev pub means : Sent → Record
means (announces a l h) = update (announce a l h 1 0)
means (withdraws a l) = update (withdraw a l 1)
means (looks a) = lookup a
means (announces_for a l h f p) = update (announce a l h f p)
means (withdraws_for a l f) = update (withdraw a l f)

abbrev pub meanings : List Sent → List Record
meanings [] = []
meanings (x ∷ xs) = means x ∷ meanings xs

-- the role of its kind
abbrev pub role : Sent → Role
role (announces a l h) = announcing
role (withdraws a l) = withdrawing
role (looks a) = looking
role (announces_for a l h f p) = announcing_for
role (withdraws_for a l f) = withdrawing_for

-- what follows the kind and the address
abbrev pub tail_bytes : Sent → List ℕ
tail_bytes (announces a l h) = one l ++ two h
tail_bytes (withdraws a l) = one l
tail_bytes (looks a) = []
tail_bytes (announces_for a l h f p) = one l ++ (two h ++ (one f ++ one p))
tail_bytes (withdraws_for a l f) = one l ++ one f

abbrev pub address_of : Sent → ℕ
address_of (announces a l h) = a
address_of (withdraws a l) = a
address_of (looks a) = a
address_of (announces_for a l h f p) = a
address_of (withdraws_for a l f) = a

-- the first byte
abbrev pub kind : Family → Sent → ℕ
kind F x = kind_of F (role x)

abbrev pub sent_bytes : Family → Sent → List ℕ
sent_bytes F x = kind F x ∷ (digits (levels F) (address_of x) ++ tail_bytes x)

abbrev pub all_bytes : Family → List Sent → List ℕ
all_bytes F [] = []
all_bytes F (x ∷ xs) = sent_bytes F x ++ all_bytes F xs

-- ---- records that their bytes can hold

abbrev pub TailFits : Sent → Type 0
TailFits (announces a l h) = (l < 256) × (h < 65536)
TailFits (withdraws a l) = l < 256
TailFits (looks a) = Unit {0}
TailFits (announces_for a l h f p) = (l < 256) × (h < 65536) × (f < 256) × (p < 256)
TailFits (withdraws_for a l f) = (l < 256) × (f < 256)

-- the record's numbers fit their bytes: where the family has no such record, its kind does not
pub record Fits (F : Family) (x : Sent) : Type 0 where
  pub kind : kind F x < 256
  pub address : address_of x < 2 ^ width F
  pub tail : TailFits x

abbrev pub AllFit : Family → List Sent → Type 0
AllFit F [] = Unit {0}
AllFit F (x ∷ xs) = Fits F x × AllFit F xs

-- ---- writing out

-- a list as the records that announce it
abbrev pub announced : List Candidate → List Sent
announced [] = []
announced (c ∷ cs) = announces_for c.addr c.len c.hop c.feed c.pref ∷ announced cs

-- each candidate as an announcement for its feed, then an end
abbrev pub written : Family → List Candidate → List ℕ
written F cs = all_bytes F (announced cs) ++ (0 ∷ [])

-- ---- a route list of kind 1, as a copy is built from

-- routes as the records that announce them
abbrev pub plainly : List Route → List Sent
plainly [] = []
plainly (r ∷ rs) = announces r.addr r.len r.hop ∷ plainly rs

-- each route as a kind 1 record, then kind 0
abbrev pub written_plainly : List Route → List ℕ
written_plainly rs = all_bytes v4 (plainly rs) ++ (0 ∷ [])
