-- Item 8: neighbouring updates on different candidates that may be swapped, with no promise of room. Assumes nothing.
--
--     withdraw x, withdraw y                       ─ withdraw y, withdraw x
--     announce x, announce y, both accepted        ─ announce y, announce x
--     announce x, accepted, withdraw y             ─ withdraw y, announce x
use Rattle.std.specs.Prelude.{◌≡◌, ◌≢◌, true, List, [], ◌∷◌, ℕ, ◌≤◌}
use Rattle.routes.specs.Room.{need}
use Rattle.routes.specs.Answers.{Reply, is_done}
use Rattle.candidates.specs.Candidate.{Candidate, IsList}
use Rattle.candidates.specs.Winners.{winners}
use Rattle.candidates.specs.Answers.{Update, announce, withdraw, Record, target, answer, after, plain, replies}

-- ---- one swap

-- a table of A arrays holds the list
pub record Table (W A : ℕ) (cs : List Candidate) : Type 0 where
  pub list : IsList W cs
  pub fits : need W (winners cs) ≤ A

-- u then v may be swapped
pub data Move (W A : ℕ) (cs : List Candidate) : Update → Update → Type 0 where
  withdrawals : (a l f b m g : ℕ) → target (withdraw a l f) ≢ target (withdraw b m g)
      → Move W A cs (withdraw a l f) (withdraw b m g)
  announcements : (a l h f p b m i g q : ℕ) → target (announce a l h f p) ≢ target (announce b m i g q)
      → is_done (answer W A cs (announce a l h f p)) ≡ true
      → is_done (answer W A (after W A cs (announce a l h f p)) (announce b m i g q)) ≡ true
      → Move W A cs (announce a l h f p) (announce b m i g q)
  ahead : (a l h f p b m g : ℕ) → target (announce a l h f p) ≢ target (withdraw b m g)
      → is_done (answer W A cs (announce a l h f p)) ≡ true → Move W A cs (announce a l h f p) (withdraw b m g)

-- what a swap leaves: u then v beside v then u
pub record Swapped (W A : ℕ) (cs : List Candidate) (u v : Update) : Type 0 where
  pub one : plain (answer W A cs u) ≡ plain (answer W A (after W A cs v) u)
  pub other : plain (answer W A (after W A cs u) v) ≡ plain (answer W A cs v)
  -- so each is accepted or refused as before
  pub one_done : is_done (answer W A cs u) ≡ is_done (answer W A (after W A cs v) u)
  pub other_done : is_done (answer W A (after W A cs u) v) ≡ is_done (answer W A cs v)
  pub list : after W A (after W A cs u) v ≡ after W A (after W A cs v) u
  -- so all later answers agree, cells included
  pub later : (xs : List Record) → replies W A (after W A (after W A cs u) v) xs ≡ replies W A (after W A (after W A cs v) u) xs

-- ---- any number of them, one after the other

-- vs comes from us by such moves, where a table that holds cs begins
pub data Moves (W A : ℕ) : List Candidate → List Update → List Update → Type 0 where
  same : {cs : List Candidate} {us : List Update} → Moves W A cs us us
  here : {cs : List Candidate} (u v : Update) (us : List Update) → Move W A cs u v → Moves W A cs (u ∷ v ∷ us) (v ∷ u ∷ us)
  past : {cs : List Candidate} (u : Update) {us vs : List Update} → Moves W A (after W A cs u) us vs
      → Moves W A cs (u ∷ us) (u ∷ vs)
  then : {cs : List Candidate} {us vs ws : List Update} → Moves W A cs us vs → Moves W A cs vs ws → Moves W A cs us ws

-- an update with its answer, cells excepted
pub record Told : Type 0 where
  pub sent : Update
  pub told : Reply

abbrev pub tolds : ℕ → ℕ → List Candidate → List Update → List Told
tolds W A cs [] = []
tolds W A cs (u ∷ us) = record { sent = u; told = plain (answer W A cs u) } ∷ tolds W A (after W A cs u) us

abbrev pub ends : ℕ → ℕ → List Candidate → List Update → List Candidate
ends W A cs [] = cs
ends W A cs (u ∷ us) = ends W A (after W A cs u) us

-- the same in another order
pub data Reordered : List Told → List Told → Type 0 where
  same : {xs : List Told} → Reordered xs xs
  here : (x y : Told) (xs : List Told) → Reordered (x ∷ y ∷ xs) (y ∷ x ∷ xs)
  past : (x : Told) {xs ys : List Told} → Reordered xs ys → Reordered (x ∷ xs) (x ∷ ys)
  then : {xs ys zs : List Told} → Reordered xs ys → Reordered ys zs → Reordered xs zs

-- what two such feeds come to
pub record Alike (W A : ℕ) (cs : List Candidate) (us vs : List Update) : Type 0 where
  pub answers : Reordered (tolds W A cs us) (tolds W A cs vs)
  pub list : ends W A cs us ≡ ends W A cs vs
  pub later : (xs : List Record) → replies W A (ends W A cs us) xs ≡ replies W A (ends W A cs vs) xs
