-- The places of a front: a candidate with its penalty, whether it is held back, and what is kept of it. They strictly increase
-- by candidate, in the order of writing out, so that the places of a front are one value. Assumes nothing.
--
--     10.0.0.0/8 feed 1   penalty 4000   held back   kept via 6 preference 0
--     10.0.0.0/8 feed 2   penalty 1000
use Rattle.std.specs.Prelude.{◌≡◌, Bool, true, false, cond, List, [], ◌∷◌, ℕ, suc, ◌+◌, ◌-◌, ◌*◌, ◌/◌, ◌%◌, ◌^◌, ◌≤◌, ◌<◌, length}
use Rattle.std.proofs.Math.Option.{Option, none, some}
use Rattle.candidates.specs.Keyed.{Ordered, find, Every}
use Rattle.candidates.specs.Candidate.{place}

-- ---- the numbers of document 02

abbrev pub most_places : ℕ
most_places = 256

-- what an accepted withdrawal adds, and up to where
abbrev pub per_withdrawal : ℕ
per_withdrawal = 1000

abbrev pub most_penalty : ℕ
most_penalty = 12000

-- over the one a candidate is held back, below the other it is let go
abbrev pub held_over : ℕ
held_over = 3000

abbrev pub free_below : ℕ
free_below = 750

-- ---- what is kept: one number, 0 for nothing

abbrev pub kept_of : ℕ → ℕ → ℕ
kept_of p h = p * 65536 + h

abbrev pub kept_hop : ℕ → ℕ
kept_hop k = k % 65536

abbrev pub kept_preference : ℕ → ℕ
kept_preference k = k / 65536

-- ---- a place

pub record Mark : Type 0 where
  pub penalty : ℕ
  pub back : Bool
  pub kept : ℕ

pub record Place : Type 0 where
  pub addr : ℕ
  pub len : ℕ
  pub feed : ℕ
  pub mark : Mark

abbrev pub mark : ℕ → Bool → ℕ → Mark
mark n b k = record { penalty = n; back = b; kept = k }

abbrev pub placed : ℕ → ℕ → ℕ → Mark → Place
placed a l f m = record { addr = a; len = l; feed = f; mark = m }

abbrev pub key : Place → ℕ
key p = place p.addr p.len p.feed

-- the place with another mark
abbrev pub marked : Place → Mark → Place
marked p m = placed p.addr p.len p.feed m

-- ---- the places of a front

-- the mark of a candidate without a place
abbrev pub blank : Mark
blank = mark 0 false 0

abbrev pub mark_in : Option Place → Mark
mark_in none = blank
mark_in (some p) = p.mark

abbrev pub mark_at : List Place → ℕ → Mark
mark_at ps k = mark_in (find key ps k)

abbrev pub is_there : Option Place → Bool
is_there none = false
is_there (some p) = true

abbrev pub has : List Place → ℕ → Bool
has ps k = is_there (find key ps k)

-- how many are held back
abbrev pub backs : List Place → ℕ
backs [] = 0
backs (p ∷ ps) = cond p.mark.back (suc (backs ps)) (backs ps)

-- ---- what a place is, and a front

-- nothing is kept, or a hop with a preference
pub record Kept (k : ℕ) : Type 0 where
  pub hop : 1 ≤ k → 1 ≤ kept_hop k
  pub small : k < 16777216

-- held back while something is kept, or from over 3,000 on until below 750; not held back it has a penalty left
pub record IsMark (m : Mark) : Type 0 where
  pub low : m.penalty ≤ most_penalty
  pub some : m.back ≡ false → 1 ≤ m.penalty
  pub calm : m.back ≡ false → m.penalty ≤ held_over
  pub empty : m.back ≡ false → m.kept ≡ 0
  pub full : m.back ≡ true → m.kept ≡ 0 → free_below ≤ m.penalty
  pub sound : Kept m.kept

pub record IsPlace (W : ℕ) (p : Place) : Type 0 where
  pub fits : p.len ≤ W
  pub inside : p.addr < 2 ^ W
  pub clean : p.addr % 2 ^ (W - p.len) ≡ 0
  pub first : 1 ≤ p.feed
  pub last : p.feed ≤ 4
  pub right : IsMark p.mark

pub record IsFront (W : ℕ) (ps : List Place) : Type 0 where
  pub sorted : Ordered key 0 ps
  pub places : Every (IsPlace W) ps
  pub few : length ps ≤ most_places
