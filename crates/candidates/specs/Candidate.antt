-- Candidates: a route that a feed, 1 to 4, has announced for a prefix, with a preference. The list is strictly increasing in the
-- order of writing out, so that a list is one value. Assumes nothing.
--
--     10.0.0.0/8 feed 1 via 5 preference 10 ── 10.0.0.0/8 feed 2 via 6 preference 5      by address, by length, then by feed
use Rattle.std.specs.Prelude.{Bool, ◌||◌, List, ℕ, ◌+◌, ◌*◌, ◌≤◌, ◌<◌, ltb, eqb}
use Rattle.std.proofs.Math.Option.{Option, none, some}
use Rattle.routes.specs.Route.{route, IsRoute}
use Rattle.candidates.specs.Keyed.{Ordered, find, Every}

pub record Candidate : Type 0 where
  pub addr : ℕ
  pub len : ℕ
  pub feed : ℕ
  pub pref : ℕ
  pub hop : ℕ

abbrev pub candidate : ℕ → ℕ → ℕ → ℕ → ℕ → Candidate
candidate a l f p h = record { addr = a; len = l; feed = f; pref = p; hop = h }

-- no feed number
abbrev pub bad_feed : ℕ → Bool
bad_feed f = eqb f 0 || ltb 4 f

-- ---- the order of writing out: address, length, feed

-- the key of a prefix, as of a route
abbrev pub prefix_key : Candidate → ℕ
prefix_key c = c.addr * 256 + c.len

abbrev pub place : ℕ → ℕ → ℕ → ℕ
place a l f = (a * 256 + l) * 8 + f

abbrev pub key : Candidate → ℕ
key c = place c.addr c.len c.feed

-- ---- the list

abbrev pub hop_of : Option Candidate → ℕ
hop_of none = 0
hop_of (some c) = c.hop

-- the hop of a candidate, 0 where it is not held
abbrev pub held : List Candidate → ℕ → ℕ → ℕ → ℕ
held cs a l f = hop_of (find key cs (place a l f))

pub record IsCandidate (W : ℕ) (c : Candidate) : Type 0 where
  pub route : IsRoute W (route c.addr c.len c.hop)
  pub low : 1 ≤ c.feed
  pub high : c.feed ≤ 4
  pub byte : c.pref < 256

pub record IsList (W : ℕ) (cs : List Candidate) : Type 0 where
  pub sorted : Ordered key 0 cs
  pub candidates : Every (IsCandidate W) cs
