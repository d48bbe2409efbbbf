-- What a build leaves in the words, and what its parts promise. Assumes nothing.
use Rattle.std.specs.Prelude.{◌≡◌, ◌≢◌, List, ℕ, zero, suc, ◌+◌, ◌*◌, ◌/◌, ◌^◌, ◌-◌, ◌≤◌, ◌<◌, length, get_or}
use Rattle.routes.specs.Route.{Route}
use Rattle.routes.specs.Room.{distinct}
use Rattle.lengths.specs.Marks.{held_at, entries, best_at, words_for}
use Rattle.lengths.specs.Entries.{entries_to}
use Rattle.candidates.specs.Candidate.{IsList}
use Rattle.listing.specs.Listed.{records_in, candidate_at, candidates_in, list_of, Listed, unlisted, listed}
use Rattle.lengths.specs.Layout.{header_words}
use Rattle.lengths.specs.Laid.{Laid}
use Rattle.lengths_build.specs.Filling.{Kept, Standing, size_for}

-- ---- the call

-- the header with the words of the lengths below m: how many entries all shorter ones have, and how many each. Word 1 and those
-- from the words of m on stay
pub record Header (rs : List Route) (ws us : List ℕ) (m : ℕ) : Type 0 where
  pub before : (l : ℕ) → 1 ≤ l → l < m → get_or us (2 * l) 0 ≡ entries_to (l - 1) rs
  pub sizes : (l : ℕ) → 1 ≤ l → l < m → get_or us (2 * l + 1) 0 ≡ size_for (distinct (entries l rs))
  pub second : get_or us 1 0 ≡ get_or ws 1 0
  pub others : (i : ℕ) → 2 * m ≤ i → i < header_words → get_or us i 0 ≡ get_or ws i 0

-- where the table of length m ends
unfoldable pub table_end : ℕ → List Route → ℕ
table_end zero rs = header_words
table_end (suc m) rs = header_words + 8 * (entries_to m rs + size_for (distinct (entries (suc m) rs)))

-- the list laid out, where there are words enough. The header's words that no length has stay, and so do those past the last
-- table and those past the words that the list needs
pub record Leaves (rs : List Route) (ws us : List ℕ) : Type 0 where
  pub refused : length ws < words_for rs → us ≡ ws
  pub laid : words_for rs ≤ length ws → Laid rs us
  pub header : words_for rs ≤ length ws → Header rs ws us 33
  pub long : length us ≡ length ws
  pub spare : (i : ℕ) → table_end 32 rs ≤ i → get_or us i 0 ≡ get_or ws i 0
  pub past : (i : ℕ) → words_for rs ≤ i → get_or us i 0 ≡ get_or ws i 0

-- a refusal changes no word
abbrev pub LeavesOn : Listed → List ℕ → List ℕ → Type 0
LeavesOn unlisted ws us = us ≡ ws
LeavesOn (listed rs) ws us = Leaves rs ws us

-- ---- its parts

-- no length has more entries than there are addresses
abbrev pub entries_bound : ℕ
entries_bound = 4294967296

-- a record of which the best match is asked: its head v is a route of m bits, or is held by none
pub record Bests (bs ws : List ℕ) (i m v : ℕ) : Type 0 where
  pub list : IsList 32 (candidates_in bs)
  pub here : i < records_in bs
  pub few : 1 ≤ m
  pub most : m ≤ 32
  pub long : header_words ≤ length ws
  pub built : Standing (list_of bs) ws (length ws) m
  pub value : v ≡ (candidate_at bs i).addr / 2 ^ (32 - m)
  pub marker : (candidate_at bs i).len ≢ m → held_at (list_of bs) m v ≡ 0

pub record Cleared (ws us : List ℕ) (from to : ℕ) : Type 0 where
  pub zero : (i : ℕ) → from ≤ i → i < to → get_or us i 0 ≡ 0
  pub kept : Kept ws us from to

pub record Headed (ws us : List ℕ) (m before size : ℕ) : Type 0 where
  pub begins : get_or us (2 * m) 0 ≡ before
  pub sizes : get_or us (2 * m + 1) 0 ≡ size
  pub kept : Kept ws us (2 * m) (2 * m + 2)

-- the table of length m is to be made after the entries before it
pub record Makes (bs ws : List ℕ) (m before count : ℕ) : Type 0 where
  pub list : IsList 32 (candidates_in bs)
  pub few : 1 ≤ m
  pub most : m ≤ 32
  pub near : before < 2 ^ 32
  pub fits : header_words + 8 * (before + count) ≤ length ws
  pub counts : count ≡ distinct (entries m (list_of bs))
  pub built : Standing (list_of bs) ws (header_words + 8 * before) m

pub record Made (bs ws us : List ℕ) (m before count : ℕ) : Type 0 where
  pub built : Standing (list_of bs) us (header_words + 8 * (before + count)) (m + 1)
  pub long : length us ≡ length ws
  pub begins : get_or us (2 * m) 0 ≡ before
  pub sizes : get_or us (2 * m + 1) 0 ≡ size_for count
  pub front : (i : ℕ) → i < 2 * m → get_or us i 0 ≡ get_or ws i 0
  pub others : (i : ℕ) → 2 * m + 2 ≤ i → i < header_words → get_or us i 0 ≡ get_or ws i 0
  pub past : (i : ℕ) → header_words + 8 * (before + size_for count) ≤ i → get_or us i 0 ≡ get_or ws i 0

-- all tables are to be made
pub record Starts (bs ws : List ℕ) : Type 0 where
  pub list : IsList 32 (candidates_in bs)
  pub room : words_for (list_of bs) ≤ length ws
  pub default : get_or ws 0 0 ≡ best_at (list_of bs) 0 0

pub record Ends (bs ws us : List ℕ) : Type 0 where
  pub laid : Laid (list_of bs) us
  pub header : Header (list_of bs) ws us 33
  pub long : length us ≡ length ws
  pub spare : (i : ℕ) → table_end 32 (list_of bs) ≤ i → get_or us i 0 ≡ get_or ws i 0
  pub past : (i : ℕ) → words_for (list_of bs) ≤ i → get_or us i 0 ≡ get_or ws i 0
