-- A way that is begun on lent words stands for what resolving there comes to: of a table, over the list. Assumes nothing.
use Rattle.std.specs.Prelude.{◌≡◌, refl, List, ℕ}
use Rattle.routes.specs.Match.{Match, longest}
use Rattle.routes.specs.Match as match
use Rattle.routes.specs.Block.{block}
use Rattle.routes.specs.Answers.{matched}
use Rattle.routes.specs.Seen.{Answer, gives}
use Rattle.candidates.specs.Candidate.{Candidate}
use Rattle.candidates.specs.Winners.{winners}
use Rattle.candidates.specs.Seen.{Seen, table, lookup_on}
use Rattle.lookup.specs.Walk.{walk}
use Rattle.resolver.specs.Entry.{Entries, lead_by}
use Rattle.resolver.specs.Resolve.{match_of}
use Rattle.resolver.specs.declared.entry.Hop.{Hop}

-- a lookup on a table, without the block, is the longest match over the winners
match_back : (m : Match) (q : ℕ) → match_of (matched m q) ≡ gives m
match_back match.none q = refl
match_back (match.found h l) q = refl

abbrev in_list : List Candidate → ℕ → Answer Match
in_list cs b = gives (longest 32 b (winners cs))

module _ (ws : List ℕ) where
  -- what a lookup answers, by what the words are seen to be
  abbrev pub looks_as : Seen → ℕ → Answer Match
  looks_as s b = match_of (lookup_on 32 s (walk 4 ws b) b)

  pub listed : (A : ℕ) (cs : List Candidate) → looks_as (table A cs) ≡ in_list cs
  listed A cs = λ i b. match_back (longest 32 b (winners cs)) (block 32 (winners cs) b) i

module _ (at : ℕ → Hop) (count : ℕ) where
  abbrev pub entries : Entries
  entries = record { count = count; lead = lead_by at }
