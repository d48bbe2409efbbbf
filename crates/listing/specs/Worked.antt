-- Worked cases of bytes that are a list and of bytes that are none, decided by computation. Assumes nothing.
use Rattle.std.specs.Prelude.{◌≡◌, refl, List, [], ◌∷◌, ◌++◌, ℕ}
use Rattle.numbers.specs.Digits.{digits}
use Rattle.routes.specs.Family.{v4}
use Rattle.routes.specs.Route.{route}
use Rattle.routes.specs.Small.{ip}
use Rattle.logic.specs.Every.{all_b}
use Rattle.candidates.specs.Bytes.{announces, announces_for, all_bytes}
use Rattle.listing.specs.Listed.{records_in, candidates_from, whole_b, Listed, unlisted, listed, listed_in}

abbrev ten : ℕ
ten = ip 10 0 0 0

abbrev eleven : ℕ
eleven = ip 11 0 0 0

-- no record at all, and no byte at all
pub empty : (listed_in (0 ∷ []) ≡ listed []) × (listed_in [] ≡ unlisted)
unfolding listed_in whole_b records_in candidates_from all_b
empty = (refl, refl)

abbrev of : List ℕ → Listed
of bs = listed_in (bs ++ (0 ∷ []))

-- one kind or the other; of two candidates of a prefix the one that wins
pub lists : (of (all_bytes v4 (announces ten 8 5 ∷ announces eleven 8 7 ∷ [])) ≡ listed (route ten 8 5 ∷ route eleven 8 7 ∷ []))
    × (of (all_bytes v4 (announces_for ten 8 5 1 10 ∷ announces_for ten 8 6 2 5 ∷ announces_for eleven 8 7 4 0 ∷ []))
    ≡ listed (route ten 8 6 ∷ route eleven 8 7 ∷ []))
    × (of (all_bytes v4 (announces_for ten 8 5 1 5 ∷ announces_for ten 8 6 2 5 ∷ [])) ≡ listed (route ten 8 5 ∷ []))
unfolding listed_in whole_b records_in candidates_from all_b digits
lists = (refl, refl, refl)

-- both kinds, feeds that do not ascend, one feed twice, no feed, another kind, nothing that ends it
pub none : (of (all_bytes v4 (announces ten 8 5 ∷ announces_for eleven 8 7 4 0 ∷ [])) ≡ unlisted)
    × (of (all_bytes v4 (announces_for ten 8 5 1 0 ∷ announces eleven 8 7 ∷ [])) ≡ unlisted)
    × (of (all_bytes v4 (announces_for ten 8 5 2 10 ∷ announces_for ten 8 6 1 5 ∷ [])) ≡ unlisted)
    × (of (all_bytes v4 (announces_for ten 8 5 1 10 ∷ announces_for ten 8 6 1 5 ∷ [])) ≡ unlisted)
    × (of (all_bytes v4 (announces_for ten 8 5 5 0 ∷ [])) ≡ unlisted)
    × (of (2 ∷ 10 ∷ 0 ∷ 0 ∷ 0 ∷ 8 ∷ 0 ∷ 5 ∷ []) ≡ unlisted)
    × (listed_in (all_bytes v4 (announces_for ten 8 5 1 10 ∷ [])) ≡ unlisted)
unfolding listed_in whole_b records_in candidates_from all_b digits
none = (refl, refl, refl, refl, refl, refl, refl)
