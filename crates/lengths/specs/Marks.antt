-- The markers of a list, and the words that it needs when laid out by lengths. A route's markers are its heads at the lengths
-- where the way to its own turns longer; one that is itself a route is not counted, and each is counted once. Assumes nothing.
--
--     10.1.2.0/24     16 → 24                   one marker, 10.1.0.0/16
--     10.1.2.0/23     16 → 24 → 20 → 22 → 23    three: 10.1.0.0/16, 10.1.0.0/20, 10.1.0.0/22
use Rattle.std.specs.Prelude.{Bool, cond, ◌||◌, List, [], ◌∷◌, ℕ, zero, suc, ◌+◌, ◌-◌, ◌*◌, ◌/◌, ◌^◌, length, eqb}
use Rattle.routes.specs.Route.{Route, hop_at}
use Rattle.routes.specs.Room.{distinct}
use Rattle.listing.specs.Heads.{picks}
use Rattle.lengths.specs.Way.{turns_at, best}
use Rattle.lengths.specs.Layout.{header_words}

-- the hop held for the prefix of m bits whose value is v, 0 where it is not held
abbrev pub held_at : List Route → ℕ → ℕ → ℕ
held_at rs m v = hop_at rs (v * 2 ^ (32 - m) * 256 + m)

-- of values of m bits, those that are no routes
abbrev pub unheld : List Route → ℕ → List ℕ → List ℕ
unheld rs m [] = []
unheld rs m (v ∷ vs) = cond (eqb (held_at rs m v) 0) (v ∷ unheld rs m vs) (unheld rs m vs)

-- the markers of length m
abbrev pub marks : ℕ → List Route → List ℕ
marks m rs = unheld rs m (picks (turns_at m) m rs)

-- of the lengths 1 to m
unfoldable pub markers_to : ℕ → List Route → ℕ
markers_to zero rs = 0
markers_to (suc m) rs = markers_to m rs + distinct (marks (suc m) rs)

abbrev pub markers : List Route → ℕ
markers rs = markers_to 32 rs

-- the words that a list needs
abbrev pub words_for : List Route → ℕ
words_for rs = 8 * (length rs + markers rs) + header_words

-- ---- the entries of length m: routes of that length, and markers

abbrev pub is_entry : ℕ → ℕ → Bool
is_entry m l = eqb l m || turns_at m l

abbrev pub entries : ℕ → List Route → List ℕ
entries m rs = picks (is_entry m) m rs

-- the best match of the m bits v: of the routes of at most m bits that match them, the longest
abbrev pub best_at : List Route → ℕ → ℕ → ℕ
best_at rs m v = best (λ l. held_at rs l (v / 2 ^ (m - l))) m
