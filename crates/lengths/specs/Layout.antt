-- The words of a list laid out by lengths, and the walk of a lookup on any words. docs/COPY.md says the same in words.
-- Assumes nothing.
--
--     word 0                  the best match of length 0: the default route's, or 0
--     words 2m, 2m + 1        of length m, 1 to 32: how many entries stand before its hash table, and how many it has
--     from word 1024 on       the hash tables: four places an entry, a key and a best match each
--
--     begin                   begin + 4e                begin + 8e
--     ┌───────────────────────┬─────────────────────────┐
--     │ the keys of 4e places │ their best matches      │       a look reads keys alone
--     └───────────────────────┴─────────────────────────┘
use Rattle.std.specs.Prelude.{Bool, cond, not, ◌&&◌, ◌||◌, List, ℕ, zero, suc, ◌+◌, ◌-◌, ◌*◌, ◌/◌, ◌%◌, ◌^◌, length, get_or, ltb}
use Rattle.std.specs.Prelude.{leb, eqb}
use Rattle.routes.specs.Match.{Match, none, found}
use Rattle.routes.specs.Seen.{Answer, gives, refuses}
use Rattle.lengths.specs.Way.{Look, miss, hit, outside, search}

-- the words of the header
abbrev pub header_words : ℕ
header_words = 1024

-- where the table of length m begins: after the header and the entries before it, eight words each; and how many entries it has
abbrev pub begin_of : List ℕ → ℕ → ℕ
begin_of ws m = header_words + 8 * get_or ws (2 * m) 0

abbrev pub size_of : List ℕ → ℕ → ℕ
size_of ws m = get_or ws (2 * m + 1) 0

-- a best match is 0, or a hop from 1 to 65,535 times 256 and a length of at most 32
abbrev pub bad_best : ℕ → Bool
bad_best b = not (eqb b 0) && (ltb b 256 || (leb 16777216 b || ltb 32 (b % 256)))

-- ---- the places of a table

-- the key of an entry's bits, and back
abbrev pub key_of : ℕ → ℕ
key_of v = 4294967295 - v

-- a key of 0 is that of a free place; of length 32 it is an address's too, and there a free place has no best match either
abbrev pub taken_by : ℕ → ℕ → ℕ → Bool
taken_by m k b = not (eqb k 0) || (leb 32 m && not (eqb b 0))

pub record Places : Type 0 where
  pub taken : ℕ → Bool
  pub value : ℕ → ℕ
  pub best : ℕ → ℕ

-- the p places at word o, of length m
abbrev pub places_of : List ℕ → ℕ → ℕ → ℕ → Places
places_of ws m o p = record {
  taken = λ j. taken_by m (get_or ws (o + j) 0) (get_or ws (o + j + p) 0);
  value = λ j. key_of (get_or ws (o + j) 0);
  best = λ j. get_or ws (o + j + p) 0;
}

-- where the probe for v begins among p places: as far among them as the mixed bits are among all of 32
abbrev pub mix : ℕ → ℕ
mix v = v * 2654435769 % 4294967296

unfoldable pub start : ℕ → ℕ → ℕ
start v p = mix v * p / 4294967296

-- the place after d steps from s, round the end
unfoldable pub place : ℕ → ℕ → ℕ → ℕ
place s p d = cond (ltb (s + d) p) (s + d) (s + d - p)

-- place j, or what comes after it
abbrev pub look_at : Places → ℕ → ℕ → Look → Look
look_at T v j rest = cond (T.taken j) (cond (eqb (T.value j) v) (hit (T.best j)) rest) miss

-- at most n places, from the step d on
unfoldable pub probe : Places → ℕ → ℕ → ℕ → ℕ → Look
probe T p v zero d = miss
probe T p v (suc n) d = look_at T v (place (start v p) p d) (probe T p v n (d + 1))

abbrev pub find : Places → ℕ → ℕ → Look
find T p v = probe T p v p 0

-- ---- the walk

-- the table of length m lies inside the words
abbrev pub inside : List ℕ → ℕ → Bool
inside ws m = leb (begin_of ws m + 8 * size_of ws m) (length ws)

-- what a table of e entries at word o has for the m bits v
abbrev pub find_in : List ℕ → ℕ → ℕ → ℕ → ℕ → Look
find_in ws m o e v = find (places_of ws m o (4 * e)) (4 * e) v

-- a look for the m bits v
unfoldable pub look : List ℕ → ℕ → ℕ → Look
look ws m v = cond (inside ws m) (find_in ws m (begin_of ws m) (size_of ws m) v) outside

abbrev pub answered : Look → Answer Match
answered miss = gives none
answered (hit b) = cond (bad_best b) (refuses 2) (cond (eqb b 0) (gives none) (gives (found (b / 256) (b % 256))))
answered outside = refuses 2

-- the search, with the default's best match; words that have no room for the header are refused
unfoldable pub walk : List ℕ → ℕ → Answer Match
walk ws a =
    cond (ltb (length ws) header_words) (refuses 2)
    (answered (search (λ m. look ws m (a / 2 ^ (32 - m))) 4 16 (get_or ws 0 0)))
