-- The words that a route list needs compressed. The first array has 256 entries; every other array is a head of 8, 16 or 24 bits
-- that some held prefix is longer than. Its prefixes are those held under the head that go on for up to 8 bits, and its links,
-- which are the heads of 8 bits more; its mask is the chosen one, and it has an entry for each index. Assumes nothing.
--
--     10.0.0.0/8, 10.1.0.0/20, 10.1.4.0/22
--     the first array     256 entries
--     head 10             the link 00000001             mask 00000000     1 entry
--     head 10.1           0000xxxx and 000001xx         mask 00001100     4 entries           1024 + 4 * 261 = 2068 words
use Rattle.std.specs.Prelude.{Bool, cond, not, ◌&&◌, ◌||◌, List, [], ◌∷◌, ℕ, zero, suc, ◌+◌, ◌-◌, ◌*◌, ◌/◌, ◌^◌, leb, eqb}
use Rattle.std.specs.Int.Count.{ones}
use Rattle.sizes.specs.Sizes.{cell_slots, cell_count}
use Rattle.routes.specs.Route.{Route, held}
use Rattle.routes.specs.Room.{mem, heads}
use Rattle.masks.specs.Prefix.{spare, value}
use Rattle.masks.specs.Mask.{mask_of}
use Rattle.packed.specs.Layout.{header_words, entry_words}

-- ---- the array of the head z of n bits

-- the hop of the prefix that goes on from the head as slot s does, 0 where it is not held
abbrev pub hop_under : ℕ → List Route → ℕ → ℕ → ℕ → ℕ
hop_under W rs n z s = held rs ((z * 256 + value s) * 2 ^ (W - (n + 8))) (n + (8 - spare s))

-- a slot of 8 bits that is a link: head and slot are a head again
abbrev pub link_under : ℕ → List Route → ℕ → ℕ → ℕ → Bool
link_under W rs n z s = leb cell_slots s && mem (z * 256 + (s - cell_slots)) (heads W (n + 8) rs)

-- its prefixes. Slot 1 has no bit more than the head, which is a prefix of the array above
abbrev pub prefix_under : ℕ → List Route → ℕ → ℕ → ℕ → Bool
prefix_under W rs n z s = leb 2 s && (not (eqb (hop_under W rs n z s) 0) || link_under W rs n z s)

abbrev pub entries_under : ℕ → List Route → ℕ → ℕ → ℕ
entries_under W rs n z = 2 ^ ones (mask_of (prefix_under W rs n z))

-- ---- all arrays

-- the sum of f over the different numbers of a list
abbrev pub sum_of : (ℕ → ℕ) → List ℕ → ℕ
sum_of f [] = 0
sum_of f (x ∷ xs) = cond (mem x xs) (sum_of f xs) (f x + sum_of f xs)

-- the entries of the levels 0 to j
unfoldable pub size_to : ℕ → ℕ → List Route → ℕ
size_to W zero rs = cell_count
size_to W (suc j) rs = size_to W j rs + sum_of (entries_under W rs (8 * suc j)) (heads W (8 * suc j) rs)

-- the header's words and four for each entry
abbrev pub words_for : ℕ → List Route → ℕ
words_for W rs = header_words + entry_words * size_to W (W / 8 - 1) rs
