-- The layout's walk: what a lookup gives on any words of a right size. It goes from the root down, reads one cell an array, a
-- word with its best and its link or its block, and keeps the last best that it met. Assumes nothing.
--
--     10.1.5.9    array 1, cell 10       array 3, cell 1        array 2, cell 5                        (hop / in-array length)
--                 best 1/8, link 3 ──▶   best 0, link 2 ──▶     best 2/6, block 6      found 2 22 22
use Rattle.std.specs.Prelude.{cond, List, ℕ, zero, suc, ◌+◌, ◌-◌, ◌*◌, ◌/◌, ◌%◌, ltb, eqb, length}
use Rattle.sizes.specs.Sizes.{hop_bound}
use Rattle.routes.specs.Match.{Match, none, found}
use Rattle.candidates.specs.Seen.{misfits, lookup_on}
use Rattle.routes.specs.Answers.{Reply, refused, refuse, matched}
use Rattle.numbers.specs.Front.{byte_of}
use Rattle.words.specs.Words.{arrays_of, array_count, bests_of, blocks_of}
use Rattle.words.specs.Table.{seen}

-- a best in an array below `base` bits: its hop, 0 for none, and its length
abbrev pub hop_of : ℕ → ℕ
hop_of b = b % hop_bound

abbrev pub length_of : ℕ → ℕ → ℕ
length_of base b = base + b / hop_bound

-- the best of a cell, where it has one, comes before what was found above it
abbrev pub deeper : ℕ → Match → ℕ → Match
deeper base m b = cond (eqb (hop_of b) 0) m (found (hop_of b) (length_of base b))

-- a cell with the best b, the block q and the array c below it, in an array below `base` bits and words of A arrays, with m found
-- above: the walk ends here, or goes on. In-array lengths and blocks have at most 8 bits
abbrev pub turn : ℕ → ℕ → ℕ → ℕ → ℕ → Match → (ℕ → Match → Reply) → Reply
turn A base b q c m on =
    refuse 2 (ltb 8 (b / hop_bound))
    (cond (eqb c 0) (refuse 2 (ltb 8 q) (matched (deeper base m b) (base + q)))
    (refuse 2 (ltb A c)
    (on c (deeper base m b))))

-- from array a on, with n of L levels left and m found above; a link below the last level is out of range
unfoldable pub walk_from : ℕ → List ℕ → ℕ → ℕ → ℕ → Match → Reply
walk_from L ws x zero a m = refused 2
walk_from L ws x (suc n) a m =
    let k = L - suc n in
    let i = byte_of L x k in
    turn (array_count ws) (8 * k) (bests_of ws a i) (blocks_of ws a i) ((arrays_of ws).link a i) m (walk_from L ws x n)

-- L levels, from the root
abbrev pub walk : ℕ → List ℕ → ℕ → Reply
walk L ws x = walk_from L ws x L 1 none

-- words of any size
abbrev pub walked : ℕ → List ℕ → ℕ → Reply
walked L ws x = refuse 1 (misfits (length ws)) (walk L ws x)

-- what a lookup answers: by what the words are seen to be
abbrev pub looked_up : ℕ → List ℕ → ℕ → Reply
looked_up L ws x = lookup_on (8 * L) (seen L ws) (walk L ws x) x
