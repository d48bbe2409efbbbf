-- The layout's walk to a total: how many prefixes lie inside a given one, asked of any words of a right size. It goes from the
-- root down to the given one's array, reads one link an array, and one total there. Assumes nothing.
--
--     10.1.0.0/20    array 1, cell 10       array 3, cell 1        array 2, slot 16: total 2
--                    link 3 ──▶             link 2 ──▶
use Rattle.std.specs.Prelude.{cond, List, ℕ, zero, suc, ◌+◌, ◌-◌, ◌*◌, ◌^◌, ltb, eqb, length}
use Rattle.sizes.specs.Sizes.{last_slot}
use Rattle.routes.specs.Room.{level}
use Rattle.routes.specs.Seen.{Answer, gives, refuses, misfits}
use Rattle.numbers.specs.Front.{byte_of, value}
use Rattle.tree.specs.Arrays.{depth_of}
use Rattle.words.specs.Words.{arrays_of, array_count, totals_of}
use Rattle.words.specs.Table.{seen}
use Rattle.inside.specs.Seen.{asked, within_on}

-- the total of slot s of array a: no more than the arrays have slots
abbrev pub read_at : List ℕ → ℕ → ℕ → Answer ℕ
read_at ws s a = cond (ltb (last_slot * array_count ws) (totals_of ws a s)) (refuses 2) (gives (totals_of ws a s))

-- a cell with the array c below it, in words of A arrays: nothing is held below it, or the walk goes on there
abbrev pub turn : ℕ → ℕ → (ℕ → Answer ℕ) → Answer ℕ
turn A c on = cond (eqb c 0) (gives 0) (cond (ltb A c) (refuses 2) (on c))

-- from array a on, with n of k levels left
unfoldable pub walk_from : ℕ → List ℕ → ℕ → ℕ → ℕ → ℕ → ℕ → Answer ℕ
walk_from L ws x s k zero a = read_at ws s a
walk_from L ws x s k (suc n) a = turn (array_count ws) ((arrays_of ws).link a (byte_of L x (k - suc n))) (walk_from L ws x s k n)

-- the prefix x of length l, from the root: its level, and its slot there
abbrev pub walk : ℕ → List ℕ → ℕ → ℕ → Answer ℕ
walk L ws x l = walk_from L ws x (2 ^ depth_of l + value L x (level l) (depth_of l)) (level l) (level l) 1

-- words of any size
abbrev pub walked : ℕ → List ℕ → ℕ → ℕ → Answer ℕ
walked L ws x l = cond (misfits (length ws)) (refuses 1) (asked (8 * L) x l (walk L ws x l))

-- what is answered: by what the words are seen to be
abbrev pub within_seen : ℕ → List ℕ → ℕ → ℕ → Answer ℕ
within_seen L ws x l = within_on (8 * L) (seen L ws) (walk L ws x l) x l
