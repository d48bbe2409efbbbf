-- The words of a compressed table, and the walk of a lookup on any words. docs/PACKED.md says the same in words. Assumes nothing.
--
--     words 0 .. 1023       not used
--     from word 1024 on     the arrays, one after the other; the first has 256 entries and is indexed by the mask 255
--
--     an entry              the slot of its prefix, 0 for none  |  the longest cover of that in the array: in-array length *
--                           65536 + hop, 0 for none  |  where the array below begins, 0 for none  |  that array's mask
use Rattle.std.specs.Prelude.{Bool, cond, not, ◌&&◌, List, ℕ, zero, suc, ◌+◌, ◌-◌, ◌*◌, ◌/◌, length, get_or, ltb, eqb}
use Rattle.sizes.specs.Sizes.{last_slot, hop_bound}
use Rattle.numbers.specs.Front.{byte_of}
use Rattle.routes.specs.Match.{Match, none}
use Rattle.routes.specs.Seen.{Answer, gives, refuses}
use Rattle.masks.specs.Prefix.{has}
use Rattle.masks.specs.Index.{index}
use Rattle.lookup.specs.Walk.{deeper}

abbrev pub header_words : ℕ
header_words = 1024

abbrev pub entry_words : ℕ
entry_words = 4

-- the mask of all bits, and of the first array
abbrev pub full_mask : ℕ
full_mask = 255

-- ---- the walk

-- a number outside its range is refused with 2
abbrev pub outside : Bool → Answer Match → Answer Match
outside b r = cond b (refuses 2) r

-- a byte has the prefix of an entry, which may be empty
abbrev pub gets : ℕ → ℕ → Bool
gets y s = not (eqb s 0) && has y s

-- at the entry for byte y, with the words s, b and o, in an array below `base` bits, with f found above
abbrev pub turn : ℕ → ℕ → ℕ → ℕ → ℕ → Match → (Match → Answer Match) → Answer Match
turn base y s b o f on =
    outside (ltb last_slot s)
    (cond (gets y s)
    (outside (ltb 8 (b / hop_bound)) (cond (eqb o 0) (gives (deeper base f b)) (on (deeper base f b))))
    (gives f))

-- from the array at word o with mask m on, with n of L levels left; a link below the last level is out of range
unfoldable pub walk_from : ℕ → List ℕ → ℕ → ℕ → ℕ → ℕ → Match → Answer Match
walk_from L ws x zero o m f = refuses 2
walk_from L ws x (suc n) o m f =
    let k = L - suc n in
    let y = byte_of L x k in
    let w = o + entry_words * index m y in
    outside (ltb full_mask m)
    (outside (ltb (length ws) (w + entry_words))
    (turn (8 * k) y (get_or ws w 0) (get_or ws (w + 1) 0) (get_or ws (w + 2) 0) f
    (walk_from L ws x n (get_or ws (w + 2) 0) (get_or ws (w + 3) 0))))

-- L levels, from the first array
abbrev pub walk : ℕ → List ℕ → ℕ → Answer Match
walk L ws x = walk_from L ws x L header_words full_mask none
