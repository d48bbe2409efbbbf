-- A tag in one word: the parent of an array, the cell of the parent that it hangs below, and one more than its level, each found
-- in it. A free array has the tag 0, and the root, which hangs nowhere, 1. Assumes nothing.
--
--     bits    31 .. 13   12 .. 5   4 .. 0
--             parent     cell      level + 1
use Rattle.std.specs.Prelude.{ℕ, ◌+◌, ◌*◌, ◌/◌, ◌%◌}
use Rattle.sizes.specs.Sizes.{cell_count, level_bound, parent_unit}

-- k is one more than the level
abbrev pub tag_of : ℕ → ℕ → ℕ → ℕ
tag_of p i k = p * parent_unit + i * level_bound + k

abbrev pub parent_in : ℕ → ℕ
parent_in tag = tag / parent_unit

abbrev pub cell_in : ℕ → ℕ
cell_in tag = tag / level_bound % cell_count

abbrev pub level_in : ℕ → ℕ
level_in tag = tag % level_bound
