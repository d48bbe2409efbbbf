-- The two properties say exactly this: of the bytes with one index, all that have a prefix have the same longest one. So no mask
-- is left out that an entry for each index would allow, and none has fewer set bits than the one chosen. Assumes nothing.
--
--     two properties ── entries are told by the index ──▶ one longest prefix for each index
--     one longest    ── bytes of one index, made to have two prefixes that are not apart ──▶ two properties
use Rattle.std.specs.Prelude.{◌≡◌, Bool, true, ℕ, ◌≤◌, ◌<◌}
use Rattle.std.specs.Int.Count.{ones}
use Rattle.masks.specs.Mask.{mask_of, chosen}
use Rattle.masks.specs.Exact.{One, one_free}

-- so of all masks that have one longest prefix for each index none has fewer set bits than the mask chosen
pub fewest_meant : (held : ℕ → Bool) → ((s : ℕ) → held s ≡ true → 1 ≤ s) → (k : ℕ) → k < 256 → One held k
    → ones (mask_of held) ≤ ones k
fewest_meant held from_one k h o = (chosen held).fewest k h (one_free held k h from_one o)
