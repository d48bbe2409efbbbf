-- The winning hops of an array's slots, as they were read into a list. Assumes nothing.
use Rattle.std.specs.Prelude.{◌≡◌, Bool, ◌&&◌, List, ℕ, ◌+◌, ◌≤◌, ◌<◌, eqb, get_or}
use Rattle.std.proofs.Common.{◌∙◌, arith}
use Rattle.sizes.specs.Sizes.{slot_end, cell_slots}
use Rattle.slots.specs.Read.{Won}
use Rattle.array.specs.Frame.{page_of}
use Rattle.array.specs.Check.{right_b}
use Rattle.calm.specs.Check.{settled_b}
use Rattle.tree.specs.Arrays.{Arrays, lev}
use Rattle.totals.specs.Sums.{some, sum_none}
use Rattle.totals.specs.Check.{outer_b}
use Rattle.words.specs.Words.{arrays_of, slots_of, bests_of, blocks_of}
use Rattle.words.specs.Lent.{lent_slot}

abbrev pub WonOf : List ℕ → ℕ → List ℕ → Type 0
WonOf ws a c = (s : ℕ) → 1 ≤ s → s < slot_end → get_or c s 0 ≡ slots_of ws a s

pub won_of_lem : (ws : List ℕ) (a : ℕ) (c : List ℕ) → Won (page_of ws a) c → WonOf ws a c
won_of_lem ws a c w s l h = w.hop s l h ∙ lent_slot ws a s h

-- the bests and the blocks of array a are right
abbrev pub body_b : List ℕ → ℕ → Bool
body_b ws a =
    right_b (lev (arrays_of ws) a) (slots_of ws a) (bests_of ws a)
    && settled_b (slots_of ws a) ((arrays_of ws).link a) (blocks_of ws a)

-- the total of the slot above cell i of array a, where the cell has no link: its own prefix, if it holds one
abbrev pub plain_b : Arrays → (ℕ → ℕ → ℕ) → ℕ → ℕ → Bool
plain_b t T a i = eqb (T a (cell_slots + i)) (some (t.slot a (cell_slots + i)))

pub plain_outer : (t : Arrays) (T : ℕ → ℕ → ℕ) (a i : ℕ) → t.link a i ≡ 0 → plain_b t T a i ≡ outer_b t T a i
plain_outer t T a i e =
    let z : some (t.slot a (cell_slots + i)) + 0 ≡ some (t.slot a (cell_slots + i)) = omega arith in
    rw (sum_none T (t.link a i) 1 e, z)
