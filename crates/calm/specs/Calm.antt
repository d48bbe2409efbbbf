-- The block of a cell within its array: the fewest first bits of the cell below which the array has no longer slot and no link.
-- Assumes nothing.
--
--     f: the slots, slot s above the slots 2 * s and 2 * s + 1
--     g: the links of the cells; cell i stands below slot 256 + i, and below slot (256 + i) / 2 ^ e, which has e bits less
use Rattle.std.specs.Prelude.{◌≡◌, ℕ, ◌+◌, ◌-◌, ◌/◌, ◌^◌, ◌≤◌, ◌<◌}
use Rattle.std.proofs.Common.{arith, shr-shr}

-- below cell i's slot of 8 - e bits: no slot is taken, no cell has a link
abbrev pub Calm : (ℕ → ℕ) → (ℕ → ℕ) → ℕ → ℕ → Type 0
Calm f g i e = (j : ℕ) → j < 256 → j / 2 ^ e ≡ i / 2 ^ e → (g j ≡ 0) × ((c : ℕ) → c < e → f ((256 + j) / 2 ^ c) ≡ 0)

-- d is the block of cell i
pub record Block (f g : ℕ → ℕ) (i d : ℕ) : Type 0 where
  pub fits : d ≤ 8
  pub calm : Calm f g i (8 - d)
  pub least : (c : ℕ) → c < d → Calm f g i (8 - c) → ⊥

-- every cell without a link has its block
abbrev pub Settled : (ℕ → ℕ) → (ℕ → ℕ) → (ℕ → ℕ) → Type 0
Settled f g b = (i : ℕ) → i < 256 → g i ≡ 0 → Block f g i (b i)

-- cells that share more bits share fewer
pub under : (i j c e : ℕ) → c ≤ e → j / 2 ^ c ≡ i / 2 ^ c → j / 2 ^ e ≡ i / 2 ^ e
under i j c e h q = let s : c + (e - c) ≡ e = omega arith in rw (← s, ← (shr-shr j c (e - c)), ← (shr-shr i c (e - c)), q)

-- below less is calm too
pub calm_less : (f g : ℕ → ℕ) (i e c : ℕ) → c ≤ e → Calm f g i e → Calm f g i c
calm_less f g i e c h z j b q = let w = z j b (under i j c e h q) in (w.0, λ n l. w.1 n (omega arith))
