-- Whether an array is empty, told by the list of what is calm below each slot: below slot 1 stand all others, and all cells.
-- Assumes nothing.
use Rattle.std.specs.Prelude.{◌≡◌, List, ℕ, zero, suc, ◌+◌, ◌-◌, ◌*◌, ◌/◌, ◌^◌, ◌≤◌, ◌<◌, eqb, get_or}
use Rattle.std.proofs.Common.{◌∙◌, arith, pow_mono, shr-shr}
use Rattle.std.proofs.Math.Nat.{pow-succ'}
use Rattle.logic.specs.Cases.{less}
use Rattle.logic.specs.Reflects.{reflects_same}
use Rattle.sizes.specs.Sizes.{slot_end, cell_count, cell_slots}
use Rattle.calm.specs.Calm.{Calm}
use Rattle.calm.specs.Slotted.{slot_of, slot_range}
use Rattle.calm.specs.Check.{calm_reflects}
use Rattle.array.specs.Check.{empty_b}
use Rattle.array.specs.CheckReflects.{Empty, empty_reflects}
use Rattle.settle.specs.Busy.{Busy}

-- a cell below slot s, at most n bits away
record Below (s n : ℕ) : Type 0 where
  i : ℕ
  c : ℕ
  cell : i < cell_count
  near : c ≤ n
  over : (cell_slots + i) / 2 ^ c ≡ s

itself : (s n : ℕ) → cell_slots ≤ s → s < slot_end → Below s n
itself s n a b = record { i = s - cell_slots; c = 0; cell = omega arith; near = omega arith; over = omega arith }

twice : (s p : ℕ) → s * (2 * p) ≡ 2 * s * p
twice s p = omega arith

find : (n s : ℕ) → cell_slots ≤ s * 2 ^ n → s < slot_end → Below s n
find zero s a b = itself s 0 (omega arith) b
find (suc n) s a b =
    less s cell_slots
    (λ h _.
    let w = find n (2 * s) (rw (pow-succ' 2 n, twice s (2 ^ n)) at a) (omega arith) in
    let e : suc w.c ≡ w.c + 1 = omega arith in
    record {
      i = w.i;
      c = suc w.c;
      cell = w.cell;
      near = omega (arith, w.near);
      over = rw (e, ← (shr-shr (cell_slots + w.i) w.c 1), w.over) (omega arith);
    })
    (λ h _. itself s (suc n) h b)

calm_empty : (f g : ℕ → ℕ) → Calm f g 0 8 → Empty f g
calm_empty f g z = record {
  slots = λ s l h.
      let w = find 7 s (omega arith) h in
      rw w.over at ((z w.i w.cell (omega (arith, w.cell))).1 w.c (omega (arith, w.near)));
  links = λ i h. (z i h (omega arith)).0;
}

empty_calm : (f g : ℕ → ℕ) → Empty f g → Calm f g 0 8
empty_calm f g z j b _ = (
  z.links j b,
  λ c h. z.slots ((cell_slots + j) / 2 ^ c)
      (omega (arith, slot_of j c (omega arith), pow_mono {i = 1} {j = 8 - c} (omega arith)))
      (slot_range j c b (omega arith)).1,
)

pub busy_empty : (f g : ℕ → ℕ) (c : List ℕ) → Busy f g c 1 → eqb (get_or c 1 0) 0 ≡ empty_b f g
busy_empty f g c y =
    y.tells 1 8 (omega arith, omega arith, omega arith) (omega arith)
    ∙ reflects_same (calm_reflects f g 8 0 (omega arith) (omega arith)) (empty_reflects f g) (calm_empty f g) (empty_calm f g)
