-- What is calm below each slot of an array, kept in a list that is filled from the cells up; and a cell's block by that list.
-- Assumes nothing.
--
--     slot s          0 where neither slot below it is taken and both have 0 here
--      /   \
--   2 * s  2 * s + 1
--     .. down to ..
--     slot 256 + i    the mark of cell i: 0 where it has no link
use Rattle.std.specs.Prelude.{◌≡◌, refl, Bool, not, ◌&&◌, ◌||◌, List, ℕ, zero, suc, ◌+◌, ◌-◌, ◌*◌, ◌/◌, ◌^◌, ◌≤◌, ◌<◌, leb, eqb}
use Rattle.std.specs.Prelude.{length, get_or, set}
use Rattle.std.proofs.Common.{sym, ap, ◌∙◌, arith, length-set, get_or-set_same, get_or-set_other, pow_mono, shr_lt}
use Rattle.std.proofs.Math.Nat.{pow-succ'}
use Rattle.logic.specs.Cases.{same, less, most}
use Rattle.sizes.specs.Sizes.{last_slot, slot_end, cell_count, cells_at, cell_slots}
use Rattle.calm.specs.Slotted.{slot_of, slot_range}
use Rattle.calm.specs.Check.{calm_of, block_b}
use Rattle.slots.specs.Read.{Won}
use Rattle.array.specs.Cell.{mark, link_tells}
use Rattle.array.specs.Page.{slots, links}

-- slot s is e bits above the cells
abbrev Deep : ℕ → ℕ → Type 0
Deep s e = (e ≤ 8) × (2 ^ (8 - e) ≤ s) × (s < 2 * 2 ^ (8 - e))

-- c tells it of the slots from n on
pub record Busy (f g : ℕ → ℕ) (c : List ℕ) (n : ℕ) : Type 0 where
  pub size : length c ≡ slot_end
  pub tells : (s e : ℕ) → Deep s e → n ≤ s → eqb (get_or c s 0) 0 ≡ calm_of f g s e

pub busy_none : (f g : ℕ → ℕ) (c : List ℕ) → length c ≡ slot_end → Busy f g c slot_end
busy_none f g c n = record {
  size = n;
  tells = λ s e d h. absurd (omega (arith, d.0, d.1, d.2, pow_mono {i = 8 - e} {j = 8} (omega arith)));
}

-- a slot stands at one depth
only : (s e : ℕ) → cell_slots ≤ s → Deep s e → e ≡ 0
only s zero h d = refl
only s (suc e) h d = absurd (omega (arith, d.0, d.1, d.2, pow_mono {i = 8 - suc e} {j = 7} (omega arith)))

-- a cell's own slot
busy_cell : (f g : ℕ → ℕ) (c : List ℕ) (i v : ℕ) → i < cell_count → eqb v 0 ≡ eqb (g i) 0
    → Busy f g c (cell_slots + i + 1) → Busy f g (set c (cell_slots + i) v) (cell_slots + i)
unfolding calm_of
busy_cell f g c i v h e b = record {
  size = length-set c (cell_slots + i) v ∙ b.size;
  tells = λ s k d l. same s (cell_slots + i)
      (λ q _. (
      let z = only s k (omega arith) d in
      let w : cell_slots + i - cell_slots ≡ i = omega arith in
      rw (q, z, get_or-set_same c (cell_slots + i) v 0 (omega (arith, b.size)), w) e))
      (λ q _. ap (λ (x : ℕ). eqb x 0) (get_or-set_other c (cell_slots + i) s v 0 q) ∙ b.tells s k d (omega arith));
}

-- a slot above two others
here : (f g : ℕ → ℕ) (c : List ℕ) (n s v k : ℕ) → 1 ≤ s → s < cell_slots
    → eqb v 0 ≡ ((eqb (f (2 * s)) 0 && eqb (f (2 * s + 1)) 0) && (eqb (get_or c (2 * s) 0) 0 && eqb (get_or c (2 * s + 1) 0) 0))
    → n ≤ 2 * s → Busy f g c n → Deep s k → eqb v 0 ≡ calm_of f g s k
unfolding calm_of
here f g c n s v zero l h e w b d = absurd (omega (arith, d.1))
here f g c n s v (suc k) l h e q b d =
    let p : 8 - k ≡ suc (8 - suc k) = omega (arith, d.0) in
    let w : 2 ^ (8 - k) ≡ 2 * 2 ^ (8 - suc k) = rw p (pow-succ' 2 (8 - suc k)) in
    let x = b.tells (2 * s) k (omega (arith, d.0), omega (arith, d.1), omega (arith, d.2)) (omega arith) in
    let y = b.tells (2 * s + 1) k (omega (arith, d.0), omega (arith, d.1), omega (arith, d.2)) (omega arith) in
    rw (x, y) at e

-- c with what the hops `won` tell of the slots m .. n - 1 from the two below each, as c has it, and the same from there on
pub record Lifted (won c k : List ℕ) (m n : ℕ) : Type 0 where
  pub size : length k ≡ slot_end
  pub new : (s : ℕ) → m ≤ s → s < n → eqb (get_or k s 0) 0
      ≡ ((eqb (get_or won (2 * s) 0) 0 && eqb (get_or won (2 * s + 1) 0) 0)
      && (eqb (get_or c (2 * s) 0) 0 && eqb (get_or c (2 * s + 1) 0) 0))
  pub kept : (s : ℕ) → n ≤ s → get_or k s 0 ≡ get_or c s 0

pub lifted_none : (won c : List ℕ) (m : ℕ) → length c ≡ slot_end → Lifted won c c m m
lifted_none won c m l = record { size = l; new = λ s a b. absurd (omega arith); kept = λ s h. refl }

pub lifted_more : (won c k : List ℕ) (m s v : ℕ) → 1 ≤ s → s < cell_slots
    → eqb v 0 ≡ ((eqb (get_or won (2 * s) 0) 0 && eqb (get_or won (2 * s + 1) 0) 0)
    && (eqb (get_or k (2 * s) 0) 0 && eqb (get_or k (2 * s + 1) 0) 0))
    → Lifted won c k m s → Lifted won c (set k s v) m (s + 1)
lifted_more won c k m s v l h e y = record {
  size = length-set k s v ∙ y.size;
  new = λ t a b. same t s
      (λ q _. rw (
        q,
        get_or-set_same k s v 0 (omega (arith, y.size)),
        ← (y.kept (2 * s) (omega arith)),
        ← (y.kept (2 * s + 1) (omega arith)),
      ) e)
      (λ q _. ap (λ (x : ℕ). eqb x 0) (get_or-set_other k s t v 0 q) ∙ y.new t a (omega arith));
  kept = λ t a. get_or-set_other k s t v 0 (λ z. omega arith) ∙ y.kept t (omega arith);
}

pub lifted_busy : (l won c k : List ℕ) (m : ℕ) → 1 ≤ m → m ≤ 128 → Won l won → Lifted won c k m (2 * m)
    → Busy (slots l) (links l) c (2 * m) → Busy (slots l) (links l) k m
lifted_busy l won c k m a b w y z = record {
  size = y.size;
  tells = λ s e d h. less s (2 * m)
      (λ q _. here (slots l) (links l) c (2 * m) s (get_or k s 0) e (omega arith) (omega arith)
      (rw (w.hop (2 * s) (omega arith) (omega arith), w.hop (2 * s + 1) (omega arith) (omega arith)) at (y.new s h q))
      (omega arith) z d)
      (λ q _. ap (λ (x : ℕ). eqb x 0) (y.kept s q) ∙ z.tells s e d q);
}

-- ---- in the loops

pub marks_more : (l c : List ℕ) (i v : ℕ) → i < cell_count → v ≡ mark (get_or l (2303 - i) 0)
    → Busy (slots l) (links l) c (slot_end - i) → Busy (slots l) (links l) (set c (last_slot - i) v) (slot_end - (i + 1))
marks_more l c i v h e b =
    let p : cell_slots + (255 - i) ≡ last_slot - i = omega arith in
    let q : cell_slots + (255 - i) + 1 ≡ slot_end - i = omega arith in
    let r : slot_end - (i + 1) ≡ cell_slots + (255 - i) = omega arith in
    let w : 2303 - i ≡ cells_at + (255 - i) = omega arith in
    rw (r, ← p) (busy_cell (slots l) (links l) c (255 - i) v (omega arith)
    (rw (e, w) (sym (link_tells (get_or l (cells_at + (255 - i)) 0)))) (rw q b))

-- ---- a cell's block by the list

-- d is the block of cell i: what is below its slot of d bits is calm, what is below that of one bit less is not
abbrev pub ends_b : List ℕ → ℕ → ℕ → Bool
ends_b c i d =
    leb d 8 && (eqb (get_or c ((cell_slots + i) / 2 ^ (8 - d)) 0) 0
    && (eqb d 0 || not (eqb (get_or c ((cell_slots + i) / 2 ^ (8 - (d - 1))) 0) 0)))

over-deep : (i d : ℕ) → i < cell_count → d ≤ 8 → Deep ((cell_slots + i) / 2 ^ (8 - d)) (8 - d)
over-deep i d b h =
    let e : 8 - (8 - d) ≡ d = omega arith in
    let s : d + (8 - d) ≡ 8 = omega arith in
    let z : i / 2 ^ (8 - d) < 2 ^ d = shr_lt d (8 - d) (rw s b) in
    let y : (cell_slots + i) / 2 ^ (8 - d) ≡ 2 ^ d + i / 2 ^ (8 - d) = slot_of i (8 - d) (omega arith) ∙ rw e in
    (omega arith, rw e (omega arith), rw e (omega arith))

pub ends-block : (f g : ℕ → ℕ) (c : List ℕ) (i d : ℕ) → i < cell_count → Busy f g c 1 → ends_b c i d ≡ block_b f g i d
unfolding block_b
ends-block f g c i d b y =
    most d 8
    (λ h e. rw (
      e,
      y.tells ((cell_slots + i) / 2 ^ (8 - d)) (8 - d) (over-deep i d b h) (slot_range i (8 - d) b (omega arith)).0,
      y.tells ((cell_slots + i) / 2 ^ (8 - (d - 1))) (8 - (d - 1)) (over-deep i (d - 1) b (omega arith))
          (slot_range i (8 - (d - 1)) b (omega arith)).0,
    ))
    (λ h e. rw e)
