-- What callers of `took` and `freed` show: what a slot was before it was set, in an array whose blocks were right. Assumes
-- nothing.
--
--     was      is       then
--     free     taken    WasFree, for took
--     taken    free     WasTaken, for freed
--     free     free     the blocks are right as they are
--     taken    taken    the same: another hop changes no block
use Rattle.std.specs.Prelude.{◌≡◌, refl, ◌≢◌, List, ℕ, ◌+◌, ◌-◌, ◌*◌, ◌/◌, ◌^◌, ◌≤◌, ◌<◌}
use Rattle.std.proofs.Common.{sym, ap, ◌∙◌, mul-div_cancel, arith, pow_pos}
use Rattle.logic.specs.Cases.{same}
use Rattle.sizes.specs.Sizes.{slot_end, cell_count, cell_slots}
use Rattle.calm.specs.Calm.{Settled}
use Rattle.calm.specs.Slotted.{slot_of, slot_range, slot_taken}
use Rattle.array.specs.Page.{slots, bests, links, blocks}
use Rattle.slots.specs.Word.{IsFeed}
use Rattle.array.specs.Low.{low_words, low-slots}
use Rattle.array.specs.Put.{PageWordSet, PageSlotSet, BlocksKept}
use Rattle.array.specs.Right.{sound_ext}
use Rattle.calm.specs.Same.{settled_ext}
use Rattle.settle.specs.Settled.{SettledPage, Resettled, hop_settled}
use Rattle.settle.specs.Slot.{WasFree, WasTaken}

-- one slot alone differs, and the blocks are still those of l
module _ (l m : List ℕ) (sl : (j : ℕ) → j < cell_count → links m j ≡ links l j)
    (sb : (j : ℕ) → j < cell_count → links l j ≡ 0 → blocks m j ≡ blocks l j) (i d : ℕ) (ib : i < cell_count) (high : d ≤ 8)
    (others : (r : ℕ) → 1 ≤ r → r < slot_end → r ≢ (cell_slots + i) / 2 ^ (8 - d) → slots m r ≡ slots l r) where
  same_blocks : SettledPage l → Settled (slots l) (links l) (blocks m)
  same_blocks z =
      settled_ext (slots l) (links l) (blocks l) (slots l) (links l) (blocks m) (λ r p q. refl) (λ j h. refl) sb z

  was_free : SettledPage l → slots l ((cell_slots + i) / 2 ^ (8 - d)) ≡ 0 → 1 ≤ slots m ((cell_slots + i) / 2 ^ (8 - d))
      → WasFree m i d
  was_free z a b = record {
    f₀ = slots l;
    g₀ = links l;
    taken = slot_taken (slots l) (links l) (slots m) (links m) i d ib high others a b sl;
    settled = same_blocks z;
  }

  was_taken : SettledPage l → 1 ≤ slots l ((cell_slots + i) / 2 ^ (8 - d)) → slots m ((cell_slots + i) / 2 ^ (8 - d)) ≡ 0
      → WasTaken m i d
  was_taken z a b = record {
    f = slots l;
    g = links l;
    taken = slot_taken (slots m) (links m) (slots l) (links l) i d ib high (λ r p q n. sym (others r p q n)) b a
        (λ j h. sym (sl j h));
    settled = same_blocks z;
  }

-- ---- a slot of depth d over cell i that was `old` and is `hop`

pub record Was (l : List ℕ) (i d old hop : ℕ) : Type 0 where
  pub free : old ≡ 0 → hop ≢ 0 → WasFree l i d
  pub taken : old ≢ 0 → hop ≡ 0 → WasTaken l i d
  pub none : old ≡ 0 → hop ≡ 0 → SettledPage l
  pub other : old ≢ 0 → hop ≢ 0 → SettledPage l

-- the slot of in-array length d and value x stands over its first cell
over_first : (d x : ℕ) → d ≤ 8 → (cell_slots + x * 2 ^ (8 - d)) / 2 ^ (8 - d) ≡ 2 ^ d + x
over_first d x h =
    let e : 8 - (8 - d) ≡ d = omega arith in
    slot_of (x * 2 ^ (8 - d)) (8 - d) (omega arith) ∙ rw (e, mul-div_cancel x (pow_pos (8 - d)))

module _ (l m : List ℕ) (d x hop i old : ℕ) (ie : i ≡ x * 2 ^ (8 - d)) (ib : i < cell_count) (high : d ≤ 8)
    (oe : old ≡ slots l (2 ^ d + x)) (z : SettledPage l) (s : PageSlotSet l m (2 ^ d + x) hop) (sb : BlocksKept l m) where
  over : (cell_slots + i) / 2 ^ (8 - d) ≡ 2 ^ d + x
  over = rw ie (over_first d x high)

  others : (r : ℕ) → 1 ≤ r → r < slot_end → r ≢ (cell_slots + i) / 2 ^ (8 - d) → slots m r ≡ slots l r
  others r a b n = s.same_slots r a b (λ e. n (e ∙ sym over))

  was : slots l ((cell_slots + i) / 2 ^ (8 - d)) ≡ old
  was = ap (slots l) over ∙ sym oe

  is : slots m ((cell_slots + i) / 2 ^ (8 - d)) ≡ hop
  is = ap (slots m) over ∙ s.here

  -- free in both, or taken in both
  kept : (old ≡ 0 → hop ≡ 0) → (hop ≡ 0 → old ≡ 0) → SettledPage m
  kept a b =
      hop_settled l m s.same_links sb
      (λ r p q e. same r ((cell_slots + i) / 2 ^ (8 - d)) (λ y _. rw y (is ∙ a (sym was ∙ (rw y at e))))
      (λ n _. others r p q n ∙ e))
      (λ r p q e. same r ((cell_slots + i) / 2 ^ (8 - d)) (λ y _. rw y (was ∙ b (sym is ∙ (rw y at e))))
      (λ n _. sym (others r p q n) ∙ e))
      z

  pub was_so : Was m i d old hop
  was_so = record {
    free = λ a b. was_free l m s.same_links sb i d ib high others z (was ∙ a) (omega (arith, is));
    taken = λ a b. was_taken l m s.same_links sb i d ib high others z (omega (arith, was)) (is ∙ b);
    none = λ a b. kept (λ _. b) (λ _. a);
    other = λ a b. kept (λ e. absurd (a e)) (λ e. absurd (b e));
  }

  below : 2 ^ d + x < slot_end
  below = rw (← over) (slot_range i (8 - d) ib (omega arith)).1

  -- blocks written after it leave the slot as it was set, and the words of all slots
  pub reset : (n : List ℕ) → Resettled m n → PageSlotSet l n (2 ^ d + x) hop × SettledPage n
  reset n r = (
    record {
      size = r.size ∙ s.size;
      tag = r.low 0 (omega arith) ∙ s.tag;
      high = λ q h. r.high q h ∙ s.high q h;
      same_links = λ j b. r.same_links j b ∙ s.same_links j b;
      here = low-slots m n r.low (2 ^ d + x) below ∙ s.here;
      same_slots = λ q a b e. low-slots m n r.low q b ∙ s.same_slots q a b e;
      sound = sound_ext (slots m) (bests m) (slots n) (bests n) (λ q a b. low-slots m n r.low q b) r.same_bests s.sound;
    },
    r.settled,
  )

  pub reset_word : (f w : ℕ) → IsFeed f → PageWordSet l m (2 ^ d + x) f w → (n : List ℕ) → Resettled m n
      → PageWordSet l n (2 ^ d + x) f w
  reset_word f w p y n r = record {
    here = low_words m n r.low (2 ^ d + x) below f p ∙ y.here;
    feeds = λ j q e. low_words m n r.low (2 ^ d + x) below j q ∙ y.feeds j q e;
    slots = λ v a b e j q. low_words m n r.low v b j q ∙ y.slots v a b e j q;
  }
