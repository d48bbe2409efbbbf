-- What the totals know: the total of a slot is how many prefixes are held at it and below it. So where it is 0 nothing is
-- collected there and no candidate gathered, and a walk over a table's slots passes by. Assumes nothing.
use Rattle.std.specs.Prelude.{◌≡◌, ℕ, zero, suc, ◌+◌, ◌-◌, ◌*◌, ◌/◌, ◌%◌, ◌^◌, ◌<◌, ◌≤◌, List, [], ◌∷◌, ◌++◌, length, slice_index}
use Rattle.std.specs.Prelude.{refl}
use Rattle.std.proofs.Math.Path.{sym, ap}
use Rattle.std.proofs.Common.{◌∙◌, ⊎_elim, mul-le-mul_right, pow_mono, pow-add}
use native.Mathlib.Omega.{arith}
use Rattle.std.proofs.Math.ListN.{length-append}
use Rattle.std.proofs.Math.Pow.{high, low}
use Rattle.logic.specs.Cases.{same, less}
use Rattle.sizes.specs.Sizes.{array_words, slot_words, slot_at, slot_end, cell_slots, totals_at, total_at, word_at}
use Rattle.routes.specs.Route.{Route}
use Rattle.routes.specs.Collect.{own, collect}
use Rattle.routes.specs.Room.{level}
use Rattle.slots.specs.Winner.{won_hop}
use Rattle.slots.specs.Slot.{RightSlot, FreeSlot, won_free}
use Rattle.tree.specs.Arrays.{Arrays, held}
use Rattle.tree.specs.SlotSet.{Place}
use Rattle.gather.specs.Gather.{of_feeds, of_slot, gather}
use Rattle.gather.specs.Views.{word_held, held_right}
use Rattle.gather.proofs.Views.{held_won}
use Rattle.totals.specs.Sums.{some_one, sum, counted, sum_some}
use Rattle.totals.proofs.Counted.{counted-collect}
use Rattle.words.specs.Words.{feeds_of, arrays_of, array_count, slots_of, totals_of}
use Rattle.words.specs.TableBut.{Table}
use Rattle.words.specs.Retotalled.{table_first}

-- ---- the total of the slot whose first word is p

abbrev pub total_place : ℕ → ℕ
total_place p = p - p % array_words + totals_at + p % array_words / slot_words

unfoldable pub total_in : List ℕ → ℕ → ℕ
total_in ws p = slice_index ws (total_place p)

place_of : (a m : ℕ) → m < slot_end → total_place (word_at a (slot_at m)) ≡ word_at a (total_at m)
place_of a m h =
    let e : word_at a (slot_at m) % array_words ≡ slot_at m = omega arith in
    rw e (omega arith)

-- it is that of slot m of array a
pub total_in_lem : (ws : List ℕ) (a m : ℕ) → m < slot_end → total_in ws (word_at a (slot_at m)) ≡ totals_of ws a m
unfolding total_in
total_in_lem ws a m h = ap (λ (n : ℕ). slice_index ws n) (place_of a m h)

-- ---- where nothing is collected nothing is gathered

feeds_none : (g : ℕ → ℕ) → FreeSlot g → (d v l f n : ℕ) → 1 ≤ f → f + n ≤ 5 → of_feeds g d v l f n ≡ []
unfolding of_feeds
feeds_none g z d v l f zero a b = refl
feeds_none g z d v l f (suc n) a b =
    rw (z f (record { low = a; high = omega arith })) (feeds_none g z d v l (suc f) n (omega arith) (omega arith))

-- a free slot has no candidates
pub slot_none : (g : ℕ → ℕ) → FreeSlot g → (d v l : ℕ) → of_slot g d v l ≡ []
slot_none g z d v l = feeds_none g z d v l 1 slot_words (omega arith) (omega arith)

no_routes : (rs : List Route) → length rs ≡ 0 → rs ≡ []
no_routes [] e = refl
no_routes (r ∷ rs) e = absurd (omega arith)

own_zero : (d v l h : ℕ) → length (own d v l h) ≡ 0 → h ≡ 0
own_zero d v l zero e = refl
own_zero d v l (suc h) e = absurd (omega arith)

module _ (g : ℕ → ℕ → ℕ → ℕ) (f : ℕ → ℕ → ℕ) (won : (v l : ℕ) → f v l ≡ won_hop (g v l)) (r : (v l : ℕ) → RightSlot (g v l)) where
  free : (d v l : ℕ) → length (own d v l (f v l)) ≡ 0 → of_slot (g v l) d v l ≡ []
  free d v l e = slot_none (g v l) (won_free (g v l) (r v l) (sym (won v l) ∙ own_zero d v l (f v l) e)) d v l

  gather_empty : (d v l : ℕ) → length (collect f d v l) ≡ 0 → gather g d v l ≡ []
  unfolding gather collect
  gather_empty zero v l e = free zero v l e
  gather_empty (suc d) v l e =
      let o = own (suc d) v l (f v l) in
      let x = collect f d (2 * v) (suc l) in
      let y = collect f d (2 * v + 1) (suc l) in
      let n : length o + (length x + length y) ≡ 0 = omega (arith, length-append o (x ++ y), length-append x y, e) in
      rw (
        free (suc d) v l (omega (arith, n)),
        gather_empty d (2 * v) (suc l) (omega (arith, n)),
        gather_empty d (2 * v + 1) (suc l) (omega (arith, n)),
      )

-- ---- the total of a slot of a table

-- the slot of a prefix is one of its array's, and its value is in range
module _ {A L : ℕ} {t : Arrays} {a q k d x : ℕ} (s : Place A L t a q k d x) where
  pub place_slot : 2 ^ d + x < slot_end
  place_slot = omega (arith, s.small, pow_mono {i = d} {j = 8} s.deep)

  pub place-value : q * 2 ^ d + x < 2 ^ (8 * k + d)
  place-value = rw (pow-add 2 (8 * k) d) (omega (arith, mul-le-mul_right (2 ^ d) s.head, s.small))

  place-level : level (8 * k + d) ≡ k
  place-level =
      ⊎_elim
      (λ (o : 1 ≤ d). omega (arith, s.deep))
      (λ (o : k ≡ 0). omega (arith, s.deep))
      s.own

module _ {L : ℕ} {ws : List ℕ} (tb : Table L ws) where
  module _ {a q k d x : ℕ} (s : Place (array_count ws) L (arrays_of ws) a q k d x) (fits : 8 * k + d ≤ 8 * L) where
    -- is how many are collected
    pub total_counts : totals_of ws a (2 ^ d + x)
        ≡ length (collect (held (arrays_of ws)) (8 * L - (8 * k + d)) (q * 2 ^ d + x) (8 * k + d))
    unfolding counted
    total_counts =
        let T = totals_of ws in
        let e : 8 * k + d - 8 * k ≡ d = omega arith in
        sym (sum_some T a (2 ^ d + x) s.array)
        ∙ ap (λ (b : ℕ). sum T b (2 ^ d + x)) (sym s.leads)
        ∙ sym (rw (place-level s, e, high q d s.small, low q d s.small))
        ∙ counted-collect (array_count ws) L (arrays_of ws) T tb.shape tb.sums (table_first tb) (q * 2 ^ d + x) (8 * k + d)
        fits (place-value s)

    -- 0: nothing is
    module _ (z : totals_of ws a (2 ^ d + x) ≡ 0) where
      pub total_none : collect (held (arrays_of ws)) (8 * L - (8 * k + d)) (q * 2 ^ d + x) (8 * k + d) ≡ []
      total_none = no_routes _ (sym total_counts ∙ z)

      pub total_empty : gather (word_held (feeds_of ws)) (8 * L - (8 * k + d)) (q * 2 ^ d + x) (8 * k + d) ≡ []
      total_empty =
          gather_empty (word_held (feeds_of ws)) (held (arrays_of ws)) (held_won (feeds_of ws))
          (held_right (array_count ws) L (feeds_of ws) tb.shape tb.words) (8 * L - (8 * k + d)) (q * 2 ^ d + x) (8 * k + d)
          (sym total_counts ∙ z)

  -- of any slot, also one in which no prefix stands: where its total is 0 it is free
  pub total_free : (a s : ℕ) → 1 ≤ a → a ≤ array_count ws → 1 ≤ s → s < slot_end → totals_of ws a s ≡ 0 → slots_of ws a s ≡ 0
  total_free a s h w l b z =
      same (slots_of ws a s) 0 (λ e _. e) (λ n _.
      absurd (less s cell_slots
      (λ k _. omega (arith, tb.sums.inner a s h w l k, some_one (slots_of ws a s) (omega arith)))
      (λ k _.
      let e : cell_slots + (s - cell_slots) ≡ s = omega arith in
      omega (arith, rw e at (tb.sums.outer a (s - cell_slots) h w (omega arith)), some_one (slots_of ws a s) (omega arith)))))
