-- The check's tests tell whether the words are a table. Assumes nothing.
use Rattle.std.specs.Prelude.{◌≡◌, ℕ, ◌+◌, ◌-◌, ◌%◌, ◌<◌, ◌≤◌, Bool, true, not, ◌&&◌, ◌||◌, ◌≢◌, ◌⊎◌, List, length, ◌==◌}
use Rattle.std.specs.Prelude.{slice_index, slice_index_or}
use Rattle.std.proofs.Math.Logic.{inl, inr, ⊎_elim}
use Rattle.std.proofs.Common.{arith, ne_eqb}
use Rattle.logic.specs.Cases.{same}
use Rattle.logic.specs.Bools.{and_to, and_from}
use Rattle.logic.specs.Every.{all_b}
use Rattle.logic.specs.Reflects.{Reflects, reflects_eq, reflects_and, reflects_all, reflects_as}
use Rattle.sizes.specs.Sizes.{array_words, least_words, most_words, slot_at, last_slot, slot_end, cell_count, cells_at}
use Rattle.sizes.specs.Sizes.{body_words}
use Rattle.sizes.specs.Sizes.{totals_at, total_at, array_at, word_at, cell_at, level_bound, group_count, rest_at, rest_words}
use Rattle.array.specs.Cell.{link_blank}
use Rattle.array.specs.Right.{Right}
use Rattle.calm.specs.Calm.{Settled}
use Rattle.calm.specs.Check.{settled_reflects}
use Rattle.slots.specs.Zeros.{zero_at}
use Rattle.slots.specs.Winner.{won_small}
use Rattle.slots.specs.Slot.{RightSlot, right_slot_b, right_slot_reflects, free_won}
use Rattle.array.specs.Check.{empty_b}
use Rattle.array.specs.CheckReflects.{right_reflects, full_reflects}
use Rattle.tree.specs.Arrays.{Arrays, lev, used_in, used_of}
use Rattle.tree.specs.Shape.{Child, ParentLinks, HasSlot, HasLink}
use Rattle.words.specs.Words.{arrays_of, array_count, words_of, slots_of, bests_of, blocks_of, totals_of}
use Rattle.totals.specs.Check.{SumsAt, sums_reflects, sums_all, sums_one}
use Rattle.totals.specs.Empty.{none_sums}
use Rattle.totals.proofs.Empty.{empty_none}
use Rattle.words.specs.TableBut.{Header, RightSlotsOf, TableBut, Table}
use Rattle.tree.specs.Check.{links_b, parent_links_b, parent_links_reflects}
use Rattle.tree.proofs.Check.{links_reflects}
use Rattle.words.specs.Table.{slots_b, content_b, blank_b, array_b, group_b, header_b, table_b}

-- something in an array
pub some_reflects : (t : Arrays) (a : ℕ) → Reflects (not (empty_b (t.slot a) (t.link a))) (HasSlot t a ⊎ HasLink t a)
some_reflects t a = full_reflects (t.slot a) (t.link a)

-- ---- one array

-- words 0 hold nothing and lead nowhere
module _ (ws : List ℕ) (a : ℕ) (z : (k : ℕ) → slot_at 1 ≤ k → k < totals_at → slice_index ws (word_at a k) ≡ 0) where
  pub blank-slots : (s : ℕ) → 1 ≤ s → s < slot_end → slots_of ws a s ≡ 0
  blank-slots s l h =
      free_won (words_of ws a s) (λ f y. z (slot_at s + f - 1) (omega (arith, y.low)) (omega (arith, y.high)))

  pub blank-links : (i : ℕ) → i < cell_count → (arrays_of ws).link a i ≡ 0
  blank-links i h =
      let e : cell_at a i ≡ word_at a (cells_at + i) = omega arith in
      link_blank _ (rw e (z (cells_at + i) (omega arith) (omega arith)))

record Free (ws : List ℕ) (a : ℕ) : Type 0 where
  pub tag : slice_index_or ws (array_at a) 0 ≡ 0
  pub blank : (k : ℕ) → slot_at 1 ≤ k → k < totals_at → slice_index ws (word_at a k) ≡ 0
  pub totals : (s : ℕ) → 1 ≤ s → s < slot_end → totals_of ws a s ≡ 0

record Used (L : ℕ) (ws : List ℕ) (a : ℕ) : Type 0 where
  pub tag : slice_index_or ws (array_at a) 0 ≢ 0
  pub words : RightSlotsOf ws a
  pub right : Right (lev (arrays_of ws) a) (slots_of ws a) (bests_of ws a)
  pub settled : Settled (slots_of ws a) ((arrays_of ws).link a) (blocks_of ws a)
  pub sums : SumsAt (arrays_of ws) (totals_of ws) a
  pub links : (i : ℕ) → i < cell_count
      → ((arrays_of ws).link a i ≡ 0) ⊎ Child (array_count ws) L (arrays_of ws) a i ((arrays_of ws).link a i)
  pub hung : a ≢ 1 → ParentLinks (array_count ws) (arrays_of ws) a
  pub some : a ≢ 1 → HasSlot (arrays_of ws) a ⊎ HasLink (arrays_of ws) a

free_slots : (ws : List ℕ) (a : ℕ) → Free ws a → (s : ℕ) → 1 ≤ s → s < slot_end → slots_of ws a s ≡ 0
free_slots ws a x = blank-slots ws a x.blank

free_links : (ws : List ℕ) (a : ℕ) → Free ws a → (i : ℕ) → i < cell_count → (arrays_of ws).link a i ≡ 0
free_links ws a x = blank-links ws a x.blank

pub slots_reflects : (ws : List ℕ) (a : ℕ) → Reflects (slots_b ws a) (RightSlotsOf ws a)
unfolding slots_b
slots_reflects ws a =
    reflects_as
    (λ z s h b. let e : s - 1 + 1 ≡ s = omega arith in rw e at (z (s - 1) (omega arith)))
    (λ z s h. z (s + 1) (omega arith) (omega arith))
    (reflects_all (λ s. right_slot_b (words_of ws a (s + 1))) (λ s. RightSlot (words_of ws a (s + 1))) last_slot
    (λ s h. right_slot_reflects (words_of ws a (s + 1))))

module _ (L : ℕ) (ws : List ℕ) (a : ℕ) where
  abbrev t : Arrays
  t = arrays_of ws

  abbrev A : ℕ
  A = array_count ws

  abbrev placed : Bool
  placed = parent_links_b A t a && not (empty_b (slots_of ws a) (t.link a))

  abbrev used_b : Bool
  used_b = content_b ws a && (links_b A L t a && (a == 1 || placed))

  content_reflects : Reflects (content_b ws a)
      (((RightSlotsOf ws a × Right (lev t a) (slots_of ws a) (bests_of ws a))
      × Settled (slots_of ws a) (t.link a) (blocks_of ws a)) × SumsAt t (totals_of ws) a)
  content_reflects =
      reflects_and
      (reflects_and
      (reflects_and (slots_reflects ws a)
      (right_reflects (lev t a) (slots_of ws a) (bests_of ws a) (λ s h b. won_small (words_of ws a s))))
      (settled_reflects (slots_of ws a) (t.link a) (blocks_of ws a)))
      (sums_reflects t (totals_of ws) a)

  used_to : slice_index_or ws (array_at a) 0 ≢ 0 → used_b ≡ true → Used L ws a
  used_to n b =
      let x = and_to (content_b ws a) (links_b A L t a && (a == 1 || placed)) b in
      let w = content_reflects.to x.0 in
      let y = and_to (links_b A L t a) (a == 1 || placed) x.1 in
      record {
        tag = n;
        words = w.0.0.0;
        right = w.0.0.1;
        settled = w.0.1;
        sums = w.1;
        links = (links_reflects A L t a).to y.0;
        hung =
            λ m. ⊎_elim (λ (z : t.tag a ≡ 0). absurd (n z)) (λ (z : ParentLinks A t a). z)
            ((parent_links_reflects A t a).to (rest m y.1).0);
        some = λ m. (some_reflects t a).to (rest m y.1).1;
      }
    where
      rest : a ≢ 1 → (a == 1 || placed) ≡ true → (parent_links_b A t a ≡ true) × (not (empty_b (slots_of ws a) (t.link a)) ≡ true)
      rest m e = and_to (parent_links_b A t a) (not (empty_b (slots_of ws a) (t.link a))) (rw (ne_eqb a 1 m) at e)

  used_from : Used L ws a → used_b ≡ true
  used_from x =
      and_from (content_b ws a) (links_b A L t a && (a == 1 || placed))
      (content_reflects.from (((x.words, x.right), x.settled), x.sums))
      (and_from (links_b A L t a) (a == 1 || placed) ((links_reflects A L t a).from x.links)
      (same a 1 (λ q e. rw e) (λ n e. rw e (and_from (parent_links_b A t a) (not (empty_b (slots_of ws a) (t.link a)))
      ((parent_links_reflects A t a).from (inr (x.hung n))) ((some_reflects t a).from (x.some n))))))

  -- n words of the array from word m on are 0
  pub zeros_reflect : (m n : ℕ)
      → Reflects (all_b (zero_at ws (array_at a + m)) n) ((k : ℕ) → m ≤ k → k < m + n → slice_index ws (word_at a k) ≡ 0)
  zeros_reflect m n =
      reflects_as
      (λ z k h w. (let e : array_at a + m + (k - m) ≡ word_at a k = omega arith in rw e at (z (k - m) (omega arith))))
      (λ z k h. (let e : array_at a + m + k ≡ word_at a (m + k) = omega arith in rw e (z (m + k) (omega arith) (omega arith))))
      (reflects_all (zero_at ws (array_at a + m)) (λ k. slice_index ws (array_at a + m + k) ≡ 0) n
      (λ k h. reflects_eq (slice_index ws (array_at a + m + k)) 0))

  free_reflects : slice_index_or ws (array_at a) 0 ≡ 0 → Reflects (blank_b ws a) (Free ws a)
  free_reflects z =
      reflects_as
      (λ x. record {
        tag = z;
        blank = λ k h w. x.0 k h (omega arith);
        totals = λ s l h. x.1 (total_at s) (omega arith) (omega arith);
      })
      (λ x. (
        λ k h w. x.blank k h (omega arith),
        λ k h w. (let e : total_at (k - totals_at) ≡ k = omega arith in
            rw e at (x.totals (k - totals_at) (omega arith) (omega arith))),
      ))
      (reflects_and (zeros_reflect (slot_at 1) body_words) (zeros_reflect (total_at 1) last_slot))

  array_reflects : Reflects (array_b L ws a) (Free ws a ⊎ Used L ws a)
  unfolding array_b
  array_reflects =
      same (slice_index ws (array_at a)) 0
      (λ z e. rw e (record {
        to = λ b. inl ((free_reflects z).to b);
        from = λ b. ⊎_elim (λ (x : Free ws a). (free_reflects z).from x) (λ (x : Used L ws a). absurd (x.tag z)) b;
      }))
      (λ n e. rw e (record {
        to = λ b. inr (used_to n b);
        from = λ b. ⊎_elim (λ (x : Free ws a). absurd (n x.tag)) (λ (x : Used L ws a). used_from x) b;
      }))

-- a free array of a table is blank
pub blank_array : (L e : ℕ) (ws : List ℕ) → TableBut L e ws → (a : ℕ) → 1 ≤ a → a ≤ array_count ws
    → slice_index ws (array_at a) ≡ 0
    → blank_b ws a ≡ true
blank_array L e ws k a h w z =
    let blank = k.blank a h w z in
    (free_reflects L ws a z).from (record {
      tag = z;
      blank = blank;
      totals = empty_none (array_count ws) (arrays_of ws) (totals_of ws) a k.sums h w (blank-slots ws a blank)
          (blank-links ws a blank);
    })

-- ---- the header, and all words

abbrev Rest : List ℕ → Type 0
Rest ws = (k : ℕ) → rest_at ≤ k → k < array_words → slice_index ws k ≡ 0

header_reflects : (ws : List ℕ) → Reflects (header_b ws) (Header ws × Rest ws)
unfolding header_b group_b
header_reflects ws =
    reflects_as
    (λ z. (
      record { count = z.0; groups = z.1.0 },
      λ k h w. let e : rest_at + (k - rest_at) ≡ k = omega arith in
          rw e at (z.1.1 (k - rest_at) (omega arith)),
    ))
    (λ z. (z.0.count, (z.0.groups, λ k h. z.1 (rest_at + k) (omega arith) (omega arith))))
    (reflects_and (reflects_eq (slice_index ws 0) (used_in (arrays_of ws) 0 (array_count ws)))
    (reflects_and
    (reflects_all (group_b ws) (λ g. slice_index ws (g + 1) ≡ used_of (arrays_of ws) g) group_count
    (λ g h. reflects_eq (slice_index ws (g + 1)) (used_of (arrays_of ws) g)))
    (reflects_all (zero_at ws rest_at) (λ k. slice_index ws (rest_at + k) ≡ 0) rest_words
    (λ k h. reflects_eq (slice_index ws (rest_at + k)) 0))))

-- n words make a table's size
pub record Fits (n : ℕ) : Type 0 where
  pub whole : n % array_words ≡ 0
  pub low : least_words ≤ n
  pub high : n ≤ most_words

module _ (L : ℕ) (ws : List ℕ) (some : 1 ≤ L) (levels : L < level_bound) (size : Fits (length ws)) where
  abbrev Each : Type 0
  Each = (j : ℕ) → j < array_count ws → Free ws (j + 1) ⊎ Used L ws (j + 1)

  one : Each → (a : ℕ) → 1 ≤ a → a ≤ array_count ws → Free ws a ⊎ Used L ws a
  one f a h w = let e : a - 1 + 1 ≡ a = omega arith in rw e at (f (a - 1) (omega arith))

  to_table : slice_index_or ws array_words 0 ≡ 1 → Header ws × Rest ws → Each → Table L ws
  to_table r hd f = record {
    whole = size.whole;
    low = size.low;
    high = size.high;
    shape = record {
      many = omega (arith, size.low);
      some_level = some;
      levels = levels;
      root = r;
      links = λ a i h w b. ⊎_elim
          (λ (x : Free ws a). inl (free_links ws a x i b))
          (λ (x : Used L ws a). x.links i b) (one f a h w);
      tags =
          λ a h w. ⊎_elim (λ (x : Free ws a). inl x.tag) (λ (x : Used L ws a). inr (x.hung (λ e. omega arith)))
          (one f a (omega arith) w);
    };
    filled =
        λ a h w m p. ⊎_elim (λ (x : Free ws a). absurd (omega (arith, x.tag))) (λ (x : Used L ws a). x.some (λ e. omega arith))
        (one f a (omega arith) w);
    blank = λ a h w z. ⊎_elim (λ (x : Free ws a). x.blank) (λ (x : Used L ws a). absurd (x.tag z)) (one f a h w);
    words =
        λ a s h w p. ⊎_elim (λ (x : Free ws a). absurd (omega (arith, x.tag))) (λ (x : Used L ws a). x.words s) (one f a h w);
    right = λ a h w p. ⊎_elim (λ (x : Free ws a). absurd (omega (arith, x.tag))) (λ (x : Used L ws a). x.right) (one f a h w);
    settled =
        λ a h w p. ⊎_elim (λ (x : Free ws a). absurd (omega (arith, x.tag))) (λ (x : Used L ws a). x.settled) (one f a h w);
    sums = sums_all (array_count ws) (arrays_of ws) (totals_of ws) (λ a h w. ⊎_elim
        (λ (x : Free ws a). none_sums (arrays_of ws) (totals_of ws) a (free_slots ws a x) (free_links ws a x) x.totals)
        (λ (x : Used L ws a). x.sums) (one f a h w));
    header = hd.0;
    rest = hd.1;
  }

  from_table : Table L ws → Each
  from_table k j h =
      same (slice_index ws (array_at (j + 1))) 0
      (λ z _. inl ((free_reflects L ws (j + 1) z).to (blank_array L 0 ws k (j + 1) (omega arith) (omega arith) z)))
      (λ m _. inr (record {
        tag = m;
        words = λ s x y. k.words (j + 1) s (omega arith) (omega arith) (omega arith) x y;
        right = k.right (j + 1) (omega arith) (omega arith) (omega arith);
        settled = k.settled (j + 1) (omega arith) (omega arith) (omega arith);
        sums = sums_one (array_count ws) (arrays_of ws) (totals_of ws) k.sums (j + 1) (omega arith) (omega arith);
        links = λ i b. k.shape.links (j + 1) i (omega arith) (omega arith) b;
        hung =
            λ e. ⊎_elim (λ (z : (arrays_of ws).tag (j + 1) ≡ 0). absurd (m z))
            (λ (z : ParentLinks (array_count ws) (arrays_of ws) (j + 1)). z) (k.shape.tags (j + 1) (omega arith) (omega arith));
        some = λ e. k.filled (j + 1) (omega arith) (omega arith) (λ q. omega arith) (omega arith);
      }))

  -- the check is true exactly of a table
  pub table_reflects : Reflects (table_b L ws) (Table L ws)
  unfolding table_b
  table_reflects =
      reflects_as
      (λ z. to_table z.0 z.1.0 z.1.1)
      (λ k. (k.shape.root, ((k.header, k.rest), from_table k)))
      (reflects_and (reflects_eq (slice_index ws array_words) 1)
      (reflects_and (header_reflects ws)
      (reflects_all (λ j. array_b L ws (j + 1)) (λ j. Free ws (j + 1) ⊎ Used L ws (j + 1)) (array_count ws)
      (λ j h. array_reflects L ws (j + 1)))))
