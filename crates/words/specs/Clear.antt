-- The cleared words are a table that holds nothing. Assumes nothing.
use Rattle.std.specs.Prelude.{◌≡◌, ℕ, zero, suc, ◌+◌, ◌-◌, ◌*◌, ◌/◌, ◌%◌, ◌^◌, ◌<◌, ◌≤◌, false, ◌≢◌, List, [], length, replicate}
use Rattle.std.specs.Prelude.{slice_index, slice_index_or, slice_set, refl}
use Rattle.std.proofs.Common.{sym, ap, ap₂, ◌∙◌, inl, arith, length-set}
use Rattle.std.proofs.Math.ListN.{length-replicate, get_or-eq_default}
use Rattle.std.proofs.lemmas.List.{get_or-replicate}
use Rattle.std.proofs.Math.Seq.{get_or-set_same, get_or-set_other}
use Rattle.logic.specs.Cases.{same, less}
use Rattle.sizes.specs.Sizes.{slot_at, total_at, array_words, least_words, most_words, array_at, word_at, cell_at, level_bound}
use Rattle.sizes.specs.Sizes.{per_group}
use Rattle.routes.specs.Room.{level}
use Rattle.calm.specs.Same.{none_settled}
use Rattle.slots.specs.Word.{IsFeed}
use Rattle.slots.specs.Word.{right_none as no_word}
use Rattle.slots.specs.Slot.{free_won}
use Rattle.array.specs.Cell.{block_in, link_blank, best-blank}
use Rattle.array.specs.Right.{right_none}
use Rattle.tree.specs.Arrays.{Arrays, lev, node, held, depth_of, slot_of, used_in}
use Rattle.tree.specs.Need.{at_some, slot_some}
use Rattle.tree.specs.SlotSet.{at_none}
use Rattle.totals.specs.Check.{sums_all}
use Rattle.totals.specs.Empty.{none_sums}
use Rattle.gather.specs.Gather.{gathered}
use Rattle.gather.specs.Views.{feed_view, word_held}
use Rattle.gather.proofs.Hung.{gathered_none}
use Rattle.words.specs.Words.{feeds_of, arrays_of, words_of, slots_of, bests_of, blocks_of, totals_of}
use Rattle.words.specs.TableBut.{TableBut, Table}
use Rattle.candidates.specs.Seen.{table, misfits, arrays}
use Rattle.words.specs.Table.{list_of, seen}
use Rattle.words.specs.CheckReflects.{Fits}
use Rattle.words.specs.View.{no_misfit_fits, seen_table}

unfoldable pub cleared : ℕ → List ℕ
cleared n = slice_set (slice_set (slice_set (replicate n 0) 0 1) 1 1) array_words 1

module _ (n : ℕ) (low : least_words ≤ n) where
  abbrev z : List ℕ
  z = replicate n 0

  zero_word : (k : ℕ) → ◌≡◌ {A = ℕ} (slice_index (replicate n 0) k) 0
  zero_word k =
      less k n (λ h _. get_or-replicate n k 0 0 h)
      (λ h _. get_or-eq_default (replicate n 0) 0 {n = k} (rw (length-replicate {A = ℕ} n 0) h))

  pub cleared-length : length (cleared n) ≡ n
  unfolding cleared
  cleared-length = simp (length-set, length-replicate)

  pub cleared-word : (k : ℕ) → k ≢ 0 → k ≢ 1 → k ≢ array_words → slice_index (cleared n) k ≡ 0
  unfolding cleared
  cleared-word k a b c =
      get_or-set_other (slice_set (slice_set z 0 1) 1 1) array_words k 1 0 c ∙ get_or-set_other (slice_set z 0 1) 1 k 1 0 b
      ∙ get_or-set_other z 0 k 1 0 a
      ∙ zero_word k

  cleared-count : slice_index_or (cleared n) 0 0 ≡ 1
  unfolding cleared
  cleared-count =
      get_or-set_other (slice_set (slice_set z 0 1) 1 1) array_words 0 1 0 (λ e. omega arith)
      ∙ get_or-set_other (slice_set z 0 1) 1 0 1 0 (λ e. omega arith)
      ∙ get_or-set_same z 0 1 0 (simp length-replicate (omega arith))

  cleared-group : slice_index_or (cleared n) 1 0 ≡ 1
  unfolding cleared
  cleared-group =
      get_or-set_other (slice_set (slice_set z 0 1) 1 1) array_words 1 1 0 (λ e. omega arith)
      ∙ get_or-set_same (slice_set z 0 1) 1 1 0 (simp (length-set, length-replicate) (omega arith))

  cleared_root : slice_index_or (cleared n) array_words 0 ≡ 1
  unfolding cleared
  cleared_root = get_or-set_same (slice_set (slice_set z 0 1) 1 1) array_words 1 0
      (simp (length-set, length-replicate) (omega arith))

  abbrev t : Arrays
  t = arrays_of (cleared n)

  tag_none : (c : ℕ) → 2 ≤ c → t.tag c ≡ 0
  tag_none c h = cleared-word (array_at c) (λ e. omega arith) (λ e. omega arith) (λ e. omega arith)

  cell_none : (c i : ℕ) → 1 ≤ c → slice_index (cleared n) (cell_at c i) ≡ 0
  cell_none c i h = cleared-word (cell_at c i) (λ e. omega arith) (λ e. omega arith) (λ e. omega arith)

  link_none : (c i : ℕ) → 1 ≤ c → t.link c i ≡ 0
  link_none c i h = link_blank _ (cell_none c i h)

  body_none : (c k : ℕ) → 1 ≤ c → 1 ≤ k → slice_index (cleared n) (word_at c k) ≡ 0
  body_none c k h l = cleared-word (word_at c k) (λ e. omega arith) (λ e. omega arith) (λ e. omega arith)

  word_none : (c s f : ℕ) → 1 ≤ c → 1 ≤ s → IsFeed f → words_of (cleared n) c s f ≡ 0
  word_none c s f h l y = body_none c (slot_at s + f - 1) h (omega (arith, y.low))

  slot_none : (c s : ℕ) → 1 ≤ c → 1 ≤ s → t.slot c s ≡ 0
  slot_none c s h l = free_won (words_of (cleared n) c s) (λ f y. word_none c s f h l y)

  used_none : (lo m : ℕ) → 1 ≤ lo → used_in t lo m ≡ 0
  used_none lo zero h = refl
  used_none lo (suc m) h = rw (tag_none (lo + suc m) (omega arith), used_none lo m h)

  used_root : (m : ℕ) → used_in t 0 (suc m) ≡ 1
  used_root zero = rw cleared_root
  used_root (suc m) = rw (tag_none (0 + suc (suc m)) (omega arith), used_root m)

  pub cleared_table : (L : ℕ) → 1 ≤ L → L < level_bound → n % array_words ≡ 0 → n ≤ most_words → TableBut L 0 (cleared n)
  cleared_table L l w whole high = record {
    whole = rw cleared-length whole;
    low = rw cleared-length low;
    high = rw cleared-length high;
    shape = record {
      many = rw cleared-length (omega arith);
      some_level = l;
      levels = w;
      root = cleared_root;
      links = λ a i h k b. inl (link_none a i h);
      tags = λ a h k. inl (tag_none a h);
    };
    filled = λ a h k m p. absurd (omega (arith, tag_none a h));
    blank = λ a h k e j o b. body_none a j h (omega arith);
    words = λ a s h k p m b f y. rw (word_none a s f h m y) no_word;
    right = λ a h k p. right_none (lev t a) (slots_of (cleared n) a) (bests_of (cleared n) a) (λ s m b. slot_none a s h m)
        (λ i b. best-blank _ (cell_none a i h));
    settled = λ a h k p. none_settled (slots_of (cleared n) a) (t.link a) (λ r m b. slot_none a r h m) (λ j b. link_none a j h)
        (blocks_of (cleared n) a) (λ j b. ap block_in (cell_none a j h));
    sums = sums_all _ t (totals_of (cleared n)) (λ a h k. none_sums t (totals_of (cleared n)) a (λ s m b. slot_none a s h m)
        (λ i b. link_none a i h) (λ s m b. body_none a (total_at s) h (omega arith)));
    header = record {
      count = rw cleared-length
          (let d : n / array_words - 1 ≡ suc (n / array_words - 2) = omega arith in
          rw d (cleared-count ∙ sym (used_root (n / array_words - 2))));
      groups = λ g b. same g 0
          (λ e _. rw e (cleared-group ∙ sym (used_root 7)))
          (λ e _. cleared-word (g + 1) (λ q. omega arith) (λ q. omega arith) (λ q. omega arith)
          ∙ sym (used_none (per_group * g) per_group (omega arith)));
    };
    rest = λ k h b. cleared-word k (λ q. omega arith) (λ q. omega arith) (λ q. omega arith);
  }

  cleared-held : (v l f : ℕ) → IsFeed f → word_held (feeds_of (cleared n)) v l f ≡ 0
  unfolding held
  cleared-held v l f y =
      let u = feed_view (feeds_of (cleared n)) f in
      let a = node u (v / 2 ^ depth_of l) (level l) in
      let s = slot_of v l in
      same a 0
      (λ e _. at_none u a s e)
      (λ m _. at_some u a s (omega arith) ∙ word_none a s f (omega arith) (slot_some v l) y)

pub cleared_candidates : (n W : ℕ) → least_words ≤ n → gathered W (word_held (feeds_of (cleared n))) ≡ []
cleared_candidates n W low = gathered_none (word_held (feeds_of (cleared n))) (cleared-held n low) W

-- ---- words of a right size, cleared

module _ (L n : ℕ) (some : 1 ≤ L) (levels : L < level_bound) (fits : misfits n ≡ false) where
  abbrev size : Fits n
  size = no_misfit_fits n fits

  cleared_is_table : Table L (cleared n)
  cleared_is_table = cleared_table n size.low L some levels size.whole size.high

  -- the empty list
  cleared_list : list_of L (cleared n) ≡ []
  cleared_list = cleared_candidates n (8 * L) size.low

  pub cleared-seen : seen L (cleared n) ≡ table (arrays n) []
  cleared-seen =
      seen_table L (cleared n) cleared_is_table
      ∙ ap₂ table (ap (λ (k : ℕ). k / array_words - 1) (cleared-length n size.low)) cleared_list
