-- One array's words lent as a part of all: what the check of one page says of the part, it says of the array. Assumes nothing.
use Rattle.std.specs.Prelude.{◌≡◌, ℕ, zero, suc, ◌+◌, ◌-◌, ◌<◌, ◌≤◌, Bool, List, slice_index, refl}
use Rattle.std.proofs.Common.{sym, ap, ◌∙◌, true≢false, arith}
use Rattle.logic.specs.Cases.{bool}
use Rattle.logic.specs.Reflects.{Reflects}
use Rattle.sizes.specs.Sizes.{slot_words, slot_at, last_slot, slot_end, cell_count, cells_at, word_at, cell_at}
use Rattle.slots.specs.Taken.{taken}
use Rattle.slots.specs.Word.{IsFeed, hop_in}
use Rattle.slots.specs.Winner.{winner_same, won_small}
use Rattle.slots.specs.Slot.{RightSlot}
use Rattle.slots.specs.Page.{words_at}
use Rattle.slots.specs.Count.{sum_feeds, feed_taken, candidates_to}
use Rattle.slots.specs.Check.{RightSlots, right_slots_b, right_slots_reflects}
use Rattle.calm.specs.Check.{settled_b, settled_reflects}
use Rattle.calm.specs.Calm.{Settled}
use Rattle.calm.specs.Same.{settled_ext}
use Rattle.array.specs.Cell.{best_in, link_in, block_in}
use Rattle.array.specs.Page.{slots, bests, links, blocks}
use Rattle.array.specs.Frame.{page_of, page_word}
use Rattle.array.specs.Check.{right_b, empty_b}
use Rattle.array.specs.CheckReflects.{right_reflects, empty_reflects}
use Rattle.array.specs.Cover.{page_hops}
use Rattle.array.specs.Right.{right_ext}
use Rattle.gather.specs.Counted.{sum_same}
use Rattle.words.specs.Words.{arrays_of, words_of, slots_of, bests_of, blocks_of}
use Rattle.words.specs.TableBut.{RightSlotsOf}
use Rattle.words.specs.Table.{slots_b}
use Rattle.words.specs.CheckReflects.{slots_reflects}

-- two tests of statements that follow from each other
reflects_same : {b c : Bool} {P Q : Type 0} → Reflects b P → Reflects c Q → (P → Q) → (Q → P) → b ≡ c
reflects_same {b} {c} p q f g =
    bool b
    (λ x. x ∙ sym (q.from (f (p.to x))))
    (λ x. bool c (λ y. absurd (true≢false (sym (p.from (g (q.to y))) ∙ x))) (λ y. x ∙ sym y))

taken_ext : (f g : ℕ → ℕ) (n : ℕ) → ((s : ℕ) → 1 ≤ s → s ≤ n → f s ≡ g s) → taken f n ≡ taken g n
unfolding taken
taken_ext f g zero e = refl
taken_ext f g (suc n) e = rw (e (n + 1) (omega arith) (omega arith), taken_ext f g n (λ s h w. e s h (omega arith)))

right_as : (f g : ℕ → ℕ) → ((j : ℕ) → IsFeed j → g j ≡ f j) → RightSlot f → RightSlot g
right_as f g e r j i = rw (e j i) (r j i)

module _ (ws : List ℕ) (a : ℕ) where
  abbrev b : List ℕ
  b = page_of ws a

  pub lent_word : (s f : ℕ) → s < slot_end → IsFeed f → words_at b (slot_at s) f ≡ words_of ws a s f
  lent_word s f h i = page_word ws a (slot_at s + f - 1) (omega (arith, i.high))

  pub lent_slot : (s : ℕ) → s < slot_end → slots b s ≡ slots_of ws a s
  lent_slot s h = ap hop_in (winner_same (words_at b (slot_at s)) (words_of ws a s) (λ f i. lent_word s f h i))

  -- the words of the slots are right in the page where they are in the array
  pub page_slots : RightSlotsOf ws a → RightSlots b
  page_slots z s h w = right_as (words_of ws a s) (words_at b (slot_at s)) (λ f i. lent_word s f w i) (z s h w)

  pub slots_page : RightSlots b → RightSlotsOf ws a
  slots_page z s h w = right_as (words_at b (slot_at s)) (words_of ws a s) (λ f i. sym (lent_word s f w i)) (z s h w)

  pub lent_slots : right_slots_b b ≡ slots_b ws a
  lent_slots = reflects_same (right_slots_reflects b) (slots_reflects ws a) slots_page page_slots

  pub lent_cell : (i : ℕ) → i < cell_count → slice_index b (cells_at + i) ≡ slice_index ws (cell_at a i)
  lent_cell i h =
      let e : cell_at a i ≡ word_at a (cells_at + i) = omega arith in rw e (page_word ws a (cells_at + i) (omega arith))

  pub lent_best : (i : ℕ) → i < cell_count → bests b i ≡ bests_of ws a i
  lent_best i h = ap best_in (lent_cell i h)

  pub lent_link : (i : ℕ) → i < cell_count → links b i ≡ (arrays_of ws).link a i
  lent_link i h = ap link_in (lent_cell i h)

  pub lent_right : (k : ℕ) → right_b k (slots b) (bests b) ≡ right_b k (slots_of ws a) (bests_of ws a)
  lent_right k =
      reflects_same (right_reflects k (slots b) (bests b) (page_hops b))
      (right_reflects k (slots_of ws a) (bests_of ws a) (λ s h w. won_small (words_of ws a s)))
      (right_ext k (slots b) (bests b) (slots_of ws a) (bests_of ws a) (λ s _ h. sym (lent_slot s h))
      (λ i h. sym (lent_best i h)))
      (right_ext k (slots_of ws a) (bests_of ws a) (slots b) (bests b) (λ s _ h. lent_slot s h) (λ i h. lent_best i h))

  pub lent_block : (i : ℕ) → i < cell_count → blocks b i ≡ blocks_of ws a i
  lent_block i h = ap block_in (lent_cell i h)

  -- the blocks of the page are right where those of the array are
  pub page_settled : Settled (slots_of ws a) ((arrays_of ws).link a) (blocks_of ws a) → Settled (slots b) (links b) (blocks b)
  page_settled =
      settled_ext (slots_of ws a) ((arrays_of ws).link a) (blocks_of ws a) (slots b) (links b) (blocks b)
      (λ s _ h. lent_slot s h) (λ i h. lent_link i h) (λ i h _. lent_block i h)

  pub settled_page : Settled (slots b) (links b) (blocks b) → Settled (slots_of ws a) ((arrays_of ws).link a) (blocks_of ws a)
  settled_page =
      settled_ext (slots b) (links b) (blocks b) (slots_of ws a) ((arrays_of ws).link a) (blocks_of ws a)
      (λ s _ h. sym (lent_slot s h)) (λ i h. sym (lent_link i h)) (λ i h _. sym (lent_block i h))

  pub lent_settled : settled_b (slots b) (links b) (blocks b) ≡ settled_b (slots_of ws a) ((arrays_of ws).link a) (blocks_of ws a)
  lent_settled =
      reflects_same (settled_reflects (slots b) (links b) (blocks b))
      (settled_reflects (slots_of ws a) ((arrays_of ws).link a) (blocks_of ws a))
      settled_page page_settled

  pub lent_empty : empty_b (slots b) (links b) ≡ empty_b (slots_of ws a) ((arrays_of ws).link a)
  lent_empty =
      reflects_same (empty_reflects (slots b) (links b)) (empty_reflects (slots_of ws a) ((arrays_of ws).link a))
      (λ z. record { slots = λ s l h. sym (lent_slot s h) ∙ z.slots s l h; links = λ i h. sym (lent_link i h) ∙ z.links i h })
      (λ z. record { slots = λ s l h. lent_slot s h ∙ z.slots s l h; links = λ i h. lent_link i h ∙ z.links i h })

  pub lent_candidates : candidates_to b last_slot ≡ sum_feeds (λ f. taken (λ s. words_of ws a s f) last_slot) 1 slot_words
  lent_candidates =
      sum_same (feed_taken b last_slot) (λ f. taken (λ s. words_of ws a s f) last_slot) 1 slot_words
      (λ f x y. taken_ext (λ s. words_at b (slot_at s) f) (λ s. words_of ws a s f) last_slot
      (λ s h w. lent_word s f (omega arith) (record { low = x; high = omega arith })))
